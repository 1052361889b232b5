-- The values of a proposition's nodes end with its verdict, and its nodes go on with the history.
use Rattle.std.proofs.Common.{◌≡◌, ℕ, suc, ◌+◌, ◌-◌, ℤ, Bool, true, false, not, List, [], ◌∷◌, ◌++◌, map, length, get_or, refl, sym, ◌∙◌, ap, subst, arith, append_assoc, length-append}
use Rattle.std.proofs.Math.Seq.{get_or-append_seam}
use Rattle.sy_base.specs.declared.time.TimeUnit.{TimeUnit}
use Rattle.sy_core.specs.declared.proposition.Prop.{Prop}
use Rattle.sy_core.specs.declared.proposition.Prop.TheOpen.{Prop-F}
use Rattle.sy_core.specs.declared.proposition.Prop.TheOpen as P
use Rattle.sy_core.specs.declared.proposition.Prop.TheViews.{roll-Prop}
use Rattle.sy_core.specs.declared.proposition.Prop.TheFolds.{fold-roll-Prop, map-Prop, ind-Prop}
use Rattle.sy_core.specs.declared.table.Verdict.{Verdict}
use Rattle.sy_core.specs.declared.table.Verdict.TheVariants as V
use Rattle.sy_core.specs.Propositions.{verdict_by, opposite, lesser, greater, least, greatest, verdict_step, verdict_at}
use Rattle.sy_atoms.specs.declared.atom.Atom.{Atom}
use Rattle.sy_quiet.specs.Histories.{History}
use Rattle.sy_atoms.specs.Machine.Atoms.{happens_of, before_of, after_of, within_of, occurs_of, holds_of, atom_verdict}
use Rattle.sy_atoms.proofs.AtomLaws.{happens_tells, before_tells, after_tells, within_tells, occurs_tells}
use Rattle.sy_prop.specs.declared.node.Node.{Node}
use Rattle.sy_prop.specs.declared.node.Node.TheVariants as N
use Rattle.sy_prop.specs.Machine.Tables.{chain, chain_from, nodes_step, nodes_of_prop, last_of, node_value, values_from}

append_none : {X : Type 0} (xs : List X) → xs ++ [] ≡ xs
append_none [] = refl
append_none (x ∷ xs) = ap (λ ys. x ∷ ys) (append_none xs)

lesser_assoc : (a b c : Verdict) → lesser (lesser a b) c ≡ lesser a (lesser b c)
lesser_assoc V.False b c = refl
lesser_assoc V.True b c = refl
lesser_assoc V.Open V.False c = refl
lesser_assoc V.Open V.True c = refl
lesser_assoc V.Open V.Open V.False = refl
lesser_assoc V.Open V.Open V.True = refl
lesser_assoc V.Open V.Open V.Open = refl

lesser-true : (a : Verdict) → lesser a V.True ≡ a
lesser-true V.False = refl
lesser-true V.Open = refl
lesser-true V.True = refl

greater_assoc : (a b c : Verdict) → greater (greater a b) c ≡ greater a (greater b c)
greater_assoc V.True b c = refl
greater_assoc V.False b c = refl
greater_assoc V.Open V.True c = refl
greater_assoc V.Open V.False c = refl
greater_assoc V.Open V.Open V.True = refl
greater_assoc V.Open V.Open V.False = refl
greater_assoc V.Open V.Open V.Open = refl

greater-false : (a : Verdict) → greater a V.False ≡ a
greater-false V.False = refl
greater-false V.Open = refl
greater-false V.True = refl

last_is : (xs : List Verdict) (v : Verdict) → last_of (xs ++ v ∷ []) ≡ v
last_is xs v =
    let e : length (xs ++ v ∷ []) - 1 ≡ length xs = omega (arith, length-append xs (v ∷ [])) in
    ap (λ k. get_or (xs ++ v ∷ []) k V.Open) e ∙ get_or-append_seam xs v [] V.Open

module _ (point : ℤ) where
  pub values_append : (values : List Verdict) (xs ys : List Node) → values_from point values (xs ++ ys) ≡ values_from point (values_from point values xs) ys
  values_append values [] ys = refl
  values_append values (x ∷ xs) ys = values_append (values ++ node_value point values x ∷ []) xs ys

  -- after any values, these nodes add some and then this verdict
  unfoldable pub ToldBy : (ℕ → List Node) → Verdict → Type 0
  ToldBy nodes v = (values : List Verdict) → (front : List Verdict) × (values_from point values (nodes (length values)) ≡ values ++ front ++ v ∷ []) × (length (nodes (length values)) ≡ suc (length front))

  pub one_told : (x : Node) (v : Verdict) → ((values : List Verdict) → node_value point values x ≡ v) → ToldBy (λ n. x ∷ []) v
  unfolding ToldBy
  one_told x v e = λ values. ([], (let a = append_none values in λ j. sym a j ++ e values j ∷ []), refl)

  not_told : (part : ℕ → List Node) (v : Verdict) → ToldBy part v → ToldBy (λ n. part n ++ N.Not ∷ []) (opposite v)
  unfolding ToldBy
  not_told part v told = λ values.
      let t = told values in
      let whole = values ++ t.0 ++ v ∷ [] in (
        t.0 ++ v ∷ [],
        values_append values (part (length values)) (N.Not ∷ [])
            ∙ (ap (λ a. a ++ opposite (last_of a) ∷ []) t.1
            ∙ (ap (λ w. whole ++ opposite w ∷ []) (last_is (values ++ t.0) v)
            ∙ ap (λ l. l ++ opposite v ∷ []) (append_assoc values t.0 (v ∷ [])))),
        omega (arith, t.2, length-append (part (length values)) (N.Not ∷ []), length-append t.0 (v ∷ [])),
      )

  -- after values that end with one, a chain ends with that joined with those of its parts
  unfoldable pub ChainTold : (ℕ → Node) → (Verdict → Verdict → Verdict) → List (ℕ → List Node) → Verdict → Type 0
  ChainTold join op parts w = (before : List Verdict) (u : Verdict) → (front : List Verdict) × (values_from point (before ++ u ∷ []) (chain_from join parts (length (before ++ u ∷ []))) ≡ before ++ front ++ op u w ∷ []) × (length (chain_from join parts (length (before ++ u ∷ []))) ≡ length front)

  none_chained : (join : ℕ → Node) (op : Verdict → Verdict → Verdict) (w : Verdict) → ((u : Verdict) → op u w ≡ u) → ChainTold join op [] w
  unfolding ChainTold
  none_chained join op w same = λ before u. ([], (let a = append_none before in let b = same u in λ j. sym a j ++ sym b j ∷ []), refl)

  more_chained : (join : ℕ → Node) (op : Verdict → Verdict → Verdict) (assoc : (a b c : Verdict) → op (op a b) c ≡ op a (op b c)) (join_is : (values : List Verdict) (k : ℕ) → node_value point values (join k) ≡ op (get_or values k V.Open) (last_of values)) (part : ℕ → List Node) (parts : List (ℕ → List Node)) (v w : Verdict) → ToldBy part v → ChainTold join op parts w → ChainTold join op (part ∷ parts) (op v w)
  unfolding ToldBy ChainTold
  more_chained join op assoc join_is part parts v w told chained = λ before u.
      let acc = before ++ u ∷ [] in
      let n = length acc in
      let t = told acc in
      let some = acc ++ t.0 ++ v ∷ [] in
      let z = op u v in
      let c = chained some z in
      let m = n + length (part n) + 1 in
      let some_length : length (some ++ z ∷ []) ≡ m = omega (arith, t.2, length-append acc t.0, length-append (acc ++ t.0) (v ∷ []), length-append some (z ∷ [])) in
      let place : n - 1 ≡ length before = omega (arith, length-append before (u ∷ [])) in
      let a1 = append_assoc (acc ++ t.0) (v ∷ []) [] in
      let shape = append_assoc acc t.0 (v ∷ []) ∙ append_assoc before (u ∷ []) (t.0 ++ v ∷ []) in
      let first = ap (λ k. get_or some k V.Open) place ∙ (ap (λ l. get_or l (length before) V.Open) shape ∙ get_or-append_seam before u (t.0 ++ v ∷ []) V.Open) in
      let last = last_is (acc ++ t.0) v in
      let rest = chain_from join parts in (
        u ∷ (t.0 ++ v ∷ c.0),
        values_append acc (part n) (join (n - 1) ∷ rest m)
            ∙ (ap (λ a. values_from point a (join (n - 1) ∷ rest m)) t.1
            ∙ (ap (λ x. values_from point (some ++ x ∷ []) (rest m)) (join_is some (n - 1) ∙ (λ j. op (first j) (last j)))
            ∙ (ap (λ k. values_from point (some ++ z ∷ []) (rest k)) (sym some_length)
            ∙ (c.1 ∙ (λ j. (tail_shape before u t.0 v c.0 j) ++ assoc u v w j ∷ []))))),
        omega (arith, t.2, c.2, ap (λ k. length (rest k)) some_length, length-append (part n) (join (n - 1) ∷ rest m), length-append t.0 (v ∷ c.0)),
      )
    where
      tail_shape : (before : List Verdict) (u : Verdict) (xs : List Verdict) (v : Verdict) (ys : List Verdict) → (before ++ u ∷ [] ++ xs ++ v ∷ []) ++ ys ≡ before ++ u ∷ (xs ++ v ∷ ys)
      tail_shape before u xs v ys =
          append_assoc (before ++ u ∷ [] ++ xs) (v ∷ []) ys
          ∙ (append_assoc (before ++ u ∷ []) xs (v ∷ ys) ∙ append_assoc before (u ∷ []) (xs ++ v ∷ ys))

  chain_told : (first : Bool) (u : Verdict) (start : (values : List Verdict) → node_value point values (N.Const first) ≡ u) (join : ℕ → Node) (op : Verdict → Verdict → Verdict) (begins : (w : Verdict) → op u w ≡ w) (parts : List (ℕ → List Node)) (w : Verdict) → ChainTold join op parts w → ToldBy (chain first join parts) w
  unfolding ToldBy ChainTold
  chain_told first u start join op begins parts w chained = λ values.
      let c = chained values u in
      let e : length (values ++ u ∷ []) ≡ length values + 1 = length-append values (u ∷ []) in
      let rest = chain_from join parts in (
        c.0,
        ap (λ x. values_from point (values ++ x ∷ []) (rest (length values + 1))) (start values)
            ∙ (ap (λ k. values_from point (values ++ u ∷ []) (rest k)) (sym e)
            ∙ (c.1 ∙ ap (λ x. values ++ c.0 ++ x ∷ []) (begins w))),
        omega (arith, c.2, ap (λ k. length (rest k)) e),
      )

  module _ (unit : TimeUnit) (h : History) (here : h.now.point ≡ point) where
    abbrev verdict : Prop → Verdict
    verdict = verdict_at unit h.now h.before

    abbrev Told : Prop → Type 0
    Told p = ToldBy (nodes_of_prop unit h p) (verdict p)

    all_chained : (ps : List ((p : Prop) × Told p)) → ChainTold N.Both lesser (map (nodes_of_prop unit h) (map (λ e. e.0) ps)) (least (map verdict (map (λ e. e.0) ps)))
    all_chained [] = none_chained N.Both lesser V.True lesser-true
    all_chained (e ∷ ps) = more_chained N.Both lesser lesser_assoc (λ values k. refl) (nodes_of_prop unit h e.0) (map (nodes_of_prop unit h) (map (λ e. e.0) ps)) (verdict e.0) (least (map verdict (map (λ e. e.0) ps))) e.1 (all_chained ps)

    any_chained : (ps : List ((p : Prop) × Told p)) → ChainTold N.Either greater (map (nodes_of_prop unit h) (map (λ e. e.0) ps)) (greatest (map verdict (map (λ e. e.0) ps)))
    any_chained [] = none_chained N.Either greater V.False greater-false
    any_chained (e ∷ ps) = more_chained N.Either greater greater_assoc (λ values k. refl) (nodes_of_prop unit h e.0) (map (nodes_of_prop unit h) (map (λ e. e.0) ps)) (verdict e.0) (greatest (map verdict (map (λ e. e.0) ps))) e.1 (any_chained ps)

    all_told : (ps : List ((p : Prop) × Told p)) → ToldBy (chain true N.Both (map (nodes_of_prop unit h) (map (λ e. e.0) ps))) (least (map verdict (map (λ e. e.0) ps)))
    all_told ps = chain_told true V.True (λ values. refl) N.Both lesser (λ w. refl) (map (nodes_of_prop unit h) (map (λ e. e.0) ps)) (least (map verdict (map (λ e. e.0) ps))) (all_chained ps)

    any_told : (ps : List ((p : Prop) × Told p)) → ToldBy (chain false N.Either (map (nodes_of_prop unit h) (map (λ e. e.0) ps))) (greatest (map verdict (map (λ e. e.0) ps)))
    any_told ps = chain_told false V.False (λ values. refl) N.Either greater (λ w. refl) (map (nodes_of_prop unit h) (map (λ e. e.0) ps)) (greatest (map verdict (map (λ e. e.0) ps))) (any_chained ps)

    atom_told : (a : Atom) (v : Verdict) → atom_verdict h.now.point a ≡ v → ToldBy (λ n. N.Atom a ∷ []) v
    atom_told a v e = one_told (N.Atom a) v (λ values. ap (λ q. atom_verdict q a) (sym here) ∙ e)

    layer_told : (y : Prop-F ((p : Prop) × Told p)) → ToldBy (nodes_step unit h (map-Prop Prop (ℕ → List Node) (nodes_of_prop unit h) (map-Prop ((p : Prop) × Told p) Prop (λ e. e.0) y))) (verdict_step unit h.now h.before (map-Prop Prop Verdict verdict (map-Prop ((p : Prop) × Told p) Prop (λ e. e.0) y)))
    layer_told (P.Const b) = one_told (N.Const b) (verdict_by b (not b)) (λ values. refl)
    layer_told (P.Not e) = not_told (nodes_of_prop unit h e.0) (verdict e.0) e.1
    layer_told (P.All ps) = all_told ps
    layer_told (P.Any ps) = any_told ps
    layer_told (P.Happens e) = atom_told (happens_of unit h e) _ (happens_tells unit h e)
    layer_told (P.Before e to) = atom_told (before_of unit h e to) _ (before_tells unit h e to)
    layer_told (P.After e from) = atom_told (after_of unit h e from) _ (after_tells unit h e from)
    layer_told (P.Within e from to) = atom_told (within_of unit h e from to) _ (within_tells unit h e from to)
    layer_told (P.Occurs s from to) = atom_told (occurs_of unit h s from to) _ (occurs_tells unit h s from to)
    layer_told (P.Holds s) = atom_told (holds_of unit h s) _ refl

    -- a table ends with the verdict of its proposition
    pub prop_told : (p : Prop) → Told p
    prop_told = ind-Prop Told (λ x y is.
        let parts = map-Prop ((p : Prop) × Told p) Prop (λ e. e.0) y in
        subst (λ (z : Prop-F Prop). Told (roll-Prop z)) is
        (subst (λ f. ToldBy f (verdict (roll-Prop parts))) (sym (fold-roll-Prop (ℕ → List Node) (nodes_step unit h) parts))
        (subst (λ v. ToldBy (nodes_step unit h (map-Prop Prop (ℕ → List Node) (nodes_of_prop unit h) parts)) v) (sym (fold-roll-Prop Verdict (verdict_step unit h.now h.before) parts)) (layer_told y))))
