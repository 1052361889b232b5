-- The order of events is as long as a deed has internal events.
use Rattle.std.proofs.Common.{◌≡◌, ℕ, zero, suc, ◌+◌, Bool, true, false, not, ◌&&◌, ◌||◌, List, [], ◌∷◌, ◌++◌, Option, Some, None, slice_get, length, refl, sym, ◌∙◌, ap, arith, length-append}
use Rattle.std.specs.List.{list_any, flat_map, enumerate_from}
use Rattle.sy_words.specs.declared.kind.Kind.{Kind}
use Rattle.sy_words.specs.declared.kind.Kind.TheVariants.{Resumed, Suspended, Terminated}
use Rattle.sy_words.specs.declared.form.Form.{Form}
use Rattle.sy_words.specs.declared.form.Form.TheVariants.{Obligation, Surviving, Power}
use Rattle.sy_words.specs.declared.verb.Verb.{Verb}
use Rattle.sy_words.specs.declared.verb.Verb.TheVariants as Verbs
use Rattle.sy_core.specs.declared.kind.Target.TheVariants as T
use Rattle.sy_core.specs.declared.position.Position.{Position}
use Rattle.sy_core.specs.declared.deed.Deed.{Deed}
use Rattle.sy_core.specs.States.{kinds_of}
use Rattle.sy_core.specs.Conditions.{count_events}
use Rattle.sy_core.specs.Orders.{IsAcyclic}
use Rattle.sy_core.specs.Prerequisites.{Node, Contract, nodes_of, node_list, nodes, numbered_needs, nodes_at, nodes_in_order, order_of}
use Rattle.sy_core.specs.EventOrder.{end_events, end_events_of, event_if, contract_events, node_events, acts, none_acts, events_of_nodes, event_order}
use Rattle.sy_core.proofs.Listing.{total, sum_of, sum_of_order}
use Rattle.sy_core.proofs.Nodes.{nodes_from}

-- a sum by number, from its first term on
total_shift : (w : ℕ → ℕ) (n : ℕ) → total w (suc n) ≡ w 0 + total (λ k. w (suc k)) n
total_shift w zero = omega arith
total_shift w (suc n) = let h = total_shift w n in omega (arith, h)

-- one of the contract's events stands in one place alone
one_place : (kind : Kind) (a l : Bool) → length (event_if (not (a || l)) kind) + length (event_if (a && not l) kind) ≡ length (event_if (not l) kind)
one_place kind true true = refl
one_place kind true false = refl
one_place kind false true = refl
one_place kind false false = refl

three_parts : (p : Verb → Bool) → length (contract_events p) ≡ length (event_if (p Verbs.Resumes) Resumed) + (length (event_if (p Verbs.Suspends) Suspended) + length (event_if (p Verbs.Terminates) Terminated))
three_parts p =
    length-append (event_if (p Verbs.Resumes) Resumed) (event_if (p Verbs.Suspends) Suspended ++ event_if (p Verbs.Terminates) Terminated)
    ∙ ap (λ n. length (event_if (p Verbs.Resumes) Resumed) + n) (length-append (event_if (p Verbs.Suspends) Suspended) (event_if (p Verbs.Terminates) Terminated))

module _ (deed : Deed) where
  -- how many events some nodes have
  abbrev lengths : List Node → ℕ
  lengths [] = 0
  lengths (n ∷ ns) = length (node_events deed n) + lengths ns

  lengths_append : (xs ys : List Node) → lengths (xs ++ ys) ≡ lengths xs + lengths ys
  lengths_append [] ys = omega arith
  lengths_append (x ∷ xs) ys = let h = lengths_append xs ys in omega (arith, h)

  placed : (n : Node) (later : List Node) → length (contract_events (none_acts deed (n ∷ later))) + length (contract_events (λ verb. acts deed verb n && none_acts deed later verb)) ≡ length (contract_events (none_acts deed later))
  placed n later =
      let a = three_parts (none_acts deed (n ∷ later)) in
      let b = three_parts (λ verb. acts deed verb n && none_acts deed later verb) in
      let c = three_parts (none_acts deed later) in
      let r = one_place Resumed (acts deed Verbs.Resumes n) (list_any (acts deed Verbs.Resumes) later) in
      let s = one_place Suspended (acts deed Verbs.Suspends n) (list_any (acts deed Verbs.Suspends) later) in
      let t = one_place Terminated (acts deed Verbs.Terminates n) (list_any (acts deed Verbs.Terminates) later) in
      omega (arith, a, b, c, r, s, t)

  three_more : (ns : List Node) → length (contract_events (none_acts deed ns)) + length (events_of_nodes deed ns) ≡ 3 + lengths ns
  three_more [] = refl
  three_more (n ∷ later) =
      let h = three_more later in
      let p = placed n later in
      let a = length-append (node_events deed n) (contract_events (λ verb. acts deed verb n && none_acts deed later verb) ++ events_of_nodes deed later) in
      let b = length-append (contract_events (λ verb. acts deed verb n && none_acts deed later verb)) (events_of_nodes deed later) in
      omega (arith, h, p, a, b)

  by_number : (ns : List Node) → total (λ k. lengths (node_list (slice_get ns k))) (length ns) ≡ lengths ns
  by_number [] = refl
  by_number (n ∷ ns) =
      let h = by_number ns in
      let s = total_shift (λ k. lengths (node_list (slice_get (n ∷ ns) k))) (length ns) in
      let len : length (n ∷ ns) ≡ suc (length ns) = omega arith in
      ap (total (λ k. lengths (node_list (slice_get (n ∷ ns) k)))) len ∙ (s ∙ first (length (node_events deed n)) (total (λ k. lengths (node_list (slice_get ns k))) (length ns)) (lengths ns) h)
    where
      first : (w t l : ℕ) → t ≡ l → (w + 0) + t ≡ w + l
      first w t l h = omega (arith, h)

  at_numbers : (ks : List ℕ) → lengths (nodes_at deed ks) ≡ sum_of (λ k. lengths (node_list (slice_get (nodes deed) k))) ks
  at_numbers [] = refl
  at_numbers (k ∷ ks) = lengths_append (node_list (slice_get (nodes deed) k)) (nodes_at deed ks) ∙ ap (λ s. lengths (node_list (slice_get (nodes deed) k)) + s) (at_numbers ks)

  -- one position's events
  of_position : (i : ℕ) (p : Position) → slice_get deed.positions i ≡ Some p → lengths (nodes_of p.form i) ≡ length (kinds_of p.form)
  of_position i p is = at p.form (ap (λ o. length (end_events_of (T.Position i) o)) is)
    where
      at : (form : Form) → length (end_events_of (T.Position i) (slice_get deed.positions i)) ≡ length (end_events (T.Position i) form) → lengths (nodes_of form i) ≡ length (kinds_of form)
      at Obligation h = omega (arith, h)
      at Surviving h = omega (arith, h)
      at Power h = omega (arith, h)

  all_counted : (i : ℕ) (ps : List Position) → ((k : ℕ) → slice_get deed.positions (i + k) ≡ slice_get ps k) → 3 + lengths (nodes_from i ps) ≡ count_events ps
  all_counted i [] h = refl
  all_counted i (p ∷ ps) h =
      let e : i + 0 ≡ i = omega arith in
      let here : slice_get deed.positions i ≡ Some p = sym (ap (slice_get deed.positions) e) ∙ h 0 in
      let later = all_counted (i + 1) ps (λ k. let f : (i + 1) + k ≡ i + suc k = omega arith in ap (slice_get deed.positions) f ∙ h (suc k)) in
      let rest = flat_map (λ n. nodes_of n.1.form n.0) (enumerate_from (i + 1) ps) in
      let a = lengths_append (nodes_of p.form i ++ rest) (Contract ∷ []) in
      let b = lengths_append (nodes_of p.form i) rest in
      let c = lengths_append rest (Contract ∷ []) in
      let d = of_position i p here in
      omega (arith, later, a, b, c, d)

  pub order_is_long : IsAcyclic (numbered_needs deed) (length (nodes deed)) → length (event_order deed) ≡ count_events deed.positions
  order_is_long acyclic =
      let a = length-append (contract_events (none_acts deed (nodes_in_order deed))) (events_of_nodes deed (nodes_in_order deed)) in
      let b = three_more (nodes_in_order deed) in
      let c = at_numbers (order_of deed) ∙ (sum_of_order (numbered_needs deed) (length (nodes deed)) acyclic (λ k. lengths (node_list (slice_get (nodes deed) k))) ∙ by_number (nodes deed)) in
      let d = all_counted 0 deed.positions (λ k. let f : 0 + k ≡ k = omega arith in ap (slice_get deed.positions) f) in
      omega (arith, a, b, c, d)
