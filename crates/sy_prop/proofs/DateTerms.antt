-- The values at the places of a table's dates are those of the deed's date terms.
use Rattle.std.proofs.Common.{◌≡◌, ℕ, zero, suc, ◌+◌, ◌-◌, ◌<◌, ℤ, true, false, List, [], ◌∷◌, ◌++◌, map, drop, get_or, drop-cons, add-one, length, slice_get, Option, Some, None, refl, sym, ◌∙◌, ap, subst, arith, append_assoc, length-append}
use Rattle.std.specs.List.{flat_map}
use Rattle.sy_base.specs.declared.time.TimeUnit.{TimeUnit}
use Rattle.sy_core.specs.declared.date_term.DateTerm.{DateTerm}
use Rattle.sy_core.specs.declared.proposition.Prop.{Prop}
use Rattle.sy_core.specs.declared.proposition.Prop.TheOpen.{Prop-F}
use Rattle.sy_core.specs.declared.proposition.Prop.TheOpen as P
use Rattle.sy_core.specs.declared.proposition.Prop.TheViews.{roll-Prop}
use Rattle.sy_core.specs.declared.proposition.Prop.TheFolds.{fold-roll-Prop, map-Prop, ind-Prop}
use Rattle.sy_core.specs.declared.position.Goal.{Goal}
use Rattle.sy_core.specs.declared.position.Goal.TheVariants as G
use Rattle.sy_core.specs.declared.position.Position.{Position}
use Rattle.sy_core.specs.declared.deed.Deed.{Deed}
use Rattle.sy_core.specs.Mentions.{dates_step, dates_of, dates_of_duty}
use Rattle.sy_core.specs.Moments.{date_value}
use Rattle.sy_core.specs.Wakes.{dates_of_position, dates_of_deed}
use Rattle.sy_atoms.specs.declared.due.Due.{Due}
use Rattle.sy_atoms.specs.declared.atom.Atom.{Atom}
use Rattle.sy_atoms.specs.declared.atom.Atom.TheVariants as A
use Rattle.sy_quiet.specs.Histories.{History, moments}
use Rattle.sy_atoms.specs.Machine.Kept.{due_of}
use Rattle.sy_atoms.specs.Machine.Steps.{same_step}
use Rattle.sy_prop.specs.declared.node.Node.{Node}
use Rattle.sy_prop.specs.declared.node.Node.TheVariants as N
use Rattle.sy_prop.specs.declared.terms.TermPlace.{TermPlace}
use Rattle.sy_prop.specs.Machine.Tables.{chain_from, nodes_step, nodes_of_prop, nodes_of_props, on_atom}
use Rattle.sy_prop.specs.Machine.Changes.{stay}
use Rattle.sy_prop.specs.Machine.Terms.{dates_in, places_of, places_from, date_of, date_at, date_by}
use Rattle.sy_prop.specs.Standing.{duty_props, position_props, props_of_deed}
use Rattle.sy_prop.proofs.Goes.{same_size}

append_none : {X : Type 0} (xs : List X) → xs ++ [] ≡ xs
append_none [] = refl
append_none (x ∷ xs) = ap (λ l. x ∷ l) (append_none xs)

flat_append : {X Y : Type 0} (f : X → List Y) (xs ys : List X) → flat_map f (xs ++ ys) ≡ flat_map f xs ++ flat_map f ys
flat_append f [] ys = refl
flat_append f (x ∷ xs) ys = ap (λ l. f x ++ l) (flat_append f xs ys) ∙ sym (append_assoc (f x) (flat_map f xs) (flat_map f ys))

map_append : {X Y : Type 0} (f : X → Y) (xs ys : List X) → map f (xs ++ ys) ≡ map f xs ++ map f ys
map_append f [] ys = refl
map_append f (x ∷ xs) ys = ap (λ l. f x ∷ l) (map_append f xs ys)

-- the date terms of a deed are those of its propositions
of_goal : (goal : Goal) → flat_map dates_of (duty_props goal) ≡ dates_of_duty goal
of_goal (G.Duty consequent) = append_none (dates_of consequent)
of_goal (G.Act act) = refl

of_positions : (ps : List Position) → flat_map dates_of (flat_map position_props ps) ≡ flat_map dates_of_position ps
of_positions [] = refl
of_positions (p ∷ ps) =
    flat_append dates_of (position_props p) (flat_map position_props ps)
    ∙ (let a = of_goal p.goal in let b = of_positions ps in λ j. (dates_of p.trigger ++ (dates_of p.antecedent ++ a j)) ++ b j)
    ∙ ap (λ l. l ++ flat_map dates_of_position ps) (sym (append_assoc (dates_of p.trigger) (dates_of p.antecedent) (dates_of_duty p.goal)))

of_deed : (deed : Deed) → flat_map dates_of (props_of_deed deed) ≡ dates_of_deed deed
of_deed deed =
    flat_append dates_of (flat_map position_props deed.positions) deed.posts
    ∙ ap (λ l. l ++ flat_map dates_of deed.posts) (of_positions deed.positions)

-- the dates in a table are those of its date terms
module _ (unit : TimeUnit) (h : History) where
  abbrev due : DateTerm → Due
  due term = due_of unit term h

  abbrev Dated : Prop → Type 0
  Dated p = (n : ℕ) → flat_map dates_in (nodes_of_prop unit h p n) ≡ map due (dates_of p)

  abbrev DatedProp : Type 0
  DatedProp = (p : Prop) × Dated p

  parts_dated : (join : ℕ → Node) → ((i : ℕ) → dates_in (join i) ≡ []) → (ps : List DatedProp) (n : ℕ) → flat_map dates_in (chain_from join (map (nodes_of_prop unit h) (map (λ e. e.0) ps)) n) ≡ map due (flat_map (λ part. part) (map dates_of (map (λ e. e.0) ps)))
  parts_dated join none [] n = refl
  parts_dated join none (e ∷ ps) n =
      let part = nodes_of_prop unit h e.0 n in
      let rest = chain_from join (map (nodes_of_prop unit h) (map (λ e. e.0) ps)) (n + length part + 1) in
      flat_append dates_in part (join (n - 1) ∷ rest)
      ∙ ((λ j. e.1 n j ++ (none (n - 1) j ++ parts_dated join none ps (n + length part + 1) j))
      ∙ sym (map_append due (dates_of e.0) (flat_map (λ part. part) (map dates_of (map (λ e. e.0) ps)))))

  layer_dated : (y : Prop-F DatedProp) (n : ℕ) → flat_map dates_in (nodes_step unit h (map-Prop Prop (ℕ → List Node) (nodes_of_prop unit h) (map-Prop DatedProp Prop (λ e. e.0) y)) n) ≡ map due (dates_step (map-Prop Prop (List DateTerm) dates_of (map-Prop DatedProp Prop (λ e. e.0) y)))
  layer_dated (P.Const b) n = refl
  layer_dated (P.Not e) n = flat_append dates_in (nodes_of_prop unit h e.0 n) (N.Not ∷ []) ∙ (append_none (flat_map dates_in (nodes_of_prop unit h e.0 n)) ∙ e.1 n)
  layer_dated (P.All ps) n = parts_dated N.Both (λ i. refl) ps (n + 1)
  layer_dated (P.Any ps) n = parts_dated N.Either (λ i. refl) ps (n + 1)
  layer_dated (P.Happens e) n = refl
  layer_dated (P.Before e to) n = refl
  layer_dated (P.After e from) n = refl
  layer_dated (P.Within e from to) n = refl
  layer_dated (P.Occurs s from to) n = refl
  layer_dated (P.Holds s) n = refl

  prop_dated : (p : Prop) → Dated p
  prop_dated = ind-Prop Dated (λ x y is.
      let parts = map-Prop DatedProp Prop (λ e. e.0) y in
      subst (λ (z : Prop-F Prop). Dated (roll-Prop z)) is (λ n.
      ap (λ g. flat_map dates_in (g n)) (fold-roll-Prop (ℕ → List Node) (nodes_step unit h) parts)
      ∙ (layer_dated y n ∙ ap (map due) (sym (fold-roll-Prop (List DateTerm) dates_step parts)))))

  pub props_dated : (ps : List Prop) (n : ℕ) → flat_map dates_in (nodes_of_props unit h ps n) ≡ map due (flat_map dates_of ps)
  props_dated [] n = refl
  props_dated (p ∷ ps) n =
      let part = nodes_of_prop unit h p n in
      flat_append dates_in part (nodes_of_props unit h ps (n + length part))
      ∙ ((λ j. prop_dated p n j ++ props_dated ps (n + length part) j)
      ∙ sym (map_append due (dates_of p) (flat_map dates_of ps)))

-- two tables of the same propositions have their dates at the same places
no_due : Due
no_due = record { value = None }

blank : Atom → Atom
blank (A.Happens s) = A.Happens (record { past = false; here = false })
blank (A.Before s to) = A.Before (record { past = false; here = false }) no_due
blank (A.After s from) = A.After (record { past = false; here = false }) no_due
blank (A.Within s from to) = A.Within (record { past = false; here = false }) no_due no_due
blank (A.Occurs l failed from to) = A.Occurs (record { here = false; later = false }) false no_due no_due
blank (A.Holds l) = A.Holds (record { here = false; later = false })

bare : Node → Node
bare x = on_atom blank x

module _ (unit : TimeUnit) (h k : History) where
  abbrev Alike : Prop → Type 0
  Alike p = (n : ℕ) → map bare (nodes_of_prop unit h p n) ≡ map bare (nodes_of_prop unit k p n)

  abbrev AlikeProp : Type 0
  AlikeProp = (p : Prop) × Alike p

  size : (p : Prop) (n : ℕ) → length (nodes_of_prop unit h p n) ≡ length (nodes_of_prop unit k p n)
  size p n = same_size (same_step stay) unit h k p n

  parts_alike : (join : ℕ → Node) (ps : List AlikeProp) (n : ℕ) → map bare (chain_from join (map (nodes_of_prop unit h) (map (λ e. e.0) ps)) n) ≡ map bare (chain_from join (map (nodes_of_prop unit k) (map (λ e. e.0) ps)) n)
  parts_alike join [] n = refl
  parts_alike join (e ∷ ps) n =
      let part = nodes_of_prop unit h e.0 n in
      let part' = nodes_of_prop unit k e.0 n in
      let rest = chain_from join (map (nodes_of_prop unit h) (map (λ e. e.0) ps)) in
      let rest' = chain_from join (map (nodes_of_prop unit k) (map (λ e. e.0) ps)) in
      let s = size e.0 n in
      let rests = parts_alike join ps in
      map_append bare part (join (n - 1) ∷ rest (n + length part + 1))
      ∙ ((λ j. e.1 n j ++ bare (join (n - 1)) ∷ rests (n + s j + 1) j)
      ∙ sym (map_append bare part' (join (n - 1) ∷ rest' (n + length part' + 1))))

  layer_alike : (y : Prop-F AlikeProp) (n : ℕ) → map bare (nodes_step unit h (map-Prop Prop (ℕ → List Node) (nodes_of_prop unit h) (map-Prop AlikeProp Prop (λ e. e.0) y)) n) ≡ map bare (nodes_step unit k (map-Prop Prop (ℕ → List Node) (nodes_of_prop unit k) (map-Prop AlikeProp Prop (λ e. e.0) y)) n)
  unfolding bare blank no_due
  layer_alike (P.Const b) n = refl
  layer_alike (P.Not e) n = map_append bare (nodes_of_prop unit h e.0 n) (N.Not ∷ []) ∙ (ap (λ l. l ++ bare N.Not ∷ []) (e.1 n) ∙ sym (map_append bare (nodes_of_prop unit k e.0 n) (N.Not ∷ [])))
  layer_alike (P.All ps) n = ap (λ l. bare (N.Const true) ∷ l) (parts_alike N.Both ps (n + 1))
  layer_alike (P.Any ps) n = ap (λ l. bare (N.Const false) ∷ l) (parts_alike N.Either ps (n + 1))
  layer_alike (P.Happens e) n = refl
  layer_alike (P.Before e to) n = refl
  layer_alike (P.After e from) n = refl
  layer_alike (P.Within e from to) n = refl
  layer_alike (P.Occurs s from to) n = refl
  layer_alike (P.Holds s) n = refl

  prop_alike : (p : Prop) → Alike p
  prop_alike = ind-Prop Alike (λ x y is.
      let parts = map-Prop AlikeProp Prop (λ e. e.0) y in
      subst (λ (z : Prop-F Prop). Alike (roll-Prop z)) is (λ n.
      ap (λ g. map bare (g n)) (fold-roll-Prop (ℕ → List Node) (nodes_step unit h) parts)
      ∙ (layer_alike y n ∙ ap (λ g. map bare (g n)) (sym (fold-roll-Prop (ℕ → List Node) (nodes_step unit k) parts)))))

  props_alike : (ps : List Prop) (n : ℕ) → map bare (nodes_of_props unit h ps n) ≡ map bare (nodes_of_props unit k ps n)
  props_alike [] n = refl
  props_alike (p ∷ ps) n =
      let part = nodes_of_prop unit h p n in
      let part' = nodes_of_prop unit k p n in
      let s = size p n in
      map_append bare part (nodes_of_props unit h ps (n + length part))
      ∙ ((λ j. prop_alike p n j ++ props_alike ps (n + s j) j)
      ∙ sym (map_append bare part' (nodes_of_props unit k ps (n + length part'))))

places_of_bare : (n : ℕ) (x : Node) → places_of n x ≡ places_of n (bare x)
unfolding bare blank
places_of_bare n (N.Const b) = refl
places_of_bare n N.Not = refl
places_of_bare n (N.Both k) = refl
places_of_bare n (N.Either k) = refl
places_of_bare n (N.Atom (A.Happens s)) = refl
places_of_bare n (N.Atom (A.Before s to)) = refl
places_of_bare n (N.Atom (A.After s from)) = refl
places_of_bare n (N.Atom (A.Within s from to)) = refl
places_of_bare n (N.Atom (A.Occurs l failed from to)) = refl
places_of_bare n (N.Atom (A.Holds l)) = refl

places_bare : (n : ℕ) (xs : List Node) → places_from n xs ≡ places_from n (map bare xs)
places_bare n [] = refl
places_bare n (x ∷ xs) = let a = places_of_bare n x in let b = places_bare (n + 1) xs in λ j. a j ++ b j

pub same_places : (unit : TimeUnit) (h k : History) (ps : List Prop) → places_from 0 (nodes_of_props unit h ps 0) ≡ places_from 0 (nodes_of_props unit k ps 0)
same_places unit h k ps =
    places_bare 0 (nodes_of_props unit h ps 0)
    ∙ (ap (places_from 0) (props_alike unit h k ps 0) ∙ sym (places_bare 0 (nodes_of_props unit k ps 0)))

-- what stands at the places
at_seam : (before : List Node) (x : Node) (xs : List Node) → slice_get (before ++ x ∷ xs) (length before) ≡ Some x
at_seam [] x xs = refl
at_seam (b ∷ before) x xs = at_seam before x xs

read_node : (nodes : List Node) (n : ℕ) (x : Node) → slice_get nodes n ≡ Some x → map (date_at nodes) (places_of n x) ≡ map (λ d. d.value) (dates_in x)
read_node nodes n (N.Const b) is = refl
read_node nodes n N.Not is = refl
read_node nodes n (N.Both k) is = refl
read_node nodes n (N.Either k) is = refl
read_node nodes n (N.Atom (A.Happens s)) is = refl
read_node nodes n (N.Atom (A.Before s to)) is = ap (λ o. date_of false o ∷ []) is
read_node nodes n (N.Atom (A.After s from)) is = ap (λ o. date_of false o ∷ []) is
read_node nodes n (N.Atom (A.Within s from to)) is = ap (λ o. date_of false o ∷ date_of true o ∷ []) is
read_node nodes n (N.Atom (A.Occurs l failed from to)) is = ap (λ o. date_of false o ∷ date_of true o ∷ []) is
read_node nodes n (N.Atom (A.Holds l)) is = refl

read_from : (before nodes : List Node) → map (date_at (before ++ nodes)) (places_from (length before) nodes) ≡ map (λ d. d.value) (flat_map dates_in nodes)
read_from before [] = refl
read_from before (x ∷ xs) =
    let n = length before in
    let whole = before ++ x ∷ xs in
    let e : length (before ++ x ∷ []) ≡ n + 1 = length-append before (x ∷ []) in
    let s = append_assoc before (x ∷ []) xs in
    let rest = sym (λ j. map (date_at (s j)) (places_from (e j) xs)) ∙ read_from (before ++ x ∷ []) xs in
    map_append (date_at whole) (places_of n x) (places_from (n + 1) xs)
    ∙ ((let a = read_node whole n x (at_seam before x xs) in λ j. a j ++ rest j)
    ∙ sym (map_append (λ d. d.value) (dates_in x) (flat_map dates_in xs)))

pub read_all : (nodes : List Node) → map (date_at nodes) (places_from 0 nodes) ≡ map (λ d. d.value) (flat_map dates_in nodes)
read_all nodes = read_from [] nodes

-- one node more
pub places_go_on : (items : List Node) (i : ℕ) (d : Node) (n : ℕ) (places next whole : List TermPlace) → i < length items → next ≡ places ++ places_of n (get_or items i d) → places ++ places_from n (drop i items) ≡ whole → next ++ places_from (n + 1) (drop (i + 1) items) ≡ whole
places_go_on items i d n places next whole lt made h =
    let x = get_or items i d in
    let rest = places_from (n + 1) (drop (i + 1) items) in
    let ahead : drop i items ≡ x ∷ drop (i + 1) items = rw add-one (drop-cons items i d lt) in
    ap (λ p. p ++ rest) made
    ∙ (append_assoc places (places_of n x) rest ∙ (ap (λ xs. places ++ places_from n xs) (sym ahead) ∙ h))

find : (nodes : List Node) (value : DateTerm → Option ℤ) (places : List TermPlace) (terms : List DateTerm) (i : ℕ) (term : DateTerm) → map (date_at nodes) places ≡ map value terms → slice_get terms i ≡ Some term → date_by nodes (slice_get places i) ≡ value term
find nodes value places [] i term same is = cc
find nodes value [] (t ∷ terms) i term same is = cc
find nodes value (p ∷ places) (t ∷ terms) zero term same is = let a : date_at nodes p ≡ value t = cc in let b : t ≡ term = cc in a ∙ ap value b
find nodes value (p ∷ places) (t ∷ terms) (suc i) term same is = find nodes value places terms i term (cc) is

map_map : (unit : TimeUnit) (h : History) (ts : List DateTerm) → map (λ d. d.value) (map (λ t. due_of unit t h) ts) ≡ map (λ t. date_value unit t (moments h)) ts
map_map unit h [] = refl
map_map unit h (t ∷ ts) = ap (λ l. date_value unit t (moments h) ∷ l) (map_map unit h ts)

module _ (deed : Deed) (h : History) (nodes : List Node) (places : List TermPlace) (kept : nodes ≡ nodes_of_props deed.unit h (props_of_deed deed) 0) (placed : places ≡ places_from 0 nodes) where
  read : map (date_at nodes) places ≡ map (λ t. date_value deed.unit t (moments h)) (dates_of_deed deed)
  read =
      ap (map (date_at nodes)) placed
      ∙ (read_all nodes
      ∙ (ap (λ l. map (λ d. d.value) (flat_map dates_in l)) kept
      ∙ (ap (map (λ d. d.value)) (props_dated deed.unit h (props_of_deed deed) 0 ∙ ap (map (λ t. due_of deed.unit t h)) (of_deed deed))
      ∙ map_map deed.unit h (dates_of_deed deed))))

  pub term_found : (i : ℕ) (term : DateTerm) → slice_get (dates_of_deed deed) i ≡ Some term → date_by nodes (slice_get places i) ≡ date_value deed.unit term (moments h)
  term_found i term is = find nodes (λ t. date_value deed.unit t (moments h)) places (dates_of_deed deed) i term read is

  pub terms_counted : length places ≡ length (dates_of_deed deed)
  terms_counted = same_count places (dates_of_deed deed) (date_at nodes) (λ t. date_value deed.unit t (moments h)) read
    where
      same_count : (ps : List TermPlace) (ts : List DateTerm) (f : TermPlace → Option ℤ) (g : DateTerm → Option ℤ) → map f ps ≡ map g ts → length ps ≡ length ts
      same_count [] [] f g e = refl
      same_count [] (t ∷ ts) f g e = cc
      same_count (p ∷ ps) [] f g e = cc
      same_count (p ∷ ps) (t ∷ ts) f g e = let r = same_count ps ts f g (cc) in omega (arith, r)
