-- The number of each node among the nodes of positions by their forms.
use Rattle.std.proofs.Common.{◌≡◌, ℕ, zero, suc, ◌+◌, ◌*◌, ◌<◌, ◌≤◌, ◌==◌, Bool, true, false, List, [], ◌∷◌, ◌++◌, map, length, Option, Some, None, slice_get, unwrap_or, refl, sym, ◌∙◌, ap, subst, arith, append_assoc, length-append, ◌⊎◌, inl, inr}
use Rattle.std.specs.List.{flat_map, enumerate_from, position_or_len}
use Rattle.std.proofs.lemmas.Bool.Decides.{Decides-eqb}
use Rattle.std.proofs.lemmas.Bool.{cases_lt}
use Rattle.std.proofs.lemmas.List.{append-nil, map-append, length-map}
use Rattle.std.proofs.lemmas.Option.{slice_get_past}
use Rattle.sy_core.proofs.Listing.{not_same}
use Rattle.sy_words.specs.declared.form.Form.{Form}
use Rattle.sy_words.specs.declared.form.Form.TheVariants.{Obligation, Surviving, Power}
use Rattle.sy_core.specs.declared.position.Position.{Position}
use Rattle.sy_core.specs.declared.deed.Deed.{Deed}
use Rattle.sy_core.specs.Prerequisites.{Node, Exert, Trig, Act, End, Contract, same_node, nodes_of, nodes}
use Rattle.sy_order.specs.declared.index.Place.{Place}
use Rattle.sy_order.specs.Nodes.{nodes_from, nodes_by, number_by, forms_of}
use Rattle.sy_order.specs.Machine.Places.{forms_in, AreFirst, exert_at, trig_at, exert_number, trig_number, IsPlaceOf, AreNumbered}

itself : (i : ℕ) → (i == i) ≡ true
itself i = (Decides-eqb i i).1 refl

-- a position has at most four nodes, and as many whatever its number is
pub few_nodes : (form : Form) (i : ℕ) → (length (nodes_of form i) ≤ 4) × (length (nodes_of form i) ≡ length (nodes_of form 0))
few_nodes Obligation i = (omega arith, refl)
few_nodes Surviving i = (omega arith, refl)
few_nodes Power i = (omega arith, refl)

-- a node of each position, by the position's form at some place among its nodes, or not there
pub record IsPart (node : ℕ → Node) (offset : Form → Option ℕ) : Type 0 where
  pub own : (form : Form) (i : ℕ) (rest : List Node) → position_or_len (same_node (node i)) (nodes_of form i ++ rest) ≡ unwrap_or (offset form) (length (nodes_of form i) + position_or_len (same_node (node i)) rest)
  pub other : (form : Form) (i j : ℕ) (rest : List Node) → (i ≡ j → ⊥) → position_or_len (same_node (node i)) (nodes_of form j ++ rest) ≡ length (nodes_of form j) + position_or_len (same_node (node i)) rest
  pub never : (i : ℕ) → position_or_len (same_node (node i)) (Contract ∷ []) ≡ 1

-- the number at an offset from a first one, or else the other
abbrev offset_from : ℕ → ℕ → Option ℕ → ℕ
offset_from whole first None = whole
offset_from whole first (Some o) = first + o

-- the number that a place gives
abbrev number_at : (Form → Option ℕ) → ℕ → Option Place → ℕ
number_at offset whole None = whole
number_at offset whole (Some place) = offset_from whole place.first (offset place.form)

module _ (node : ℕ → Node) (offset : Form → Option ℕ) (part : IsPart node offset) where
  -- among the nodes of later positions it isn't
  not_later : (i j : ℕ) (forms : List Form) → i < j → position_or_len (same_node (node i)) (nodes_from j forms ++ Contract ∷ []) ≡ length (nodes_from j forms ++ Contract ∷ [])
  not_later i j [] lt = part.never i
  not_later i j (form ∷ forms) lt =
      let rest = nodes_from (j + 1) forms ++ Contract ∷ [] in
      let shift = append_assoc (nodes_of form j) (nodes_from (j + 1) forms) (Contract ∷ []) in
      let there = part.other form i j rest (λ e. omega (arith, e, lt)) in
      let later = not_later i (j + 1) forms (omega (arith, lt)) in
      let size = length-append (nodes_of form j) rest in
      ap (position_or_len (same_node (node i))) shift ∙ (there ∙ (ap (λ n. length (nodes_of form j) + n) later ∙ (sym size ∙ sym (ap length shift))))

  found : (j first : ℕ) (places : List Place) → AreFirst first places → (i k : ℕ) → k ≡ j + i → first + position_or_len (same_node (node k)) (nodes_from j (forms_in places) ++ Contract ∷ []) ≡ number_at offset (first + length (nodes_from j (forms_in places) ++ Contract ∷ [])) (slice_get places i)
  found j first [] h i k e = ap (λ n. first + n) (part.never k)
  found j first (place ∷ places) h zero k e = ap (λ n. first + n) (ap (position_or_len (same_node (node k))) shift ∙ here) ∙ at (offset place.form)
    where
      rest : List Node
      rest = nodes_from (j + 1) (forms_in places) ++ Contract ∷ []

      shift : nodes_from j (forms_in (place ∷ places)) ++ Contract ∷ [] ≡ nodes_of place.form j ++ rest
      shift = append_assoc (nodes_of place.form j) (nodes_from (j + 1) (forms_in places)) (Contract ∷ [])

      same : k ≡ j
      same = omega (arith, e)

      here : position_or_len (same_node (node k)) (nodes_of place.form j ++ rest) ≡ unwrap_or (offset place.form) (length (nodes_of place.form j) + position_or_len (same_node (node k)) rest)
      here = subst (λ n. position_or_len (same_node (node n)) (nodes_of place.form j ++ rest) ≡ unwrap_or (offset place.form) (length (nodes_of place.form j) + position_or_len (same_node (node n)) rest)) (sym same) (part.own place.form j rest)

      whole : length (nodes_of place.form j) + position_or_len (same_node (node k)) rest ≡ length (nodes_from j (forms_in (place ∷ places)) ++ Contract ∷ [])
      whole = ap (λ n. length (nodes_of place.form j) + n) (not_later k (j + 1) (forms_in places) (omega (arith, same))) ∙ (sym (length-append (nodes_of place.form j) rest) ∙ sym (ap length shift))

      at : (o : Option ℕ) → first + unwrap_or o (length (nodes_of place.form j) + position_or_len (same_node (node k)) rest) ≡ offset_from (first + length (nodes_from j (forms_in (place ∷ places)) ++ Contract ∷ [])) place.first o
      at None = ap (λ n. first + n) whole
      at (Some o) = ap (λ n. n + o) (sym h.0)
  found j first (place ∷ places) h (suc i) k e =
      let rest = nodes_from (j + 1) (forms_in places) ++ Contract ∷ [] in
      let shift = append_assoc (nodes_of place.form j) (nodes_from (j + 1) (forms_in places)) (Contract ∷ []) in
      let there = part.other place.form k j rest (λ same. omega (arith, same, e)) in
      let later = found (j + 1) (first + length (nodes_of place.form 0)) places h.1 i k (omega (arith, e)) in
      let sizes = (few_nodes place.form j).1 in
      let size = length-append (nodes_of place.form j) rest in
      let a : first + position_or_len (same_node (node k)) (nodes_from j (forms_in (place ∷ places)) ++ Contract ∷ []) ≡ (first + length (nodes_of place.form 0)) + position_or_len (same_node (node k)) rest =
      ap (λ n. first + n) (ap (position_or_len (same_node (node k))) shift ∙ there) ∙ omega (arith, sizes) in
      let b : (first + length (nodes_of place.form 0)) + length rest ≡ first + length (nodes_from j (forms_in (place ∷ places)) ++ Contract ∷ []) = omega (arith, sizes, size, ap length shift) in
      a ∙ (later ∙ ap (λ w. number_at offset w (slice_get places i)) b)

  -- the number by forms is the one that the place gives
  pub number_is : (places : List Place) → AreFirst 0 places → (i : ℕ) → number_by (forms_in places) (node i) ≡ number_at offset (length (nodes_by (forms_in places))) (slice_get places i)
  number_is places h i =
      let e : i ≡ 0 + i = omega arith in
      let a = found 0 0 places h i i e in
      let b : 0 + length (nodes_by (forms_in places)) ≡ length (nodes_by (forms_in places)) = omega arith in
      let d : 0 + number_by (forms_in places) (node i) ≡ number_by (forms_in places) (node i) = omega arith in
      sym d ∙ (a ∙ ap (λ w. number_at offset w (slice_get places i)) b)

-- the four sorts of node of a position
abbrev exert_offset : Form → Option ℕ
exert_offset Obligation = None
exert_offset Surviving = None
exert_offset Power = Some 0

abbrev trig_offset : Form → Option ℕ
trig_offset Obligation = Some 0
trig_offset Surviving = Some 0
trig_offset Power = Some 1

abbrev act_offset : Form → Option ℕ
act_offset Obligation = Some 1
act_offset Surviving = Some 1
act_offset Power = Some 2

abbrev end_offset : Form → Option ℕ
end_offset Obligation = Some 2
end_offset Surviving = Some 2
end_offset Power = Some 3

exert_part : IsPart Exert exert_offset
exert_part = record { own = own; other = other; never = λ i. refl }
  where
    own : (form : Form) (i : ℕ) (rest : List Node) → position_or_len (same_node (Exert i)) (nodes_of form i ++ rest) ≡ unwrap_or (exert_offset form) (length (nodes_of form i) + position_or_len (same_node (Exert i)) rest)
    own Obligation i rest = omega arith
    own Surviving i rest = omega arith
    own Power i rest = rw (itself i) refl

    other : (form : Form) (i j : ℕ) (rest : List Node) → (i ≡ j → ⊥) → position_or_len (same_node (Exert i)) (nodes_of form j ++ rest) ≡ length (nodes_of form j) + position_or_len (same_node (Exert i)) rest
    other Obligation i j rest ne = omega arith
    other Surviving i j rest ne = omega arith
    other Power i j rest ne = rw (not_same i j ne) (omega arith)

trig_part : IsPart Trig trig_offset
trig_part = record { own = own; other = other; never = λ i. refl }
  where
    own : (form : Form) (i : ℕ) (rest : List Node) → position_or_len (same_node (Trig i)) (nodes_of form i ++ rest) ≡ unwrap_or (trig_offset form) (length (nodes_of form i) + position_or_len (same_node (Trig i)) rest)
    own Obligation i rest = rw (itself i) refl
    own Surviving i rest = rw (itself i) refl
    own Power i rest = rw (itself i) refl

    other : (form : Form) (i j : ℕ) (rest : List Node) → (i ≡ j → ⊥) → position_or_len (same_node (Trig i)) (nodes_of form j ++ rest) ≡ length (nodes_of form j) + position_or_len (same_node (Trig i)) rest
    other Obligation i j rest ne = rw (not_same i j ne) (omega arith)
    other Surviving i j rest ne = rw (not_same i j ne) (omega arith)
    other Power i j rest ne = rw (not_same i j ne) (omega arith)

act_part : IsPart Act act_offset
act_part = record { own = own; other = other; never = λ i. refl }
  where
    own : (form : Form) (i : ℕ) (rest : List Node) → position_or_len (same_node (Act i)) (nodes_of form i ++ rest) ≡ unwrap_or (act_offset form) (length (nodes_of form i) + position_or_len (same_node (Act i)) rest)
    own Obligation i rest = rw (itself i) refl
    own Surviving i rest = rw (itself i) refl
    own Power i rest = rw (itself i) refl

    other : (form : Form) (i j : ℕ) (rest : List Node) → (i ≡ j → ⊥) → position_or_len (same_node (Act i)) (nodes_of form j ++ rest) ≡ length (nodes_of form j) + position_or_len (same_node (Act i)) rest
    other Obligation i j rest ne = rw (not_same i j ne) (omega arith)
    other Surviving i j rest ne = rw (not_same i j ne) (omega arith)
    other Power i j rest ne = rw (not_same i j ne) (omega arith)

end_part : IsPart End end_offset
end_part = record { own = own; other = other; never = λ i. refl }
  where
    own : (form : Form) (i : ℕ) (rest : List Node) → position_or_len (same_node (End i)) (nodes_of form i ++ rest) ≡ unwrap_or (end_offset form) (length (nodes_of form i) + position_or_len (same_node (End i)) rest)
    own Obligation i rest = rw (itself i) refl
    own Surviving i rest = rw (itself i) refl
    own Power i rest = rw (itself i) refl

    other : (form : Form) (i j : ℕ) (rest : List Node) → (i ≡ j → ⊥) → position_or_len (same_node (End i)) (nodes_of form j ++ rest) ≡ length (nodes_of form j) + position_or_len (same_node (End i)) rest
    other Obligation i j rest ne = rw (not_same i j ne) (omega arith)
    other Surviving i j rest ne = rw (not_same i j ne) (omega arith)
    other Power i j rest ne = rw (not_same i j ne) (omega arith)

first_small : (first : ℕ) (places : List Place) → AreFirst first places → (i : ℕ) (place : Place) → slice_get places i ≡ Some place → place.first ≤ first + 4 * i
first_small first [] h i place is = cc
first_small first (p ∷ places) h zero place is = let same : p ≡ place = cc in let e = ap (λ (q : Place). q.first) same in omega (arith, e, h.0)
first_small first (p ∷ places) h (suc i) place is =
    let few = (few_nodes p.form 0).0 in
    let later = first_small (first + length (nodes_of p.form 0)) places h.1 i place is in
    omega (arith, few, later)

pub place_is : (places : List Place) → length places ≤ 500 → AreFirst 0 places → (i : ℕ) (o : Option Place) → slice_get places i ≡ o → IsPlaceOf (forms_in places) i o
place_is places few h i o is = subst (IsPlaceOf (forms_in places) i) is (at (slice_get places i) refl (number_is Exert exert_offset exert_part places h i) (number_is Trig trig_offset trig_part places h i) (number_is Act act_offset act_part places h i) (number_is End end_offset end_part places h i))
  where
    count : ℕ
    count = length (nodes_by (forms_in places))

    exert_is : (form : Form) (first : ℕ) → offset_from count first (exert_offset form) ≡ unwrap_or (exert_at form first) count
    exert_is Obligation first = refl
    exert_is Surviving first = refl
    exert_is Power first = omega arith

    trig_is : (form : Form) (first : ℕ) → offset_from count first (trig_offset form) ≡ trig_at form first
    trig_is Obligation first = omega arith
    trig_is Surviving first = omega arith
    trig_is Power first = refl

    act_is : (form : Form) (first : ℕ) → offset_from count first (act_offset form) ≡ trig_at form first + 1
    act_is Obligation first = refl
    act_is Surviving first = refl
    act_is Power first = omega arith

    end_is : (form : Form) (first : ℕ) → offset_from count first (end_offset form) ≡ trig_at form first + 2
    end_is Obligation first = refl
    end_is Surviving first = refl
    end_is Power first = omega arith

    within : (place : Place) → slice_get places i ≡ Some place → i < length places
    within place is = elim (cases_lt i (length places)) [ inl lt ↦ lt | inr le ↦ let f = sym is ∙ slice_get_past places i le in cc ]

    at : (o : Option Place) → slice_get places i ≡ o → number_by (forms_in places) (Exert i) ≡ number_at exert_offset count o → number_by (forms_in places) (Trig i) ≡ number_at trig_offset count o → number_by (forms_in places) (Act i) ≡ number_at act_offset count o → number_by (forms_in places) (End i) ≡ number_at end_offset count o → IsPlaceOf (forms_in places) i o
    at None is e t a n = (e, t, a, n)
    at (Some place) is e t a n =
        let small = first_small 0 places h i place is in
        let lt = within place is in
        (e ∙ exert_is place.form place.first, t ∙ trig_is place.form place.first, a ∙ act_is place.form place.first, n ∙ end_is place.form place.first, omega (arith, small), omega (arith, lt, few))

-- the nodes so far, with those of one more position
nodes_and_one : (j : ℕ) (forms : List Form) (form : Form) (k : ℕ) → k ≡ j + length forms → nodes_from j (forms ++ form ∷ []) ≡ nodes_from j forms ++ nodes_of form k
nodes_and_one j [] form k e = let same : j ≡ k = omega (arith, e) in append-nil (nodes_of form j) ∙ ap (nodes_of form) same
nodes_and_one j (f ∷ forms) form k e =
    ap (λ l. nodes_of f j ++ l) (nodes_and_one (j + 1) forms form k (omega (arith, e))) ∙ sym (append_assoc (nodes_of f j) (nodes_from (j + 1) forms) (nodes_of form k))

firsts_and_one : (first j : ℕ) (places : List Place) (place : Place) → AreFirst first places → place.first ≡ first + length (nodes_from j (forms_in places)) → AreFirst first (places ++ place ∷ [])
firsts_and_one first j [] place h e = (omega (arith, e), tt)
firsts_and_one first j (p ∷ places) place h e =
    let size = length-append (nodes_of p.form j) (nodes_from (j + 1) (forms_in places)) in
    let same = (few_nodes p.form j).1 in
    (h.0, firsts_and_one (first + length (nodes_of p.form 0)) (j + 1) places place h.1 (omega (arith, e, size, same)))

-- one more place
pub numbered_more : (places : List Place) (nodes : List Node) (place : Place) (k : ℕ) → k ≡ length places → length places < 500 → place.first ≡ length nodes → AreNumbered places nodes → AreNumbered (places ++ place ∷ []) (nodes ++ nodes_of place.form k)
numbered_more places nodes place k e lt first so_far = record {
  few = omega (arith, length-append places (place ∷ []), lt);
  nodes_are =
      let a = nodes_and_one 0 (forms_in places) place.form k (omega (arith, e, length-map places (λ p. p.form))) in
      ap (λ l. l ++ nodes_of place.form k) so_far.nodes_are ∙ (sym a ∙ sym (ap (nodes_from 0) (map-append (λ (p : Place). p.form) places (place ∷ []))));
  firsts_are = firsts_and_one 0 0 places place so_far.firsts_are (let f = ap length so_far.nodes_are in omega (arith, first, f));
}

pub none_numbered : AreNumbered [] []
none_numbered = record { few = omega arith; nodes_are = refl; firsts_are = tt }

nodes_few : (j : ℕ) (forms : List Form) → length (nodes_from j forms) ≤ 4 * length forms
nodes_few j [] = omega arith
nodes_few j (form ∷ forms) =
    let size = length-append (nodes_of form j) (nodes_from (j + 1) forms) in
    let few = (few_nodes form j).0 in
    let later = nodes_few (j + 1) forms in
    omega (arith, size, few, later)

-- there are at most four nodes for each place
pub numbered_few : (places : List Place) (nodes : List Node) → AreNumbered places nodes → length nodes ≤ 4 * length places
numbered_few places nodes so_far =
    let a = nodes_few 0 (forms_in places) in
    let b = ap length so_far.nodes_are in
    let d = length-map places (λ (p : Place). p.form) in
    omega (arith, a, b, d)

-- the nodes of a deed are those of the forms of its positions
nodes_by_form : (i : ℕ) (ps : List Position) → flat_map (λ n. nodes_of n.1.form n.0) (enumerate_from i ps) ≡ nodes_from i (forms_of ps)
nodes_by_form i [] = refl
nodes_by_form i (p ∷ ps) = ap (λ l. nodes_of p.form i ++ l) (nodes_by_form (i + 1) ps)

pub nodes_are_by_form : (deed : Deed) → nodes deed ≡ nodes_by (forms_of deed.positions)
nodes_are_by_form deed = ap (λ l. l ++ Contract ∷ []) (nodes_by_form 0 deed.positions)

not_the_contract : (j : ℕ) (forms : List Form) → position_or_len (same_node Contract) (nodes_from j forms ++ Contract ∷ []) ≡ length (nodes_from j forms)
not_the_contract j [] = refl
not_the_contract j (form ∷ forms) =
    let rest = nodes_from (j + 1) forms ++ Contract ∷ [] in
    let shift = append_assoc (nodes_of form j) (nodes_from (j + 1) forms) (Contract ∷ []) in
    let size = length-append (nodes_of form j) (nodes_from (j + 1) forms) in
    ap (position_or_len (same_node Contract)) shift ∙ (skipped form rest ∙ (ap (λ n. length (nodes_of form j) + n) (not_the_contract (j + 1) forms) ∙ sym size))
  where
    skipped : (form : Form) (rest : List Node) → position_or_len (same_node Contract) (nodes_of form j ++ rest) ≡ length (nodes_of form j) + position_or_len (same_node Contract) rest
    skipped Obligation rest = omega arith
    skipped Surviving rest = omega arith
    skipped Power rest = omega arith

-- the contract's node is the last
pub contract_is_last : (forms : List Form) → number_by forms Contract + 1 ≡ length (nodes_by forms)
contract_is_last forms =
    let a = not_the_contract 0 forms in
    let b = length-append (nodes_from 0 forms) (Contract ∷ []) in
    omega (arith, a, b)

pub few_by_forms : (positions : List Position) → length (nodes_by (forms_of positions)) ≤ 4 * length positions + 1
few_by_forms positions =
    let a = nodes_few 0 (forms_of positions) in
    let b = length-append (nodes_from 0 (forms_of positions)) (Contract ∷ []) in
    let d = length-map positions (λ (p : Position). p.form) in
    omega (arith, a, b, d)
