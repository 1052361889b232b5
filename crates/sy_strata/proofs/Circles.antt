-- The nodes of the cycle that is named need each other in a circle.
use Rattle.std.proofs.Common.{◌≡◌, ℕ, zero, suc, ◌<◌, ◌≤◌, ◌+◌, ◌==◌, Bool, true, false, not, ◌||◌, ◌&&◌, List, [], ◌∷◌, ◌++◌, length, map, drop, cond, ◌⊎◌, inl, inr, refl, sym, ◌∙◌, ap, subst, arith, if◌then◌else◌}
use Rattle.std.specs.declared.option.Option.{Option}
use Rattle.std.specs.declared.option.Option.TheVariants.{Some, None}
use Rattle.std.specs.Prelude.{nat_eq}
use Rattle.std.specs.List.{All, IsDistinct, filter, find, list_any, list_all, position_or_len}
use Rattle.std.proofs.lemmas.Bool.{both_ways, and_parts, and_from, or_cases, not-true, not-false, not_from_false}
use Rattle.std.proofs.lemmas.Bool.Decides.{Decides-eqb}
use Rattle.std.proofs.lemmas.Cmp.{nat_eq_equiv}
use Rattle.std.proofs.lemmas.List.{length_push}
use Rattle.std.proofs.lemmas.List.Elements.{All-head, All-tail}
use Rattle.std.proofs.lemmas.Map.Keys.{IsDistinct-push}
use Rattle.std.proofs.lemmas.Map.Steps.{length-le_from_distinct_below, le-length_from_below}
use Rattle.sy_core.specs.Orders.{numbers_below, is_listed, is_ready, and_node, first_listed, order, IsAcyclic, least_remaining, least_need, from_first, cycle_on, named_cycle}
use Rattle.sy_strata.specs.declared.edge.Edge.{Edge}
use Rattle.sy_strata.specs.Edges.{needs_by, first_or, LeadTo, IsCircle}
use Rattle.sy_strata.proofs.Finding.{IsLeast, found_least}
use Rattle.sy_strata.proofs.Tallies.{listed_and_one, same_swapped}

-- edges between nodes below a count say no need past it
pub needs_below : (count : ℕ) (edges : List Edge) → All (λ edge. (edge.node < count) × (edge.needs < count)) edges → (k m : ℕ) → is_listed (needs_by edges k) m ≡ true → m < count
needs_below count [] ends k m h = cc
needs_below count (e ∷ es) ends k m h = at (e.node == k) h (needs_below count es (All-tail (λ edge. (edge.node < count) × (edge.needs < count)) e es ends) k m)
  where
    here : (e.needs == m) ≡ true → m < count
    here same = subst (λ n. n < count) ((Decides-eqb e.needs m).0 same) ((All-head (λ edge. (edge.node < count) × (edge.needs < count)) e es ends).1)

    at : (b : Bool) → is_listed (map (λ edge. edge.needs) (cond b (e ∷ filter (λ edge. edge.node == k) es) (filter (λ edge. edge.node == k) es))) m ≡ true → (is_listed (needs_by es k) m ≡ true → m < count) → m < count
    at true h later = elim (or_cases (e.needs == m) (is_listed (needs_by es k) m) h) [ inl same ↦ here same | inr more ↦ later more ]
    at false h later = later h

listed_is : (list : List ℕ) (q : ℕ) → list_any (nat_eq q) list ≡ is_listed list q
listed_is [] q = refl
listed_is (x ∷ xs) q = ap (λ b. b || list_any (nat_eq q) xs) (same_swapped q x) ∙ ap (λ b. (x == q) || b) (listed_is xs q)

all_in : (listed list : List ℕ) → ((m : ℕ) → is_listed list m ≡ true → is_listed listed m ≡ true) → list_all (is_listed listed) list ≡ true
all_in listed [] h = refl
all_in listed (x ∷ xs) h =
    and_from (is_listed listed x) (list_all (is_listed listed) xs) (h x (or_this (x == x) (is_listed xs x) ((Decides-eqb x x).1 refl))) (all_in listed xs (λ m more. h m (or_that (x == m) (is_listed xs m) more)))
  where
    or_this : (a b : Bool) → a ≡ true → (a || b) ≡ true
    or_this true b e = refl
    or_this false b e = cc

    or_that : (a b : Bool) → b ≡ true → (a || b) ≡ true
    or_that true b e = refl
    or_that false b e = e

distinct_none : IsDistinct nat_eq []
unfolding IsDistinct
distinct_none = tt

module _ (needs : ℕ → List ℕ) where
  first_push : (nodes : List ℕ) (node other : ℕ) → first_or (nodes ++ node ∷ []) other ≡ first_or nodes node
  first_push [] node other = refl
  first_push (x ∷ xs) node other = refl

  lead_push : (way : List ℕ) (node other : ℕ) → LeadTo needs way node → is_listed (needs node) other ≡ true → LeadTo needs (way ++ node ∷ []) other
  lead_push [] node other leads h = (h, tt)
  lead_push (x ∷ xs) node other leads h =
      (ap (is_listed (needs x)) (first_push xs node other) ∙ leads.0, lead_push xs node other leads.1 h)

  circle_from : (way : List ℕ) (node : ℕ) → is_listed way node ≡ true → LeadTo needs way node → IsCircle needs (from_first node way)
  circle_from [] node there leads = cc
  circle_from (x ∷ xs) node there leads = at (x == node) refl there (circle_from xs node)
    where
      at : (b : Bool) → (x == node) ≡ b → (b || is_listed xs node) ≡ true → (is_listed xs node ≡ true → LeadTo needs xs node → IsCircle needs (from_first node xs)) → IsCircle needs (drop (cond (not b) (1 + position_or_len (λ other. other == node) xs) 0) (x ∷ xs))
      at true same h later = subst (LeadTo needs (x ∷ xs)) (sym ((Decides-eqb x node).0 same)) leads
      at false other h later =
          let e : suc (position_or_len (λ other. other == node) xs) ≡ 1 + position_or_len (λ other. other == node) xs = omega arith in
          subst (λ n. IsCircle needs (drop n (x ∷ xs))) e (later h leads.1)

  module _ (count : ℕ) where
    at_most : (n : ℕ) → length (first_listed needs count n) ≤ n
    at_most zero = omega arith
    at_most (suc n) = at (find (is_ready needs (first_listed needs count n)) (numbers_below count)) (at_most n)
      where
        at : (found : Option ℕ) → length (first_listed needs count n) ≤ n → length (and_node (first_listed needs count n) found) ≤ suc n
        at None h = omega (arith, h)
        at (Some k) h = omega (arith, h, length_push (first_listed needs count n) k)

    -- so many nodes are listed, or none is ready
    full_or_done : (n : ℕ) → (length (first_listed needs count n) ≡ n) ⊎ (find (is_ready needs (first_listed needs count n)) (numbers_below count) ≡ None)
    full_or_done zero = inl refl
    full_or_done (suc n) = at (find (is_ready needs (first_listed needs count n)) (numbers_below count)) refl (full_or_done n)
      where
        at : (found : Option ℕ) → find (is_ready needs (first_listed needs count n)) (numbers_below count) ≡ found → ((length (first_listed needs count n) ≡ n) ⊎ (find (is_ready needs (first_listed needs count n)) (numbers_below count) ≡ None)) → (length (and_node (first_listed needs count n) found) ≡ suc n) ⊎ (find (is_ready needs (and_node (first_listed needs count n) found)) (numbers_below count) ≡ None)
        at None e h = inr e
        at (Some k) e (inl h) = inl (omega (arith, h, length_push (first_listed needs count n) k))
        at (Some k) e (inr h) = cc

    module _ (bounded : (k m : ℕ) → is_listed (needs k) m ≡ true → m < count) (cyclic : IsAcyclic needs count → ⊥) where
      none_ready : (k : ℕ) → k < count → is_ready needs (order needs count) k ≡ false
      none_ready = elim (full_or_done count) [
        | inl full ↦ absurd (cyclic full)
        | inr done ↦ subst (IsLeast (is_ready needs (order needs count)) count) done (found_least (is_ready needs (order needs count)) count)
      ]

      -- the node remains
      pub record Remains (node : ℕ) : Type 0 where
        pub within : node < count
        pub out : is_listed (order needs count) node ≡ false

      some_remains : (k : ℕ) × (least_remaining needs count ≡ Some k) × Remains k
      some_remains = at (least_remaining needs count) refl (found_least (λ node. not (is_listed (order needs count) node)) count)
        where
          at : (found : Option ℕ) → least_remaining needs count ≡ found → IsLeast (λ node. not (is_listed (order needs count) node)) count found → (k : ℕ) × (least_remaining needs count ≡ Some k) × Remains k
          at (Some k) e least = (k, e, record { within = least.0; out = not-true (is_listed (order needs count) k) least.1 })
          at None e none =
              let long = le-length_from_below (order needs count) count (λ q lt. listed_is (order needs count) q ∙ not-false (is_listed (order needs count) q) (none q lt)) in
              let short = at_most count in
              absurd (cyclic (omega (arith, long, short)))

      -- and needs one that remains too
      next_remains : (node : ℕ) → Remains node → (m : ℕ) × (least_need needs count node ≡ Some m) × Remains m × (is_listed (needs node) m ≡ true)
      next_remains node remains = at (least_need needs count node) refl (found_least (λ need. is_listed (needs node) need && not (is_listed (order needs count) need)) count)
        where
          met : ((q : ℕ) → q < count → (is_listed (needs node) q && not (is_listed (order needs count) q)) ≡ false) → (m : ℕ) → is_listed (needs node) m ≡ true → is_listed (order needs count) m ≡ true
          met none m h = not-false (is_listed (order needs count) m) (sym (ap (λ b. b && not (is_listed (order needs count) m)) h) ∙ none m (bounded node m h))

          at : (found : Option ℕ) → least_need needs count node ≡ found → IsLeast (λ need. is_listed (needs node) need && not (is_listed (order needs count) need)) count found → (m : ℕ) × (least_need needs count node ≡ Some m) × Remains m × (is_listed (needs node) m ≡ true)
          at (Some m) e least =
              let parts = and_parts (is_listed (needs node) m) (not (is_listed (order needs count) m)) least.1 in
              (m, e, record { within = least.0; out = not-true (is_listed (order needs count) m) parts.1 }, parts.0)
          at None e none =
              let ready = and_from (not (is_listed (order needs count) node)) (list_all (is_listed (order needs count)) (needs node)) (not_from_false (is_listed (order needs count) node) remains.out) (all_in (order needs count) (needs node) (met none)) in
              absurd (both_ways (is_ready needs (order needs count) node) (none_ready node remains.within) ready)

      goes_round : (steps : ℕ) (way : List ℕ) (node : ℕ) → IsDistinct nat_eq way → ((q : ℕ) → is_listed way q ≡ true → q < count) → count < steps + length way → Remains node → LeadTo needs way node → IsCircle needs (cycle_on (least_need needs count) steps way (Some node))
      goes_round zero way node distinct below many remains leads =
          let few = length-le_from_distinct_below way count distinct (λ q h. below q (sym (listed_is way q) ∙ h)) in
          absurd (omega (arith, few, many))
      goes_round (suc steps) way node distinct below many remains leads =
          at (is_listed way node) refl (λ fresh m rest lead. goes_round steps (way ++ node ∷ []) m (IsDistinct-push nat_eq_equiv way node distinct (listed_is way node ∙ fresh)) below_more (omega (arith, many, length_push way node)) rest lead)
        where
          below_more : (q : ℕ) → is_listed (way ++ node ∷ []) q ≡ true → q < count
          below_more q h = elim (or_cases (is_listed way q) (node == q) (sym (listed_and_one way node q) ∙ h)) [
            | inl earlier ↦ below q earlier
            | inr same ↦ subst (λ n. n < count) ((Decides-eqb node q).0 same) remains.within
          ]

          at : (b : Bool) → is_listed way node ≡ b → (is_listed way node ≡ false → (m : ℕ) → Remains m → LeadTo needs (way ++ node ∷ []) m → IsCircle needs (cycle_on (least_need needs count) steps (way ++ node ∷ []) (Some m))) → IsCircle needs (if b then from_first node way else cycle_on (least_need needs count) steps (way ++ node ∷ []) (least_need needs count node))
          at true there later = circle_from way node there leads
          at false fresh later =
              let next = next_remains node remains in
              subst (λ o. IsCircle needs (cycle_on (least_need needs count) steps (way ++ node ∷ []) o)) (sym next.1) (later fresh next.0 next.2 (lead_push way node next.0 leads next.3))

      pub named_is_circle : IsCircle needs (named_cycle needs count)
      named_is_circle =
          let first = some_remains in
          let many : count < suc count + 0 = omega arith in
          subst (λ o. IsCircle needs (cycle_on (least_need needs count) (suc count) [] o)) (sym first.1) (goes_round (suc count) [] first.0 distinct_none (λ q h. absurd (both_ways false refl h)) many first.2 tt)
