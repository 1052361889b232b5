-- Which nodes remain, and the least need of each that does.
use Rattle.std.proofs.Common.{◌≡◌, ℕ, ◌<◌, ◌==◌, min, Bool, true, false, not, ◌||◌, ◌&&◌, List, [], ◌∷◌, ◌++◌, set, get_or, replicate, cond, inl, inr, refl, sym, ◌∙◌, ap, subst, arith, get_or-set_same, get_or-set_other}
use Rattle.std.specs.Option.{unwrap_or}
use Rattle.std.specs.declared.option.Option.{Option}
use Rattle.std.specs.declared.option.Option.TheVariants.{Some, None}
use Rattle.std.specs.List.{find}
use Rattle.std.proofs.lemmas.Bool.{both_ways, and_parts, and_from, cases_lt, or_left}
use Rattle.std.proofs.lemmas.Bool.Decides.{Decides-eqb}
use Rattle.std.proofs.lemmas.List.{append-nil, length-set, length-replicate, get_or-replicate}
use Rattle.sy_core.specs.Orders.{numbers_below, is_listed}
use Rattle.sy_strata.specs.declared.edge.Edge.{Edge}
use Rattle.sy_strata.specs.Edges.{needs_by}
use Rattle.sy_strata.specs.Machine.Ways.{MarksRest, AreLeast, least_marked}
use Rattle.sy_strata.proofs.Finding.{IsLeast, found_least, found_is, found_same, found_none}
use Rattle.sy_strata.proofs.Tallies.{listed_and_one, or_false}
use Rattle.sy_strata.proofs.Built.{needs_and_one}

-- no node is listed at first
pub all_remain : (count : ℕ) → MarksRest count [] (replicate count true)
all_remain count = record {
  marks_length = length-replicate count true;
  marks_are = λ k lt. get_or-replicate count k true false lt;
}

not_or_true : (b : Bool) → false ≡ not (b || true)
not_or_true true = refl
not_or_true false = refl

-- one more node is listed
pub one_less : (count : ℕ) (listed : List ℕ) (marks : List Bool) (node : ℕ) → node < count → MarksRest count listed marks → MarksRest count (listed ++ node ∷ []) (set marks node false)
one_less count listed marks node within so_far = record {
  marks_length = length-set marks node false ∙ so_far.marks_length;
  marks_are = λ k lt. at k lt (node == k) refl ∙ ap not (sym (listed_and_one listed node k));
}
  where
    at : (k : ℕ) → k < count → (b : Bool) → (node == k) ≡ b → get_or (set marks node false) k false ≡ not (is_listed listed k || (node == k))
    at k lt true same =
        let e : node ≡ k = (Decides-eqb node k).0 same in
        subst (λ n. get_or (set marks node false) n false ≡ not (is_listed listed k || (node == k))) e (get_or-set_same marks node false false (omega (arith, so_far.marks_length, within)) ∙ (not_or_true (is_listed listed k) ∙ ap (λ b. not (is_listed listed k || b)) (sym same)))
    at k lt false other =
        let ne : k ≡ node → ⊥ = λ e. both_ways (node == k) other ((Decides-eqb node k).1 (sym e)) in
        get_or-set_other marks node k false false ne ∙ (so_far.marks_are k lt ∙ (ap not (sym (or_false (is_listed listed k))) ∙ ap (λ b. not (is_listed listed k || b)) (sym other)))

module _ (marks : List Bool) (count : ℕ) where
  -- a need of the list that is marked
  abbrev passes : List ℕ → ℕ → Bool
  passes list need = is_listed list need && get_or marks need false

  abbrev first_marked : List ℕ → Option ℕ
  first_marked list = find (λ need. is_listed list need && get_or marks need false) (numbers_below count)

  module _ (list : List ℕ) (need : ℕ) where
    passes_more : (q : ℕ) → passes (list ++ need ∷ []) q ≡ ((is_listed list q || (need == q)) && get_or marks q false)
    passes_more q = ap (λ b. b && get_or marks q false) (listed_and_one list need q)

    passes_other : (q : ℕ) → (need ≡ q → ⊥) → passes (list ++ need ∷ []) q ≡ passes list q
    passes_other q ne =
        passes_more q ∙ (ap (λ b. (is_listed list q || b) && get_or marks q false) (not_same (need == q) refl) ∙ ap (λ b. b && get_or marks q false) (or_false (is_listed list q)))
      where
        not_same : (b : Bool) → (need == q) ≡ b → (need == q) ≡ false
        not_same true same = absurd (ne ((Decides-eqb need q).0 same))
        not_same false other = other

    none_more : (b : Bool) → (b && false) ≡ false
    none_more true = refl
    none_more false = refl

    -- a need that isn't marked changes nothing
    unmarked_need : get_or marks need false ≡ false → first_marked (list ++ need ∷ []) ≡ first_marked list
    unmarked_need out = found_same (passes (list ++ need ∷ [])) (passes list) count (λ q lt. at q (need == q) refl)
      where
        at : (q : ℕ) → (b : Bool) → (need == q) ≡ b → passes (list ++ need ∷ []) q ≡ passes list q
        at q true same =
            let unmarked : get_or marks q false ≡ false = subst (λ n. get_or marks n false ≡ false) ((Decides-eqb need q).0 same) out in
            ap (λ b. is_listed (list ++ need ∷ []) q && b) unmarked ∙ (none_more (is_listed (list ++ need ∷ []) q) ∙ (sym (none_more (is_listed list q)) ∙ ap (λ b. is_listed list q && b) (sym unmarked)))
        at q false other = passes_other q (λ e. both_ways (need == q) other ((Decides-eqb need q).1 e))

    module _ (within : need < count) (marked : get_or marks need false ≡ true) where
      this_passes : passes (list ++ need ∷ []) need ≡ true
      this_passes =
          passes_more need ∙ and_from (is_listed list need || (need == need)) (get_or marks need false) (or_this (is_listed list need) (need == need) ((Decides-eqb need need).1 refl)) marked
        where
          or_this : (a b : Bool) → b ≡ true → (a || b) ≡ true
          or_this true b h = refl
          or_this false b h = h

      still_passes : (k : ℕ) → passes list k ≡ true → passes (list ++ need ∷ []) k ≡ true
      still_passes k h =
          let parts = and_parts (is_listed list k) (get_or marks k false) h in
          passes_more k ∙ and_from (is_listed list k || (need == k)) (get_or marks k false) (or_left (is_listed list k) (need == k) parts.0) parts.1

      lesser_is : (found : Option ℕ) → IsLeast (passes list) count found → (m : ℕ) → m ≡ min (unwrap_or found need) need → IsLeast (passes (list ++ need ∷ [])) count (Some m)
      lesser_is None none m e =
          let is : need ≡ m = omega (arith, e) in
          subst (λ k. IsLeast (passes (list ++ need ∷ [])) count (Some k)) is (within, this_passes, λ q lt. passes_other q (λ same. absurd (omega (arith, same, lt))) ∙ none q (omega (arith, lt, within)))
      lesser_is (Some k) least m e = elim (cases_lt need k) [
        | inl lt ↦
            let is : need ≡ m = omega (arith, e, lt) in
            subst (λ n. IsLeast (passes (list ++ need ∷ [])) count (Some n)) is (within, this_passes, λ q before. passes_other q (λ same. absurd (omega (arith, same, before))) ∙ least.2 q (omega (arith, before, lt)))
        | inr le ↦
            let is : k ≡ m = omega (arith, e, le) in
            subst (λ n. IsLeast (passes (list ++ need ∷ [])) count (Some n)) is (least.0, still_passes k least.1, λ q before. passes_other q (λ same. absurd (omega (arith, same, before, le))) ∙ least.2 q before)
      ]

      marked_need : first_marked (list ++ need ∷ []) ≡ Some (min (unwrap_or (first_marked list) need) need)
      marked_need =
          found_is (passes (list ++ need ∷ [])) count (Some (min (unwrap_or (first_marked list) need) need)) (lesser_is (first_marked list) (found_least (passes list) count) (min (unwrap_or (first_marked list) need) need) refl)

-- no need is known at first
pub none_known : (count : ℕ) (marks : List Bool) → AreLeast count [] marks (replicate count None)
none_known count marks = record {
  least_length = length-replicate count None;
  least_are = λ k lt. get_or-replicate count k None None lt ∙ sym (found_none (λ need. is_listed (needs_by [] k) need && get_or marks need false) count (λ q. refl));
}

module _ (count : ℕ) (edges : List Edge) (edge : Edge) (marks : List Bool) (least : List (Option ℕ)) (so_far : AreLeast count edges marks least) where
  known : (k : ℕ) (b : Bool) → (edge.node == k) ≡ b → least_marked (edges ++ edge ∷ []) marks count k ≡ first_marked marks count (needs_by edges k ++ cond b (edge.needs ∷ []) [])
  known k b e =
      ap (first_marked marks count) (needs_and_one edges edge k) ∙ ap (λ c. first_marked marks count (needs_by edges k ++ cond c (edge.needs ∷ []) [])) e

  others_known : (k : ℕ) → k < count → (edge.node == k) ≡ false → get_or least k None ≡ least_marked (edges ++ edge ∷ []) marks count k
  others_known k lt other =
      so_far.least_are k lt ∙ sym (known k false other ∙ ap (first_marked marks count) (append-nil (needs_by edges k)))

  -- an edge to a node that doesn't remain
  pub edge_to_listed : get_or marks edge.needs false ≡ false → AreLeast count (edges ++ edge ∷ []) marks least
  edge_to_listed out = record {
    least_length = so_far.least_length;
    least_are = λ k lt. at k lt (edge.node == k) refl;
  }
    where
      at : (k : ℕ) → k < count → (b : Bool) → (edge.node == k) ≡ b → get_or least k None ≡ least_marked (edges ++ edge ∷ []) marks count k
      at k lt true same =
          so_far.least_are k lt ∙ sym (known k true same ∙ unmarked_need marks count (needs_by edges k) edge.needs out)
      at k lt false other = others_known k lt other

  -- an edge to a node that remains
  pub edge_to_remaining : edge.node < count → edge.needs < count → get_or marks edge.needs false ≡ true → AreLeast count (edges ++ edge ∷ []) marks (set least edge.node (Some (min (unwrap_or (get_or least edge.node None) edge.needs) edge.needs)))
  edge_to_remaining node needs marked = record {
    least_length = length-set least edge.node (Some (min (unwrap_or (get_or least edge.node None) edge.needs) edge.needs)) ∙ so_far.least_length;
    least_are = λ k lt. at k lt (edge.node == k) refl;
  }
    where
      at_node : get_or (set least edge.node (Some (min (unwrap_or (get_or least edge.node None) edge.needs) edge.needs))) edge.node None ≡ least_marked (edges ++ edge ∷ []) marks count edge.node
      at_node =
          get_or-set_same least edge.node (Some (min (unwrap_or (get_or least edge.node None) edge.needs) edge.needs)) None (omega (arith, so_far.least_length, node)) ∙ (ap (λ o. Some (min (unwrap_or o edge.needs) edge.needs)) (so_far.least_are edge.node node) ∙ sym (known edge.node true ((Decides-eqb edge.node edge.node).1 refl) ∙ marked_need marks count (needs_by edges edge.node) edge.needs needs marked))

      at : (k : ℕ) → k < count → (b : Bool) → (edge.node == k) ≡ b → get_or (set least edge.node (Some (min (unwrap_or (get_or least edge.node None) edge.needs) edge.needs))) k None ≡ least_marked (edges ++ edge ∷ []) marks count k
      at k lt true same =
          subst (λ n. get_or (set least edge.node (Some (min (unwrap_or (get_or least edge.node None) edge.needs) edge.needs))) n None ≡ least_marked (edges ++ edge ∷ []) marks count n) ((Decides-eqb edge.node k).0 same) at_node
      at k lt false other =
          let ne : k ≡ edge.node → ⊥ = λ e. both_ways (edge.node == k) other ((Decides-eqb edge.node k).1 (sym e)) in
          get_or-set_other least edge.node k (Some (min (unwrap_or (get_or least edge.node None) edge.needs) edge.needs)) None ne ∙ others_known k lt other
