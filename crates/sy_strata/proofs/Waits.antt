-- The nodes that wait while nodes are listed.
use Rattle.std.proofs.Common.{◌≡◌, ℕ, ◌<◌, ◌≤◌, ◌+◌, ◌==◌, Bool, true, false, not, ◌||◌, ◌&&◌, List, [], ◌∷◌, ◌++◌, length, get_or, inl, inr, sym, ◌∙◌, ap, subst, arith, ◌⊎◌}
use Rattle.std.specs.Prelude.{nat_lt}
use Rattle.std.specs.List.{find, list_all}
use Rattle.std.specs.declared.option.Option.TheVariants.{Some, None}
use Rattle.std.specs.Ordering.{nat_cmp}
use Rattle.std.specs.BTreeSet.{BTreeSet, contains}
use Rattle.std.proofs.lemmas.Bool.{and_parts, or_cases, lt-ltb, ltb-true, not-true, eqb-true}
use Rattle.std.proofs.lemmas.Bool.Decides.{Decides-eqb, nat_tests}
use Rattle.sy_core.specs.Orders.{numbers_below, is_listed, is_ready}
use Rattle.sy_strata.specs.declared.edge.Edge.{Edge}
use Rattle.sy_strata.specs.Edges.{needs_by}
use Rattle.sy_strata.specs.Machine.Counting.{times, AreCounted, IsLeastTaken, AreMet}
use Rattle.sy_strata.proofs.Finding.{found_is}
use Rattle.sy_strata.proofs.Tallies.{lacking, listed_and_one, lacking_and_one, all_listed, all_lacking}
use Rattle.sy_strata.proofs.Lowering.{is_within}

-- the counters are those of the nodes that aren't listed, and the nodes of the set are those that are ready
pub record AreWaiting (needs : ℕ → List ℕ) (count : ℕ) (listed : List ℕ) (needers : List (List ℕ)) (unmet : List ℕ) (ready : BTreeSet ℕ) : Type 0 where
  pub needers_length : length needers ≡ count
  pub unmet_length : length unmet ≡ count
  pub needers_are : (k m : ℕ) → times k (get_or needers m []) ≡ times m (needs k)
  pub unmet_are : (k : ℕ) → get_or unmet k 0 ≡ lacking listed (needs k)
  pub done : (k : ℕ) → is_listed listed k ≡ true → get_or unmet k 0 ≡ 0
  pub ready_are : (k : ℕ) → contains nat_cmp ready k ≡ (nat_lt k count && is_ready needs listed k)

-- no node is listed at first
pub all_wait : (count : ℕ) (edges : List Edge) (needers : List (List ℕ)) (unmet : List ℕ) (ready : BTreeSet ℕ) → AreCounted count edges needers unmet → ((k : ℕ) → contains nat_cmp ready k ≡ (nat_lt k (length unmet) && (get_or unmet k 0 == 0))) → AreWaiting (needs_by edges) count [] needers unmet ready
all_wait count edges needers unmet ready counted without = record {
  needers_length = counted.needers_length;
  unmet_length = counted.unmet_length;
  needers_are = counted.needers_are;
  unmet_are = unmet_is;
  done = λ k h. cc;
  ready_are = λ k.
      without k ∙ (ap (λ n. nat_lt k n && (get_or unmet k 0 == 0)) counted.unmet_length ∙ (ap (λ n. nat_lt k count && (n == 0)) (unmet_is k) ∙ ap (λ b. nat_lt k count && b) (sym (all_listed [] (needs_by edges k)))));
}
  where
    unmet_is : (k : ℕ) → get_or unmet k 0 ≡ lacking [] (needs_by edges k)
    unmet_is k = counted.unmet_are k ∙ sym (all_lacking (needs_by edges k))

ready_step : (below listed same : Bool) (old told left : ℕ) → left + told ≡ old → (same ≡ true → old ≡ 0) → (0 < old → below ≡ true) → (listed ≡ true → old ≡ 0) → ((not same && (below && (not listed && (old == 0)))) || (nat_lt 0 told && (left == 0))) ≡ (below && (not (listed || same) && (left == 0)))
ready_step below listed same old told left e this within done = grind (arith, nat_tests)

module _ (needs : ℕ → List ℕ) (count : ℕ) (listed : List ℕ) (needers : List (List ℕ)) (unmet : List ℕ) (ready : BTreeSet ℕ) (waits : AreWaiting needs count listed needers unmet ready) where
  ready_at : (k : ℕ) → contains nat_cmp ready k ≡ (nat_lt k count && (not (is_listed listed k) && (get_or unmet k 0 == 0)))
  ready_at k =
      waits.ready_are k ∙ ap (λ b. nat_lt k count && (not (is_listed listed k) && b)) (all_listed listed (needs k) ∙ ap (λ n. n == 0) (sym (waits.unmet_are k)))

  -- where the set is empty the order lists no more
  pub none_next : ((q : ℕ) → contains nat_cmp ready q ≡ false) → find (is_ready needs listed) (numbers_below count) ≡ None
  none_next none =
      found_is (is_ready needs listed) count None (λ q within. sym (ap (λ b. b && is_ready needs listed q) (lt-ltb q count within)) ∙ (sym (waits.ready_are q) ∙ none q))

  module _ (node : ℕ) (popped : BTreeSet ℕ) (taken : IsLeastTaken node ready popped) where
    there : contains nat_cmp ready node ≡ true
    there = taken.member

    -- the least of the set is the one that the order lists next
    pub next_is : find (is_ready needs listed) (numbers_below count) ≡ Some node
    next_is =
        let parts = and_parts (nat_lt node count) (is_ready needs listed node) (sym (waits.ready_are node) ∙ there) in
        let within : node < count = ltb-true node count parts.0 in
        found_is (is_ready needs listed) count (Some node) (within, parts.1, λ q lt. sym (ap (λ b. b && is_ready needs listed q) (lt-ltb q count (omega (arith, lt, within)))) ∙ (sym (waits.ready_are q) ∙ taken.least q lt))

    is_out : is_listed listed node ≡ false
    is_out =
        let parts = and_parts (nat_lt node count) (is_ready needs listed node) (sym (waits.ready_are node) ∙ there) in
        not-true (is_listed listed node) ((and_parts (not (is_listed listed node)) (list_all (is_listed listed) (needs node)) parts.1).0)

    pub is_below : node < count
    is_below = ltb-true node count ((and_parts (nat_lt node count) (is_ready needs listed node) (sym (waits.ready_are node) ∙ there)).0)

    is_met : get_or unmet node 0 ≡ 0
    is_met =
        let parts = and_parts (nat_lt node count) (not (is_listed listed node) && (get_or unmet node 0 == 0)) (sym (ready_at node) ∙ there) in
        eqb-true (get_or unmet node 0) 0 ((and_parts (not (is_listed listed node)) (get_or unmet node 0 == 0) parts.1).1)

    -- what is told of the nodes that need it is no more than their counters
    told_at : (k : ℕ) → lacking (listed ++ node ∷ []) (needs k) + times k (get_or needers node []) ≡ get_or unmet k 0
    told_at k =
        let a = lacking_and_one listed node is_out (needs k) in
        let b = waits.needers_are k node in
        let d = waits.unmet_are k in
        omega (arith, a, b, d)

    pub has_room : (k : ℕ) → times k (get_or needers node []) ≤ get_or unmet k 0
    has_room k = let a = told_at k in omega (arith, a)

    -- once the node is listed and the others were told
    pub waits_on : (after : BTreeSet ℕ) (new : List ℕ) → AreMet (get_or needers node []) unmet new popped after → AreWaiting needs count (listed ++ node ∷ []) needers new after
    waits_on after new met = record {
      needers_length = waits.needers_length;
      unmet_length = met.unmet_length ∙ waits.unmet_length;
      needers_are = waits.needers_are;
      unmet_are = left_is;
      done = λ k h. or_done k (or_cases (is_listed listed k) (node == k) (sym (listed_and_one listed node k) ∙ h));
      ready_are = λ k.
          met.ready k ∙ (ap (λ b. b || (nat_lt 0 (times k (get_or needers node [])) && (get_or new k 0 == 0))) (popped_at k) ∙ (step_at k ∙ sym (target_at k)));
    }
      where
        left_is : (k : ℕ) → get_or new k 0 ≡ lacking (listed ++ node ∷ []) (needs k)
        left_is k = let a = told_at k in let b = met.unmet k in omega (arith, a, b)

        or_done : (k : ℕ) → (is_listed listed k ≡ true) ⊎ ((node == k) ≡ true) → get_or new k 0 ≡ 0
        or_done k (inl h) = let a = met.unmet k in let b = waits.done k h in omega (arith, a, b)
        or_done k (inr h) = let a = met.unmet k in let b = subst (λ n. get_or unmet n 0 ≡ 0) ((Decides-eqb node k).0 h) is_met in omega (arith, a, b)

        popped_at : (k : ℕ) → contains nat_cmp popped k ≡ (not (node == k) && (nat_lt k count && (not (is_listed listed k) && (get_or unmet k 0 == 0))))
        popped_at k = taken.others k ∙ ap (λ b. not (node == k) && b) (ready_at k)

        step_at : (k : ℕ) → ((not (node == k) && (nat_lt k count && (not (is_listed listed k) && (get_or unmet k 0 == 0)))) || (nat_lt 0 (times k (get_or needers node [])) && (get_or new k 0 == 0))) ≡ (nat_lt k count && (not (is_listed listed k || (node == k)) && (get_or new k 0 == 0)))
        step_at k =
            ready_step (nat_lt k count) (is_listed listed k) (node == k) (get_or unmet k 0) (times k (get_or needers node [])) (get_or new k 0) (met.unmet k) (λ same. subst (λ n. get_or unmet n 0 ≡ 0) ((Decides-eqb node k).0 same) is_met) (λ some. lt-ltb k count (let a = is_within unmet k some in omega (arith, a, waits.unmet_length))) (waits.done k)

        target_at : (k : ℕ) → (nat_lt k count && is_ready needs (listed ++ node ∷ []) k) ≡ (nat_lt k count && (not (is_listed listed k || (node == k)) && (get_or new k 0 == 0)))
        target_at k =
            ap (λ b. nat_lt k count && (not b && list_all (is_listed (listed ++ node ∷ [])) (needs k))) (listed_and_one listed node k) ∙ ap (λ b. nat_lt k count && (not (is_listed listed k || (node == k)) && b)) (all_listed (listed ++ node ∷ []) (needs k) ∙ ap (λ n. n == 0) (sym (left_is k)))
