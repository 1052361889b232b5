-- Counters that are lowered one after the other.
use Rattle.std.proofs.Common.{◌≡◌, ℕ, ◌<◌, ◌≤◌, ◌+◌, ◌-◌, ◌==◌, Bool, true, false, ◌||◌, ◌&&◌, List, [], ◌∷◌, ◌++◌, length, take, set, get_or, cond, inl, inr, refl, sym, ◌∙◌, ap, subst, arith, get_or-set_same, get_or-set_other}
use Rattle.std.specs.Prelude.{nat_lt}
use Rattle.std.specs.Ordering.{nat_cmp}
use Rattle.std.specs.BTreeSet.{BTreeSet, contains}
use Rattle.std.proofs.lemmas.Bool.{both_ways, cases_lt}
use Rattle.std.proofs.lemmas.Bool.Decides.{Decides-eqb, nat_tests}
use Rattle.std.proofs.lemmas.List.{length-set, get_or_past}
use Rattle.std.proofs.lemmas.List.Sums.{sum_by_more_le}
use Rattle.sy_strata.specs.Machine.Counting.{times, IsLowered, AreMet}
use Rattle.sy_strata.proofs.Tallies.{times_and_one, or_false}

met_ready : (b s : Bool) (told unmet left : ℕ) → left + cond s 1 0 ≡ unmet → ((b || (nat_lt 0 told && (unmet == 0))) || (s && (unmet == 1))) ≡ (b || (nat_lt 0 (told + cond s 1 0) && (left == 0)))
met_ready true s told unmet left e = refl
met_ready false true told unmet left e = grind (arith, nat_tests)
met_ready false false told unmet left e = grind (arith, nat_tests)

-- a counter isn't 0 past the last one
pub is_within : (unmet : List ℕ) (k : ℕ) → 0 < get_or unmet k 0 → k < length unmet
is_within unmet k some = elim (cases_lt k (length unmet)) [ inl lt ↦ lt | inr le ↦ absurd (omega (arith, get_or_past unmet k 0 le, some)) ]

lowered : (unmet : List ℕ) (node k : ℕ) → 0 < get_or unmet node 0 → get_or (set unmet node (get_or unmet node 0 - 1)) k 0 + cond (node == k) 1 0 ≡ get_or unmet k 0
lowered unmet node k some = here (node == k) refl
  where
    left : ℕ
    left = get_or unmet node 0 - 1

    here : (b : Bool) → (node == k) ≡ b → get_or (set unmet node (get_or unmet node 0 - 1)) k 0 + cond b 1 0 ≡ get_or unmet k 0
    here true same =
        let e : node ≡ k = (Decides-eqb node k).0 same in
        let a = get_or-set_same unmet node (get_or unmet node 0 - 1) 0 (is_within unmet node some) in
        subst (λ n. get_or (set unmet node (get_or unmet node 0 - 1)) n 0 + 1 ≡ get_or unmet n 0) e (omega (arith, a, some))
    here false other =
        let ne : k ≡ node → ⊥ = λ e. both_ways (node == k) other ((Decides-eqb node k).1 (sym e)) in
        let a = get_or-set_other unmet node k (get_or unmet node 0 - 1) 0 ne in
        omega (arith, a)

-- one more node is told
pub met_more : (needers : List ℕ) (needer : ℕ) (old during new : List ℕ) (before between after : BTreeSet ℕ) → AreMet needers old during before between → 0 < get_or during needer 0 → IsLowered needer during new between after → AreMet (needers ++ needer ∷ []) old new before after
met_more needers needer old during new before between after so_far some one = record {
  unmet_length = ap length one.unmet ∙ (length-set during needer (get_or during needer 0 - 1) ∙ so_far.unmet_length);
  unmet = λ k.
      let a = lower_at k in
      let b = so_far.unmet k in
      let d = times_and_one k needers needer in
      omega (arith, a, b, d);
  ready = λ k.
      let a = one.ready k in
      let b = ap (λ r. r || ((needer == k) && (get_or during k 0 == 1))) (so_far.ready k) in
      let d = met_ready (contains nat_cmp before k) (needer == k) (times k needers) (get_or during k 0) (get_or new k 0) (lower_at k) in
      let e = ap (λ t. contains nat_cmp before k || (nat_lt 0 t && (get_or new k 0 == 0))) (sym (times_and_one k needers needer)) in
      a ∙ (b ∙ (d ∙ e));
}
  where
    lower_at : (k : ℕ) → get_or new k 0 + cond (needer == k) 1 0 ≡ get_or during k 0
    lower_at k = subst (λ l. get_or l k 0 + cond (needer == k) 1 0 ≡ get_or during k 0) (sym one.unmet) (lowered during needer k some)

-- none is told at first
pub none_met : (old : List ℕ) (before : BTreeSet ℕ) → AreMet [] old old before before
none_met old before = record {
  unmet_length = refl;
  unmet = λ k. omega arith;
  ready = λ k. sym (or_false (contains nat_cmp before k));
}

-- a node that is still to be told has a counter that isn't 0
pub is_some : (needers : List ℕ) (i : ℕ) (old during : List ℕ) (before between : BTreeSet ℕ) → i < length needers → ((k : ℕ) → times k needers ≤ get_or old k 0) → AreMet (take i needers) old during before between → 0 < get_or during (get_or needers i 0) 0
is_some needers i old during before between lt room so_far =
    let needer = get_or needers i 0 in
    let a = sum_by_more_le (λ other. cond {A = ℕ} (other == get_or needers i 0) 1 0) needers i 0 lt in
    let b = ap (λ (s : Bool). cond {A = ℕ} s 1 0) ((Decides-eqb (get_or needers i 0) (get_or needers i 0)).1 refl) in
    let d = room (get_or needers i 0) in
    let e = so_far.unmet (get_or needers i 0) in
    omega (arith, a, b, d, e)
