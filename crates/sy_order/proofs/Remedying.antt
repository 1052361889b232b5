-- The remedies of each position, noted by the violations that triggers name.
use Rattle.std.proofs.Common.{◌≡◌, ℕ, zero, suc, ◌+◌, ◌-◌, ◌<◌, ◌≤◌, ◌==◌, Bool, true, false, ◌&&◌, ◌||◌, List, [], ◌∷◌, ◌++◌, map, length, take, get_or, replicate, cond, Option, Some, None, slice_get, refl, sym, ◌∙◌, ap, subst, arith, ◌⊎◌, inl, inr, length-append, if◌then◌else◌}
use Rattle.std.specs.List.{flat_map, filter, enumerate_from, list_any}
use Rattle.std.proofs.lemmas.Bool.{cases_lt}
use Rattle.std.proofs.lemmas.Bool.Decides.{Decides-eqb}
use Rattle.std.proofs.lemmas.List.{append-nil, get_or_past, get_or-replicate, length-replicate}
use Rattle.std.proofs.lemmas.List.Folds.{list_any-append}
use Rattle.sy_core.specs.declared.kind.Target.TheVariants as T
use Rattle.sy_core.specs.declared.position.Position.{Position}
use Rattle.sy_core.specs.Mentions.{InternalEvent, is_violation_of}
use Rattle.sy_core.specs.Conditions.{is_remedy}
use Rattle.sy_core.proofs.Listing.{AllBelow, not_same}
use Rattle.sy_order.specs.Machine.Powers.{AreMore}
use Rattle.sy_order.specs.Machine.Remedies.{is_number, ends_in, ending_in, NoneEndsIn, AreNoted, violated_by, remedy_of, given_remedies}

last_there : (number : ℕ) (base : List ℕ) → slice_get (base ++ number ∷ []) (length base) ≡ Some number
last_there number [] = refl
last_there number (x ∷ xs) = last_there number xs

ends_in_last : (number : ℕ) (base : List ℕ) → ends_in number (base ++ number ∷ []) ≡ true
ends_in_last number base =
    let size = length-append base (number ∷ []) in
    let at : length (base ++ number ∷ []) - 1 ≡ length base = omega (arith, size) in
    ap (λ k. is_number number (slice_get (base ++ number ∷ []) k)) at ∙ (ap (is_number number) (last_there number base) ∙ (Decides-eqb number number).1 refl)

below_at : (n : ℕ) (xs : List ℕ) (k x : ℕ) → AllBelow n xs → slice_get xs k ≡ Some x → x < n
below_at n [] k x h is = cc
below_at n (y ∷ ys) zero x h is = let same : y ≡ x = cc in omega (arith, same, h.0)
below_at n (y ∷ ys) (suc k) x h is = below_at n ys k x h.1 is

-- a list of numbers below another doesn't end in it
below_not_last : (number : ℕ) (base : List ℕ) → AllBelow number base → ends_in number base ≡ false
below_not_last number base below = at (slice_get base (length base - 1)) refl
  where
    at : (o : Option ℕ) → slice_get base (length base - 1) ≡ o → is_number number o ≡ false
    at None is = refl
    at (Some x) is = let lt = below_at number base (length base - 1) x below is in not_same x number (λ e. omega (arith, e, lt))

pub none_ends_in : (number : ℕ) (lists : List (List ℕ)) → ((k : ℕ) → AllBelow number (get_or lists k [])) → NoneEndsIn number lists
none_ends_in number lists below k = below_not_last number (get_or lists k []) (below k)

below_append : (n : ℕ) (xs ys : List ℕ) → AllBelow n xs → AllBelow n ys → AllBelow n (xs ++ ys)
below_append n [] ys h k = k
below_append n (x ∷ xs) ys h k = (h.0, below_append n xs ys h.1 k)

below_one_more : (n : ℕ) (xs : List ℕ) → AllBelow n xs → AllBelow (n + 1) xs
below_one_more n [] h = tt
below_one_more n (x ∷ xs) h = (omega (arith, h.0), below_one_more n xs h.1)

-- the numbers stay below that of the next position
pub below_grows : (number : ℕ) (p : Position) (old new : List (List ℕ)) → AreMore (λ k. remedy_of number k p) old new → ((k : ℕ) → AllBelow number (get_or old k [])) → (k : ℕ) → AllBelow (number + 1) (get_or new k [])
below_grows number p old new more below k = elim (cases_lt k (length old)) [
  | inl lt ↦ subst (AllBelow (number + 1)) (sym (more.more_are k lt)) (below_append (number + 1) (get_or old k []) (remedy_of number k p) (below_one_more number (get_or old k []) (below k)) (given (is_remedy (T.Position k) p)))
  | inr le ↦ subst (AllBelow (number + 1)) (sym (get_or_past new k [] (omega (arith, more.more_length, le)))) tt
]
  where
    given : (b : Bool) → AllBelow (number + 1) (if b then number ∷ [] else [])
    given true = (omega arith, tt)
    given false = tt

-- one more event is noted
pub noted_more : (number : ℕ) (done : List InternalEvent) (event : InternalEvent) (first old new : List (List ℕ)) → NoneEndsIn number first → AreMore (λ k. violated_by number k done) first old → AreNoted number event old new → AreMore (λ k. violated_by number k (done ++ event ∷ [])) first new
noted_more number done event first old new fresh so_far noted = record {
  more_length = noted.noted_length ∙ so_far.more_length;
  more_are = λ k lt.
      let e = list_any-append (is_violation_of (T.Position k)) done (event ∷ []) in
      noted.noted k (omega (arith, so_far.more_length, lt))
      ∙ (here (list_any (is_violation_of (T.Position k)) done) (is_violation_of (T.Position k) event) (get_or first k []) (get_or old k []) (fresh k) (so_far.more_are k lt)
      ∙ ap (λ b. get_or first k [] ++ (if b then number ∷ [] else [])) (sym e));
}
  where
    here : (a v : Bool) (base list : List ℕ) → ends_in number base ≡ false → list ≡ base ++ (if a then number ∷ [] else []) → (if v then ending_in number list else list) ≡ base ++ (if a || (v || false) then number ∷ [] else [])
    here true true base list fresh e =
        ap (ending_in number) e ∙ ap (λ b. if b then base ++ number ∷ [] else (base ++ number ∷ []) ++ number ∷ []) (ends_in_last number base)
    here true false base list fresh e = e
    here false true base list fresh e = ap (ending_in number) (e ∙ append-nil base) ∙ ap (λ b. if b then base else base ++ number ∷ []) fresh
    here false false base list fresh e = e

-- the remedies that are given are those of the definitions
pub given_are : (k i : ℕ) (ps : List Position) → flat_map (λ n. remedy_of n.0 k n.1) (enumerate_from i ps) ≡ map (λ n. n.0) (filter (λ n. is_remedy (T.Position k) n.1) (enumerate_from i ps))
given_are k i [] = refl
given_are k i (p ∷ ps) = at (is_remedy (T.Position k) p) (given_are k (i + 1) ps)
  where
    rest : List (ℕ × Position)
    rest = filter (λ n. is_remedy (T.Position k) n.1) (enumerate_from (i + 1) ps)

    later : List ℕ
    later = flat_map (λ n. remedy_of n.0 k n.1) (enumerate_from (i + 1) ps)

    at : (b : Bool) → later ≡ map (λ n. n.0) rest → (if b then i ∷ [] else []) ++ later ≡ map (λ n. n.0) (cond b ((i, p) ∷ rest) rest)
    at true h = ap (λ l. i ∷ l) h
    at false h = h

pub none_below : (count k : ℕ) → AllBelow 0 (get_or (replicate count []) k [])
none_below count k = elim (cases_lt k count) [
  | inl lt ↦ subst (AllBelow 0) (sym (get_or-replicate count k [] [] lt)) tt
  | inr le ↦ subst (AllBelow 0) (sym (get_or_past (replicate count []) k [] (omega (arith, length-replicate {A = List ℕ} count [], le)))) tt
]
