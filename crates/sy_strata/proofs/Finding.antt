-- The least number below a count that passes a test.
use Rattle.std.proofs.Common.{◌≡◌, ℕ, zero, suc, ◌<◌, ◌==◌, Bool, true, false, [], ◌∷◌, cond, refl, sym, ◌∙◌, ap, subst, arith}
use Rattle.std.specs.Option.{option_or}
use Rattle.std.specs.declared.option.Option.{Option}
use Rattle.std.specs.declared.option.Option.TheVariants.{Some, None}
use Rattle.std.specs.List.{find}
use Rattle.std.proofs.lemmas.Bool.{both_ways}
use Rattle.std.proofs.lemmas.Bool.Decides.{Decides-eqb}
use Rattle.std.proofs.lemmas.List.Folds.{find-append}
use Rattle.sy_core.specs.Orders.{numbers_below}

-- the number is the least below the count that passes, or none there passes
abbrev pub IsLeast : (ℕ → Bool) → ℕ → Option ℕ → Type 0
IsLeast p count None = (q : ℕ) → q < count → p q ≡ false
IsLeast p count (Some k) = (k < count) × (p k ≡ true) × ((q : ℕ) → q < k → p q ≡ false)

below_last : (q n : ℕ) → q < suc n → (q ≡ n → ⊥) → q < n
below_last q n lt other = grind arith

one_more : (p : ℕ → Bool) (n : ℕ) (found : Option ℕ) → IsLeast p n found → (b : Bool) → p n ≡ b → IsLeast p (suc n) (option_or found (cond b (Some n) None))
one_more p n (Some k) least b e = (omega (arith, least.0), least.1, least.2)
one_more p n None none true e = (omega arith, e, none)
one_more p n None none false e = λ q lt. at q lt (q == n) refl
  where
    at : (q : ℕ) → q < suc n → (b : Bool) → (q == n) ≡ b → p q ≡ false
    at q lt true same = subst (λ r. p r ≡ false) (sym ((Decides-eqb q n).0 same)) e
    at q lt false other = none q (below_last q n lt (λ same. both_ways (q == n) other ((Decides-eqb q n).1 same)))

-- what is found is the least
pub found_least : (p : ℕ → Bool) (count : ℕ) → IsLeast p count (find p (numbers_below count))
found_least p zero = λ q lt. absurd (omega (arith, lt))
found_least p (suc n) =
    subst (IsLeast p (suc n)) (sym (find-append p (numbers_below n) (n ∷ []))) (one_more p n (find p (numbers_below n)) (found_least p n) (p n) refl)

no_less : (k m : ℕ) → (k < m → ⊥) → (m < k → ⊥) → k ≡ m
no_less k m f g = grind arith

one_least : (p : ℕ → Bool) (count : ℕ) (one other : Option ℕ) → IsLeast p count one → IsLeast p count other → one ≡ other
one_least p count None None a b = refl
one_least p count None (Some k) a b = absurd (both_ways (p k) (a k b.0) b.1)
one_least p count (Some k) None a b = absurd (both_ways (p k) (b k a.0) a.1)
one_least p count (Some k) (Some m) a b =
    ap Some (no_less k m (λ lt. both_ways (p k) (b.2 k lt) a.1) (λ lt. both_ways (p m) (a.2 m lt) b.1))

-- and the least is what is found
pub found_is : (p : ℕ → Bool) (count : ℕ) (least : Option ℕ) → IsLeast p count least → find p (numbers_below count) ≡ least
found_is p count least h = one_least p count (find p (numbers_below count)) least (found_least p count) h

least_same : (p q : ℕ → Bool) (count : ℕ) (least : Option ℕ) → ((k : ℕ) → k < count → p k ≡ q k) → IsLeast q count least → IsLeast p count least
least_same p q count None same h = λ k lt. same k lt ∙ h k lt
least_same p q count (Some m) same h = (h.0, same m h.0 ∙ h.1, λ k lt. same k (omega (arith, lt, h.0)) ∙ h.2 k lt)

-- tests that agree below the count find the same
pub found_same : (p q : ℕ → Bool) (count : ℕ) → ((k : ℕ) → k < count → p k ≡ q k) → find p (numbers_below count) ≡ find q (numbers_below count)
found_same p q count same =
    found_is p count (find q (numbers_below count)) (least_same p q count (find q (numbers_below count)) same (found_least q count))

-- no number is found where none passes
pub found_none : (p : ℕ → Bool) (count : ℕ) → ((k : ℕ) → p k ≡ false) → find p (numbers_below count) ≡ None
found_none p count none = found_is p count None (λ k lt. none k)
