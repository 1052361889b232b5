-- Which points a list has after a point was put, and after some were taken off; and what the first of an ascending list is.
use Rattle.std.proofs.Common.{◌≡◌, ℤ, ◌<ℤ◌, ◌≤ℤ◌, Bool, true, false, cond, ◌||◌, ◌&&◌, int_lt, int_eq, List, [], ◌∷◌, Some, None, slice_get, refl, sym, ap, ◌∙◌, subst, arith}
use Rattle.std.specs.List.{AllByRecursion, list_any}
use Rattle.std.specs.Int.Signed.{≤ℤ_refl}
use Rattle.std.proofs.lemmas.Int.{ints}
use Rattle.std.proofs.lemmas.Bool.Decides.{Decides-int_eq}
use Rattle.sy_queue.specs.Deadlines.{IsAscending, later_than, with_point}

or_left_swap : (a b c : Bool) → (a || (b || c)) ≡ (b || (a || c))
or_left_swap true true c = refl
or_left_swap true false c = refl
or_left_swap false b c = refl

-- a point that was put is among the points, beside those before
pub any_with_point : (test : ℤ → Bool) (point : ℤ) (points : List ℤ) → list_any test (with_point point points) ≡ (test point || list_any test points)
any_with_point test point [] = refl
any_with_point test point (p ∷ points) = by (int_lt point p) (any_with_point test point points)
  where
    by : (b : Bool) → list_any test (with_point point points) ≡ (test point || list_any test points)
        → list_any test (cond b (point ∷ p ∷ points) (p ∷ with_point point points)) ≡ (test point || list_any test (p ∷ points))
    by true more = refl
    by false more = ap (λ b. test p || b) more ∙ or_left_swap (test p) (test point) (list_any test points)

-- a point is among those that are later than another exactly where it is later and was among them
pub any_later : (point value : ℤ) (points : List ℤ) → list_any (λ p. int_eq value p) (later_than point points) ≡ (int_lt point value && list_any (λ p. int_eq value p) points)
any_later point value [] = by (int_lt point value)
  where
    by : (b : Bool) → false ≡ (b && false)
    by true = refl
    by false = refl
any_later point value (p ∷ points) = by (int_eq value p) refl (int_lt point p) refl (any_later point value points)
  where
    later : (b : Bool) → int_lt point p ≡ b → int_eq value p ≡ true → int_lt point value ≡ b
    later b l e = ap (int_lt point) ((Decides-int_eq value p).0 e) ∙ l

    by : (e : Bool) → int_eq value p ≡ e → (b : Bool) → int_lt point p ≡ b
        → list_any (λ q. int_eq value q) (later_than point points) ≡ (int_lt point value && list_any (λ q. int_eq value q) points)
        → list_any (λ q. int_eq value q) (cond b (p ∷ later_than point points) (later_than point points)) ≡ (int_lt point value && (e || list_any (λ q. int_eq value q) points))
    by true e true l more = ap (λ x. x || list_any (λ q. int_eq value q) (later_than point points)) e ∙ sym (ap (λ x. x && true) (later true l e))
    by true e false l more = more ∙ ap (λ x. x && list_any (λ q. int_eq value q) points) (later false l e) ∙ sym (ap (λ x. x && true) (later false l e))
    by false e true l more = ap (λ x. x || list_any (λ q. int_eq value q) (later_than point points)) e ∙ more
    by false e false l more = more

-- no point is this one, where none can be
none_is : (value : ℤ) (P : ℤ → Type 0) → ((q : ℤ) → P q → value ≡ q → ⊥) → (points : List ℤ) → AllByRecursion P points → list_any (λ p. int_eq value p) points ≡ false
none_is value P other [] all = refl
none_is value P other (q ∷ points) all = at (int_eq value q) refl (none_is value P other points all.1)
  where
    at : (b : Bool) → int_eq value q ≡ b → list_any (λ p. int_eq value p) points ≡ false → list_any (λ p. int_eq value p) (q ∷ points) ≡ false
    at true e more = absurd (other q all.0 ((Decides-int_eq value q).0 e))
    at false e more = ap (λ x. x || list_any (λ p. int_eq value p) points) e ∙ more

-- the first point of an ascending list is among them, and no earlier one is
pub first_is_least : (points : List ℤ) (least : ℤ) → IsAscending points → slice_get points 0 ≡ Some least
    → (list_any (λ p. int_eq least p) points ≡ true) × ((value : ℤ) → value <ℤ least → list_any (λ p. int_eq value p) points ≡ false)
first_is_least [] least up is = absurd cc
first_is_least (p ∷ points) least up is = (
  ap (λ x. x || list_any (λ q. int_eq least q) points) ((Decides-int_eq least p).1 (sym same)),
  λ value earlier. none_is value (λ q. p ≤ℤ q) (λ q le e. before value q (subst (λ x. value <ℤ x) (sym same) earlier) le e) (p ∷ points) (≤ℤ_refl p, up.0),
)
  where
    same : p ≡ least
    same = cc

    before : (value q : ℤ) → value <ℤ p → p ≤ℤ q → value ≡ q → ⊥
    before value q lt le e = omega (arith, ints, lt, le, e)

-- with no first point there is none
pub none_first : (points : List ℤ) → slice_get points 0 ≡ None → points ≡ []
none_first [] is = refl
none_first (p ∷ points) is = absurd cc
