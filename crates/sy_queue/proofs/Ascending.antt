-- What putting a point and taking points off does to an ascending list.
use Rattle.std.proofs.Common.{◌≡◌, ℕ, zero, suc, ◌<◌, ◌≤◌, ℤ, ◌≤ℤ◌, Bool, true, false, cond, int_lt, List, [], ◌∷◌, length, filter, get_or, refl, arith}
use Rattle.std.specs.List.{AllByRecursion}
use Rattle.std.specs.Int.Signed.{≤ℤ_refl}
use Rattle.std.proofs.lemmas.Int.{ints}
use Rattle.sy_queue.specs.Deadlines.{IsAscending, later_than, with_point}

abbrev pub All : {X : Type 0} → (X → Type 0) → List X → Type 0
All P xs = AllByRecursion P xs

pub before : (a b : ℤ) → int_lt a b ≡ true → a ≤ℤ b
before a b h = grind (arith, ints)

pub not_before : (a b : ℤ) → int_lt a b ≡ false → b ≤ℤ a
not_before a b h = grind (arith, ints)

pub at_most_trans : (a b c : ℤ) → a ≤ℤ b → b ≤ℤ c → a ≤ℤ c
at_most_trans a b c p q = omega (arith, ints)

pub all_map : {X : Type 0} (P Q : X → Type 0) → ((x : X) → P x → Q x) → (xs : List X) → All P xs → All Q xs
all_map P Q f [] a = tt
all_map P Q f (x ∷ xs) a = (f x a.0, all_map P Q f xs a.1)

-- what holds of the points and of this one holds of all of them together
all_with : (P : ℤ → Type 0) (point : ℤ) → P point → (points : List ℤ) → All P points → All P (with_point point points)
all_with P point one [] all = (one, tt)
all_with P point one (p ∷ points) all = by (int_lt point p) (all_with P point one points all.1)
  where
    by : (b : Bool) → All P (with_point point points) → All P (cond b (point ∷ p ∷ points) (p ∷ with_point point points))
    by true more = (one, all)
    by false more = (all.0, more)

pub with_ascends : (point : ℤ) (points : List ℤ) → IsAscending points → IsAscending (with_point point points)
with_ascends point [] up = (tt, tt)
with_ascends point (p ∷ points) up = by (int_lt point p) refl (with_ascends point points up.1)
  where
    by : (b : Bool) → int_lt point p ≡ b → IsAscending (with_point point points) → IsAscending (cond b (point ∷ p ∷ points) (p ∷ with_point point points))
    by true is more =
        let less : point ≤ℤ p = before point p is in
        ((less, all_map (λ q. p ≤ℤ q) (λ q. point ≤ℤ q) (λ q h. at_most_trans point p q less h) points up.0), up)
    by false is more = (all_with (λ q. p ≤ℤ q) point (not_before point p is) points up.0, more)

all_kept : {X : Type 0} (P : X → Type 0) (test : X → Bool) (xs : List X) → All P xs → All P (filter test xs)
all_kept P test [] all = tt
all_kept P test (x ∷ xs) all = by (test x) (all_kept P test xs all.1)
  where
    by : (b : Bool) → All P (filter test xs) → All P (cond b (x ∷ filter test xs) (filter test xs))
    by true more = (all.0, more)
    by false more = more

pub later_ascends : (point : ℤ) (points : List ℤ) → IsAscending points → IsAscending (later_than point points)
later_ascends point [] up = tt
later_ascends point (p ∷ points) up = by (int_lt point p) (later_ascends point points up.1)
  where
    by : (b : Bool) → IsAscending (later_than point points) → IsAscending (cond b (p ∷ later_than point points) (later_than point points))
    by true more = (all_kept (λ q. p ≤ℤ q) (λ q. int_lt point q) points up.0, more)
    by false more = more

all_at : {X : Type 0} (P : X → Type 0) (xs : List X) → All P xs → (k : ℕ) (d : X) → k < length xs → P (get_or xs k d)
all_at P [] all k d h = absurd (omega arith)
all_at P (x ∷ xs) all zero d h = all.0
all_at P (x ∷ xs) all (suc k) d h = all_at P xs all.1 k d (omega arith)

-- of an ascending list no item is later than one behind it
pub ascends_at : (points : List ℤ) → IsAscending points → (i j : ℕ) (d : ℤ) → i ≤ j → j < length points → get_or points i d ≤ℤ get_or points j d
ascends_at [] up i j d le h = absurd (omega arith)
ascends_at (p ∷ points) up zero zero d le h = ≤ℤ_refl p
ascends_at (p ∷ points) up zero (suc j) d le h = all_at (λ q. p ≤ℤ q) points up.0 j d (omega arith)
ascends_at (p ∷ points) up (suc i) zero d le h = absurd (omega arith)
ascends_at (p ∷ points) up (suc i) (suc j) d le h = ascends_at points up.1 i j d (omega arith) (omega arith)
