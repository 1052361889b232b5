-- The items of a queue where a binary search splits them.
use Rattle.std.proofs.Common.{◌≡◌, ℕ, suc, ◌+◌, ◌-◌, ◌<◌, ℤ, ◌≤ℤ◌, true, false, cond, int_lt, List, [], ◌∷◌, ◌++◌, length, take, drop, get_or, reverse, refl, sym, ap, subst, ◌∙◌, arith}
use Rattle.std.specs.List.{insert}
use Rattle.std.specs.List.Sorted.{IsPartitionedBy}
use Rattle.std.proofs.lemmas.Int.{ints}
use Rattle.std.proofs.lemmas.List.{append_assoc, get_or-reverse, get_or-take, get_or-drop, length-reverse, length-take, length-drop, reverse-append, take-append-drop}
use Rattle.sy_queue.specs.Deadlines.{IsAscending, later_than, with_point}
use Rattle.sy_queue.specs.Machine.Keeping.{AreLaterBelow}
use Rattle.sy_queue.proofs.Ascending.{All, ascends_at}

later_still : (point p q : ℤ) → p ≤ℤ q → int_lt point p ≡ true → int_lt point q ≡ true
later_still point p q le h = grind (arith, ints)

-- the items fall, so those that are later than a point stand in front
pub later_in_front : (point : ℤ) (items : List ℤ) → IsAscending (reverse items) → IsPartitionedBy (λ p. int_lt point p) items
later_in_front point items up i j d le h later =
    let n = length items in
    let long = length-reverse items in
    let at : (k : ℕ) → k < n → get_or (reverse items) (n - 1 - k) d ≡ get_or items k d =
    λ k l. let back : n - 1 - (n - 1 - k) ≡ k = omega arith in
    get_or-reverse items (n - 1 - k) d (omega arith) ∙ ap (λ m. get_or items m d) back in
    let falls = ascends_at (reverse items) up (n - 1 - j) (n - 1 - i) d (omega arith) (omega (arith, long)) in
    let down : get_or items j d ≤ℤ get_or items i d =
    subst (λ p. p ≤ℤ get_or items i d) (at j h) (subst (λ q. get_or (reverse items) (n - 1 - j) d ≤ℤ q) (at i (omega arith)) falls) in
    later_still point (get_or items j d) (get_or items i d) down later

all_of : {X : Type 0} (P : X → Type 0) (xs : List X) → ((k : ℕ) (d : X) → k < length xs → P (get_or xs k d)) → All P xs
all_of P [] h = tt
all_of P (x ∷ xs) h = (h 0 x (omega arith), all_of P xs (λ k d l. h (suc k) d (omega arith)))

all_append : {X : Type 0} (P : X → Type 0) (xs ys : List X) → All P xs → All P ys → All P (xs ++ ys)
all_append P [] ys a b = b
all_append P (x ∷ xs) ys a b = (a.0, all_append P xs ys a.1 b)

all_reversed : {X : Type 0} (P : X → Type 0) (xs : List X) → All P xs → All P (reverse xs)
all_reversed P [] a = tt
all_reversed P (x ∷ xs) a =
    subst (λ ys. All P ys) (sym (reverse-append (x ∷ []) xs)) (all_append P (reverse xs) (x ∷ []) (all_reversed P xs a.1) (a.0, tt))

-- a point is put between what isn't later and what is
put_between : (point : ℤ) (low high : List ℤ) → All (λ p. int_lt point p ≡ false) low → All (λ p. int_lt point p ≡ true) high
    → with_point point (low ++ high) ≡ low ++ point ∷ high
put_between point [] [] a b = refl
put_between point [] (p ∷ high) a b = ap (λ t. cond t (point ∷ p ∷ high) (p ∷ with_point point high)) b.0
put_between point (p ∷ low) high a b =
    ap (λ t. cond t (point ∷ p ∷ (low ++ high)) (p ∷ with_point point (low ++ high))) a.0
    ∙ ap (λ (ps : List ℤ). p ∷ ps) (put_between point low high a.1 b)

-- what isn't later goes
later_stays : (point : ℤ) (low high : List ℤ) → All (λ p. int_lt point p ≡ false) low → All (λ p. int_lt point p ≡ true) high
    → later_than point (low ++ high) ≡ high
later_stays point [] [] a b = refl
later_stays point [] (p ∷ high) a b =
    ap (λ t. cond t (p ∷ later_than point high) (later_than point high)) b.0 ∙ ap (λ (ps : List ℤ). p ∷ ps) (later_stays point [] high a b.1)
later_stays point (p ∷ low) high a b =
    ap (λ t. cond t (p ∷ later_than point (low ++ high)) (later_than point (low ++ high))) a.0 ∙ later_stays point low high a.1 b

record Parts (point : ℤ) (items : List ℤ) (n : ℕ) : Type 0 where
  low : All (λ p. int_lt point p ≡ false) (reverse (drop n items))
  high : All (λ p. int_lt point p ≡ true) (reverse (take n items))
  whole : reverse (drop n items) ++ reverse (take n items) ≡ reverse items

parts_of : (point : ℤ) (items : List ℤ) (n : ℕ) → AreLaterBelow point items n → Parts point items n
parts_of point items n split = record {
  low = all_reversed _ (drop n items) (all_of _ (drop n items) (λ k d l.
      let short = length-drop n items in
      subst (λ (p : ℤ). int_lt point p ≡ false) (sym (get_or-drop n items k d)) (split.parts.1 (n + k) d (omega arith) (let le = split.within in omega (arith, short, le)))));
  high = all_reversed _ (take n items) (all_of _ (take n items) (λ k d l.
      let short = length-take n items in
      let below : k < n = omega (arith, short) in
      subst (λ (p : ℤ). int_lt point p ≡ true) (sym (get_or-take n items k d below)) (split.parts.0 k d (omega arith) below)));
  whole = sym (reverse-append (take n items) (drop n items)) ∙ ap reverse (take-append-drop n items);
}

-- the points after one was inserted where the later items end
pub inserted : (point : ℤ) (items : List ℤ) (n : ℕ) → AreLaterBelow point items n
    → reverse (insert items n point) ≡ with_point point (reverse items)
inserted point items n split =
    let parts = parts_of point items n split in
    reverse-append (take n items) (point ∷ drop n items)
    ∙ ap (λ (ps : List ℤ). ps ++ reverse (take n items)) (reverse-append (point ∷ []) (drop n items))
    ∙ append_assoc (reverse (drop n items)) (point ∷ []) (reverse (take n items))
    ∙ sym (put_between point (reverse (drop n items)) (reverse (take n items)) parts.low parts.high)
    ∙ ap (with_point point) parts.whole

-- the points after all but the later items were cut off
pub cut : (point : ℤ) (items : List ℤ) (n : ℕ) → AreLaterBelow point items n
    → reverse (take n items) ≡ later_than point (reverse items)
cut point items n split =
    let parts = parts_of point items n split in
    sym (later_stays point (reverse (drop n items)) (reverse (take n items)) parts.low parts.high) ∙ ap (later_than point) parts.whole
