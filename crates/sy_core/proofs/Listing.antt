-- What the order of some numbered nodes lists: each after what it needs, each once, and all where the needs have no cycle.
use Rattle.std.proofs.Common.{◌≡◌, ℕ, zero, suc, ◌+◌, ◌<◌, ◌≤◌, ◌==◌, Bool, true, false, not, ◌&&◌, ◌||◌, List, [], ◌∷◌, ◌++◌, ◌⊎◌, inl, inr, Option, Some, None, length, refl, sym, ◌∙◌, ap, subst, arith, append_assoc, length-append, if◌then◌else◌}
use Rattle.std.specs.List.{list_any, list_all, find}
use Rattle.std.proofs.lemmas.Bool.Decides.{Decides-eqb}
use Rattle.std.proofs.lemmas.List.Folds.{list_any-append}
use Rattle.sy_core.specs.Orders.{numbers_below, is_listed, is_ready, and_node, and_least, first_listed, order, IsAcyclic}
use Rattle.sy_core.proofs.OrderLaw.{append_none}

-- truth values
pub and_left : (a b : Bool) → (a && b) ≡ true → a ≡ true
and_left true b h = refl
and_left false b h = cc

pub and_right : (a b : Bool) → (a && b) ≡ true → b ≡ true
and_right true b h = h
and_right false b h = cc

not_true : (a : Bool) → not a ≡ true → a ≡ false
not_true true h = cc
not_true false h = refl

pub or_false : (b : Bool) → (b || false) ≡ b
or_false true = refl
or_false false = refl

or_true : (b : Bool) → (b || true) ≡ true
or_true true = refl
or_true false = refl

pub not_same : (x k : ℕ) → (x ≡ k → ⊥) → (x == k) ≡ false
not_same x k ne = at (x == k) refl
  where
    at : (b : Bool) → (x == k) ≡ b → (x == k) ≡ false
    at true e = absurd (ne ((Decides-eqb x k).0 e))
    at false e = e

-- each number in the rest is below the count, doesn't stand before, and needs only numbers that do
abbrev pub ReadyFrom : (ℕ → List ℕ) → ℕ → List ℕ → List ℕ → Type 0
ReadyFrom needs count done [] = Unit {0}
ReadyFrom needs count done (k ∷ ks) =
    (k < count) × (is_listed done k ≡ false) × (list_all (is_listed done) (needs k) ≡ true) × ReadyFrom needs count (done ++ k ∷ []) ks

module _ (needs : ℕ → List ℕ) (count : ℕ) where
  ready_and_one : (done xs : List ℕ) (k : ℕ) → ReadyFrom needs count done xs → k < count → is_listed (done ++ xs) k ≡ false → list_all (is_listed (done ++ xs)) (needs k) ≡ true → ReadyFrom needs count done (xs ++ k ∷ [])
  ready_and_one done [] k h lt fresh r =
      let same = append_none done in
      (lt, subst (λ l. is_listed l k ≡ false) same fresh, subst (λ l. list_all (is_listed l) (needs k) ≡ true) same r, tt)
  ready_and_one done (x ∷ xs) k h lt fresh r =
      let same = sym (append_assoc done (x ∷ []) xs) in
      (h.0, h.1, h.2, ready_and_one (done ++ x ∷ []) xs k h.3 lt (subst (λ l. is_listed l k ≡ false) same fresh) (subst (λ l. list_all (is_listed l) (needs k) ≡ true) same r))

-- what is found passes
pub found_passes : {X : Type 0} (p : X → Bool) (xs : List X) (k : X) → find p xs ≡ Some k → p k ≡ true
found_passes p [] k h = cc
found_passes p (x ∷ xs) k h = at (p x) refl (found_passes p xs k) h
  where
    at : (b : Bool) → p x ≡ b → (find p xs ≡ Some k → p k ≡ true) → (if b then Some x else find p xs) ≡ Some k → p k ≡ true
    at true e later h = let same : x ≡ k = cc in subst (λ y. p y ≡ true) same e
    at false e later h = later h

-- all numbers of a list are below another
abbrev pub AllBelow : ℕ → List ℕ → Type 0
AllBelow n [] = Unit {0}
AllBelow n (k ∷ ks) = (k < n) × AllBelow n ks

pub below_and_one : (n : ℕ) (xs : List ℕ) (k : ℕ) → AllBelow n xs → k < n → AllBelow n (xs ++ k ∷ [])
below_and_one n [] k h lt = (lt, tt)
below_and_one n (x ∷ xs) k h lt = (h.0, below_and_one n xs k h.1 lt)

below_more : (n : ℕ) (xs : List ℕ) → AllBelow n xs → AllBelow (suc n) xs
below_more n [] h = tt
below_more n (x ∷ xs) h = (omega (arith, h.0), below_more n xs h.1)

numbers_are_below : (n : ℕ) → AllBelow n (numbers_below n)
numbers_are_below zero = tt
numbers_are_below (suc n) = below_and_one (suc n) (numbers_below n) n (below_more n (numbers_below n) (numbers_are_below n)) (omega arith)

found_is_below : (p : ℕ → Bool) (n : ℕ) (xs : List ℕ) (k : ℕ) → AllBelow n xs → find p xs ≡ Some k → k < n
found_is_below p n [] k h f = cc
found_is_below p n (x ∷ xs) k h f = at (p x) (found_is_below p n xs k h.1) f
  where
    at : (b : Bool) → (find p xs ≡ Some k → k < n) → (if b then Some x else find p xs) ≡ Some k → k < n
    at true later f = let same : x ≡ k = cc in subst (λ y. y < n) same h.0
    at false later f = later f

-- a listed number is one of the list's
pub listed_is_below : (n : ℕ) (xs : List ℕ) (k : ℕ) → AllBelow n xs → is_listed xs k ≡ true → k < n
listed_is_below n [] k h l = cc
listed_is_below n (x ∷ xs) k h l = at (x == k) refl (listed_is_below n xs k h.1) l
  where
    at : (b : Bool) → (x == k) ≡ b → (is_listed xs k ≡ true → k < n) → (b || is_listed xs k) ≡ true → k < n
    at true e later l = subst (λ y. y < n) ((Decides-eqb x k).0 e) h.0
    at false e later l = later l

-- sums by number
abbrev pub total : (ℕ → ℕ) → ℕ → ℕ
total w zero = 0
total w (suc n) = total w n + w n

abbrev pub sum_of : (ℕ → ℕ) → List ℕ → ℕ
sum_of w [] = 0
sum_of w (k ∷ ks) = w k + sum_of w ks

sum_and_one : (w : ℕ → ℕ) (ks : List ℕ) (k : ℕ) → sum_of w (ks ++ k ∷ []) ≡ sum_of w ks + w k
sum_and_one w [] k = omega arith
sum_and_one w (x ∷ ks) k = let h = sum_and_one w ks k in omega (arith, h)

-- a number's weight, where it is listed
abbrev pub kept : (ℕ → ℕ) → List ℕ → ℕ → ℕ
kept w listed k = if is_listed listed k then w k else 0

listed_and_one : (xs : List ℕ) (x k : ℕ) → is_listed (xs ++ x ∷ []) k ≡ (is_listed xs k || (x == k))
listed_and_one xs x k = list_any-append (λ y. y == k) xs (x ∷ []) ∙ ap (λ b. is_listed xs k || b) (or_false (x == k))

pub listed_last : (xs : List ℕ) (k : ℕ) → is_listed (xs ++ k ∷ []) k ≡ true
listed_last xs k = listed_and_one xs k k ∙ (ap (λ b. is_listed xs k || b) ((Decides-eqb k k).1 refl) ∙ or_true (is_listed xs k))

pub listed_more : (xs : List ℕ) (x k : ℕ) → is_listed xs k ≡ true → is_listed (xs ++ x ∷ []) k ≡ true
listed_more xs x k h = listed_and_one xs x k ∙ ap (λ b. b || (x == k)) h

kept_other : (w : ℕ → ℕ) (xs : List ℕ) (x k : ℕ) → (x ≡ k → ⊥) → kept w (xs ++ x ∷ []) k ≡ kept w xs k
kept_other w xs x k ne =
    ap (λ b. if b then w k else 0) (listed_and_one xs x k ∙ (ap (λ b. is_listed xs k || b) (not_same x k ne) ∙ or_false (is_listed xs k)))

kept_this : (w : ℕ → ℕ) (xs : List ℕ) (x : ℕ) → kept w (xs ++ x ∷ []) x ≡ w x
kept_this w xs x = ap (λ b. if b then w x else 0) (listed_last xs x)

total_others : (w : ℕ → ℕ) (xs : List ℕ) (x n : ℕ) → n ≤ x → total (kept w (xs ++ x ∷ [])) n ≡ total (kept w xs) n
total_others w xs x zero le = refl
total_others w xs x (suc n) le =
    let a = total_others w xs x n (omega (arith, le)) in
    let b = kept_other w xs x n (λ e. absurd (omega (arith, le, e))) in
    λ j. a j + b j

smaller : (x n : ℕ) → x < suc n → (x ≡ n → ⊥) → x < n
smaller x n lt ne = grind arith

total_and_one : (w : ℕ → ℕ) (xs : List ℕ) (x n : ℕ) → is_listed xs x ≡ false → x < n → total (kept w (xs ++ x ∷ [])) n ≡ total (kept w xs) n + w x
total_and_one w xs x zero out lt = absurd (omega (arith, lt))
total_and_one w xs x (suc n) out lt = at (x == n) refl (total_and_one w xs x n out)
  where
    at : (b : Bool) → (x == n) ≡ b → (x < n → total (kept w (xs ++ x ∷ [])) n ≡ total (kept w xs) n + w x) → (total (kept w (xs ++ x ∷ [])) n + kept w (xs ++ x ∷ []) n) ≡ (total (kept w xs) n + kept w xs n) + w x
    at true e later =
        let same : x ≡ n = (Decides-eqb x n).0 e in
        let a = total_others w xs x n (omega (arith, same)) in
        let b = subst (λ y. kept w (xs ++ x ∷ []) y ≡ w x) same (kept_this w xs x) in
        let c : kept w xs n ≡ 0 = subst (λ y. kept w xs y ≡ 0) same (ap (λ b. if b then w x else 0) out) in
        omega (arith, a, b, c)
    at false e later =
        let ne : x ≡ n → ⊥ = λ h. let t = (Decides-eqb x n).1 h in cc in
        let a = later (smaller x n lt ne) in
        let b = kept_other w xs x n ne in
        omega (arith, a, b)

module _ (needs : ℕ → List ℕ) (count : ℕ) where
  -- the first nodes of the order
  pub record IsGood (listed : List ℕ) : Type 0 where
    pub ready : ReadyFrom needs count [] listed
    pub below : AllBelow count listed
    pub sums : (w : ℕ → ℕ) → sum_of w listed ≡ total (kept w listed) count

  total_none : (w : ℕ → ℕ) (n : ℕ) → 0 ≡ total (kept w []) n
  total_none w zero = refl
  total_none w (suc n) = let h = total_none w n in omega (arith, h)

  good_and : (listed : List ℕ) → IsGood listed → (o : Option ℕ) → find (is_ready needs listed) (numbers_below count) ≡ o → IsGood (and_node listed o)
  good_and listed good None e = good
  good_and listed good (Some k) e =
      let passes = found_passes (is_ready needs listed) (numbers_below count) k e in
      let lt = found_is_below (is_ready needs listed) count (numbers_below count) k (numbers_are_below count) e in
      let out = not_true (is_listed listed k) (and_left (not (is_listed listed k)) (list_all (is_listed listed) (needs k)) passes) in
      let met = and_right (not (is_listed listed k)) (list_all (is_listed listed) (needs k)) passes in
      record {
        ready = ready_and_one needs count [] listed k good.ready lt out met;
        below = below_and_one count listed k good.below lt;
        sums = λ w. sum_and_one w listed k ∙ (ap (λ s. s + w k) (good.sums w) ∙ sym (total_and_one w listed k count out lt));
      }

  all_good : (n : ℕ) → IsGood (first_listed needs count n)
  all_good zero = record { ready = tt; below = tt; sums = λ w. total_none w count }
  all_good (suc n) = good_and (first_listed needs count n) (all_good n) (find (is_ready needs (first_listed needs count n)) (numbers_below count)) refl

-- where each of n weights is at most one and their sum is n, each is one
total_is_low : (w : ℕ → ℕ) → ((k : ℕ) → w k ≤ 1) → (n : ℕ) → total w n ≤ n
total_is_low w h zero = omega arith
total_is_low w h (suc n) = let a = total_is_low w h n in let b = h n in omega (arith, a, b)

all_are_one : (w : ℕ → ℕ) → ((k : ℕ) → w k ≤ 1) → (n : ℕ) → total w n ≡ n → (k : ℕ) → k < n → w k ≡ 1
all_are_one w h zero e k lt = absurd (omega (arith, lt))
all_are_one w h (suc n) e k lt = at (k == n) refl (λ whole lt. all_are_one w h n whole k lt)
  where
    a : total w n ≤ n
    a = total_is_low w h n

    b : w n ≤ 1
    b = h n

    whole : total w n ≡ n
    whole = omega (arith, a, b, e)

    last : w n ≡ 1
    last = omega (arith, a, b, e)

    at : (t : Bool) → (k == n) ≡ t → (total w n ≡ n → k < n → w k ≡ 1) → w k ≡ 1
    at true s later = ap w ((Decides-eqb k n).0 s) ∙ last
    at false s later = later whole (smaller k n lt (λ q. let t = (Decides-eqb k n).1 q in cc))

sum_of_ones : (ks : List ℕ) → sum_of (λ _. 1) ks ≡ length ks
sum_of_ones [] = refl
sum_of_ones (k ∷ ks) = let h = sum_of_ones ks in omega (arith, h)

kept_is_low : (listed : List ℕ) (k : ℕ) → kept (λ _. 1) listed k ≤ 1
kept_is_low listed k = at (is_listed listed k)
  where
    at : (b : Bool) → (if b then 1 else 0) ≤ 1
    at true = omega arith
    at false = omega arith

kept_is_listed : (b : Bool) → ◌≡◌ {A = ℕ} (if b then 1 else 0) 1 → b ≡ true
kept_is_listed true h = refl
kept_is_listed false h = absurd (omega (arith, h))

total_same : (v w : ℕ → ℕ) (n : ℕ) → ((k : ℕ) → k < n → v k ≡ w k) → total v n ≡ total w n
total_same v w zero h = refl
total_same v w (suc n) h =
    let a = total_same v w n (λ k lt. h k (omega (arith, lt))) in
    let b = h n (omega arith) in
    λ j. a j + b j

module _ (needs : ℕ → List ℕ) (count : ℕ) where
  pub order_is_ready : ReadyFrom needs count [] (order needs count)
  order_is_ready = (all_good needs count count).ready

  pub order_is_below : AllBelow count (order needs count)
  order_is_below = (all_good needs count count).below

  module _ (acyclic : IsAcyclic needs count) where
    good : IsGood needs count (order needs count)
    good = all_good needs count count

    -- every node is listed
    pub all_listed : (k : ℕ) → k < count → is_listed (order needs count) k ≡ true
    all_listed k lt =
        kept_is_listed (is_listed (order needs count) k)
        (all_are_one (kept (λ _. 1) (order needs count)) (kept_is_low (order needs count)) count (sym (good.sums (λ _. 1)) ∙ (sum_of_ones (order needs count) ∙ acyclic)) k lt)

    -- and once
    pub sum_of_order : (w : ℕ → ℕ) → sum_of w (order needs count) ≡ total w count
    sum_of_order w = good.sums w ∙ total_same (kept w (order needs count)) w count (λ k lt. ap (λ b. if b then w k else 0) (all_listed k lt))
