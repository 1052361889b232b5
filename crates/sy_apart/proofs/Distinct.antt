-- Of names of which no two are the same, no two of a part are.
use Rattle.std.proofs.Common.{◌≡◌, ℕ, Bool, true, false, not, cond, ◌&&◌, ◌||◌, List, [], ◌∷◌, ◌++◌, map, refl, sym, ap, ◌∙◌}
use Rattle.std.specs.Cmp.Lexicographic.{bytes_decides}
use Rattle.std.specs.List.{filter, list_any}
use Rattle.std.proofs.lemmas.Cmp.{nat_list_eq_equiv}
use Rattle.std.proofs.lemmas.List.Folds.{list_any-append}
use Rattle.sy_core.specs.Soundness.{are_distinct}
use Rattle.sy_core.proofs.Listing.{and_left, and_right}
use Rattle.sy_domain.specs.Names.{same}

pub same_itself : (name : List ℕ) → same name name ≡ true
same_itself name = (bytes_decides name name).1 refl

pub same_is : (a b : List ℕ) → same a b ≡ true → a ≡ b
same_is a b h = (bytes_decides a b).0 h

pub same_turned : (a b : List ℕ) → same a b ≡ same b a
same_turned a b = nat_list_eq_equiv.symm a b

not_either : (a b : Bool) → not (a || b) ≡ true → not a ≡ true
not_either true b h = h
not_either false b h = refl

pub distinct_left : (xs ys : List (List ℕ)) → are_distinct (xs ++ ys) ≡ true → are_distinct xs ≡ true
distinct_left [] ys h = refl
distinct_left (x ∷ xs) ys h =
    let here = and_left (not (list_any (same x) (xs ++ ys))) (are_distinct (xs ++ ys)) h in
    let later = distinct_left xs ys (and_right (not (list_any (same x) (xs ++ ys))) (are_distinct (xs ++ ys)) h) in
    let apart = not_either (list_any (same x) xs) (list_any (same x) ys) (sym (ap not (list_any-append (same x) xs ys)) ∙ here) in
    λ j. apart j && later j

pub distinct_right : (xs ys : List (List ℕ)) → are_distinct (xs ++ ys) ≡ true → are_distinct ys ≡ true
distinct_right [] ys h = h
distinct_right (x ∷ xs) ys h =
    distinct_right xs ys (and_right (not (list_any (same x) (xs ++ ys))) (are_distinct (xs ++ ys)) h)

-- the names of those that pass a test
neither : (a b : Bool) → (a || b) ≡ false → (a ≡ false) × (b ≡ false)
neither true b h = cc
neither false b h = (refl, h)

none_kept : {X : Type 0} (test : X → Bool) (name : X → List ℕ) (p : List ℕ → Bool) (xs : List X) → list_any p (map name xs) ≡ false → list_any p (map name (filter test xs)) ≡ false
none_kept test name p [] h = refl
none_kept {X} test name p (x ∷ xs) h =
    let split = neither (p (name x)) (list_any p (map name xs)) h in
    at (test x) split.0 (none_kept test name p xs split.1)
  where
    at : (b : Bool) → p (name x) ≡ false → list_any p (map name (filter test xs)) ≡ false → list_any p (map name (cond b (x ∷ filter test xs) (filter test xs))) ≡ false
    at true here rest = λ j. here j || rest j
    at false here rest = rest

not_true : (a : Bool) → not a ≡ true → a ≡ false
not_true true h = cc
not_true false h = refl

pub distinct_kept : {X : Type 0} (test : X → Bool) (name : X → List ℕ) (xs : List X) → are_distinct (map name xs) ≡ true → are_distinct (map name (filter test xs)) ≡ true
distinct_kept test name [] h = refl
distinct_kept {X} test name (x ∷ xs) h =
    let first = and_left (not (list_any (same (name x)) (map name xs))) (are_distinct (map name xs)) h in
    let rest = and_right (not (list_any (same (name x)) (map name xs))) (are_distinct (map name xs)) h in
    at (test x)
    (ap not (none_kept test name (same (name x)) xs (not_true (list_any (same (name x)) (map name xs)) first)))
    (distinct_kept test name xs rest)
  where
    at : (b : Bool) → not (list_any (same (name x)) (map name (filter test xs))) ≡ true → are_distinct (map name (filter test xs)) ≡ true
        → are_distinct (map name (cond b (x ∷ filter test xs) (filter test xs))) ≡ true
    at true first rest = λ j. first j && rest j
    at false first rest = rest
