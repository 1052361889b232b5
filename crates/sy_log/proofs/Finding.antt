-- A thing is found by its name where no two things have the same.
use Rattle.std.proofs.Common.{◌≡◌, ℕ, zero, suc, ◌+◌, Bool, true, not, nat_eq, List, [], ◌∷◌, map, slice_get, Some, refl, sym, ap, ◌∙◌, arith, inl, inr}
use Rattle.std.specs.List.{list_any, position_from}
use Rattle.std.specs.Cmp.Lexicographic.{pointwise, bytes_decides}
use Rattle.std.proofs.lemmas.Bool.{cases_Bool}
use Rattle.sy_core.specs.Soundness.{are_distinct}
use Rattle.sy_log.specs.Values.{same}
use Rattle.sy_log.proofs.Booleans.{either, left, right, untrue}

pub same_itself : (name : List ℕ) → same name name ≡ true
same_itself name = (bytes_decides name name).1 refl

pub same_is : (name other : List ℕ) → same name other ≡ true → name ≡ other
same_is name other h = (bytes_decides name other).0 h

same_thing : {A : Type 0} (x y : A) → Some x ≡ Some y → x ≡ y
same_thing x y h = cc

-- one of the names is the name of the thing at a place
named_there : {A : Type 0} (name_of : A → List ℕ) (name : List ℕ) (xs : List A) (i : ℕ) (x : A) → slice_get xs i ≡ Some x
    → name ≡ name_of x → list_any (pointwise nat_eq name) (map name_of xs) ≡ true
named_there name_of name [] i x there is = absurd cc
named_there name_of name (y ∷ xs) zero x there is =
    let here : name ≡ name_of y = is ∙ ap name_of (sym (same_thing y x there)) in
    let first : pointwise nat_eq name (name_of y) ≡ true = (bytes_decides name (name_of y)).1 here in
    rw first refl
named_there name_of name (y ∷ xs) (suc i) x there is =
    either (pointwise nat_eq name (name_of y)) (list_any (pointwise nat_eq name) (map name_of xs)) (named_there name_of name xs i x there is)

module _ {A : Type 0} (name_of : A → List ℕ) (test : A → Bool) (x : A) (passes : test x ≡ true)
    (named : (y : A) → test y ≡ true → name_of y ≡ name_of x) where
  pub found_from : (k : ℕ) (xs : List A) (i : ℕ) → are_distinct (map name_of xs) ≡ true → slice_get xs i ≡ Some x
      → position_from test k xs ≡ Some (k + i)
  found_from k [] i apart there = absurd cc
  found_from k (y ∷ xs) zero apart there =
      let here : test y ≡ true = ap test (same_thing y x there) ∙ passes in
      let place : k ≡ k + zero = omega arith in
      rw here (ap (λ (n : ℕ). Some n) place)
  found_from k (y ∷ xs) (suc i) apart there =
      let own = left (not (list_any (pointwise nat_eq (name_of y)) (map name_of xs))) (are_distinct (map name_of xs)) apart in
      let others = right (not (list_any (pointwise nat_eq (name_of y)) (map name_of xs))) (are_distinct (map name_of xs)) apart in
      let place : k + 1 + i ≡ k + suc i = omega arith in
      elim (cases_Bool (test y)) [
        | inl early ↦
            let again = named_there name_of (name_of y) xs i x there (named y early) in
            absurd (cc (untrue (list_any (pointwise nat_eq (name_of y)) (map name_of xs)) own))
        | inr not_yet ↦ rw not_yet (found_from (k + 1) xs i others there ∙ ap (λ (n : ℕ). Some n) place)
      ]
