-- The index of some things by their names, with one more thing in front of those that it has.
use Rattle.std.proofs.Common.{◌≡◌, ℕ, ◌+◌, ◌<◌, Bool, true, false, ◌||◌, cond, List, [], ◌∷◌, length, drop, get_or, slice_get, Option, Some, None, option_and_then, is_some, refl, sym, ap, ◌∙◌}
use Rattle.std.specs.List.{find, list_any}
use Rattle.std.specs.Map.{lookup}
use Rattle.std.proofs.lemmas.List.{drop_more}
use Rattle.std.proofs.lemmas.Option.{slice_get_read}
use Rattle.std.proofs.lemmas.Cmp.{nat_list_eq_equiv}
use Rattle.sy_lex.specs.declared.written.Written.{Written}
use Rattle.sy_domain.specs.Names.{same}
use Rattle.sy_given.specs.Machine.Places.{is_named}

-- where a look-up leads that finds the new thing, or else what is found among the others
leads : {A : Type 0} (things : List A) (b : Bool) (j : ℕ) (x : A) (o : Option ℕ) (found : Option A)
    → slice_get things j ≡ Some x → option_and_then (slice_get things) o ≡ found
    → option_and_then (slice_get things) (cond b (Some j) o) ≡ cond b (Some x) found
leads things true j x o found at others = at
leads things false j x o found at others = others

pub index_turn : {A : Type 0} (own : A → Written) (things : List A) (j : ℕ) (x : A) (name : List ℕ)
    (old new : List (List ℕ × ℕ)) → j < length things → x ≡ get_or things j x
    → lookup (same name) new ≡ cond (same (own x).text name) (Some j) (lookup (same name) old)
    → option_and_then (slice_get things) (lookup (same name) old) ≡ find (is_named own name) (drop (j + 1) things)
    → option_and_then (slice_get things) (lookup (same name) new) ≡ find (is_named own name) (drop j things)
index_turn own things j x name old new within is put others =
    let left = find (is_named own name) (drop (j + 1) things) in
    ap (option_and_then (slice_get things)) put
    ∙ leads things (same (own x).text name) j x (lookup (same name) old) left
    (slice_get_read things (length things) j x refl within is) others
    ∙ ap (λ b. cond b (Some x) left) (nat_list_eq_equiv.symm (own x).text name)
    ∙ ap (λ a. cond (is_named own name a) (Some a) left) is
    ∙ sym (ap (find (is_named own name)) (drop_more things j x within))

or_else : {A : Type 0} (b : Bool) (x : A) (found : Option A) (other : Bool) → is_some found ≡ other
    → is_some (cond b (Some x) found) ≡ (b || other)
or_else true x found other is = refl
or_else false x found other is = is

-- one of the things is found where one passes
pub found_any : {A : Type 0} (p : A → Bool) (xs : List A) → is_some (find p xs) ≡ list_any p xs
found_any p [] = refl
found_any p (x ∷ xs) = or_else (p x) x (find p xs) (list_any p xs) (found_any p xs)
