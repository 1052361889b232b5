-- What is known of a value that a line tells: its text has the form of its token, and it is found again.
use Rattle.std.proofs.Common.{◌≡◌, ℕ, zero, suc, ◌+◌, ℤ, ◌≤ℤ◌, Bool, true, int_le, List, [], ◌∷◌, length, get_or, map, map-id, slice_get, Option, Some, None, option_map, option_and_then, refl, sym, ap, subst, ◌∙◌, arith}
use Rattle.std.specs.Prelude.{IsSome}
use Rattle.std.specs.List.{All, list_all, position_from}
use Rattle.std.proofs.lemmas.Bool.{ltb-true}
use Rattle.std.proofs.lemmas.Grind.{common_steps}
use Rattle.std.proofs.lemmas.Option.{get_or_from_slice_get, slice_get-get_or, slice_get_within}
use Rattle.sy_base.specs.declared.time.TimeUnit.{TimeUnit}
use Rattle.sy_base.specs.Dates.{WrittenDate, date_text, written_date}
use Rattle.sy_base.specs.Points.{IsDated, least_point, greatest_point}
use Rattle.sy_core.specs.declared.deed.Choices.{Choices}
use Rattle.sy_core.specs.declared.deed.Deed.{Deed}
use Rattle.sy_core.specs.declared.value.Value.TheVariants as V
use Rattle.sy_core.specs.Soundness.{HasNamesApart, are_distinct}
use Rattle.sy_core.specs.Values.{is_constant_of, is_dated}
use Rattle.sy_literal.specs.Values.{point_in}
use Rattle.sy_log.specs.EntryText.{constant_name, name_or_nothing}
use Rattle.sy_log.specs.Naming.{HasWords, IsName}
use Rattle.sy_log.specs.Values as values
use Rattle.sy_log.specs.Values.{constant_named, same}
use Rattle.sy_log.proofs.Booleans.{left, right}
use Rattle.sy_log.proofs.Finding.{found_from, same_is, same_itself}
use Rattle.sy_log.proofs.PointDates.{point_read}

-- ---- elements of lists

-- what holds of each element of a list holds of one that is there
pub one_of_all : {A : Type 0} (P : A → Type 0) (xs : List A) (i : ℕ) (x : A) → All P xs → slice_get xs i ≡ Some x → P x
one_of_all P xs i x all there =
    subst P (get_or_from_slice_get xs i x x there) (all i x (slice_get_within xs i x there))

same_one : {A : Type 0} (y x : A) → Some y ≡ Some x → y ≡ x
same_one y x e = cc

pub passes_there : {A : Type 0} (test : A → Bool) (xs : List A) (i : ℕ) (x : A) → list_all test xs ≡ true → slice_get xs i ≡ Some x
    → test x ≡ true
passes_there test [] i x all there = absurd cc
passes_there test (y ∷ xs) zero x all there =
    subst (λ z. test z ≡ true) (same_one y x there) (left (test y) (list_all test xs) all)
passes_there test (y ∷ xs) (suc i) x all there = passes_there test xs i x (right (test y) (list_all test xs) all) there

-- ---- dates

at_least : (a b : ℤ) → int_le a b ≡ true → a ≤ℤ b
at_least a b h = grind (arith, common_steps)

pub dated_from_test : (unit : TimeUnit) (point : ℤ) → is_dated unit point ≡ true → IsDated unit point
dated_from_test unit point h = record {
  not_before = at_least (least_point unit) point (left (int_le (least_point unit) point) (int_le point (greatest_point unit)) h);
  not_after = at_least point (greatest_point unit) (right (int_le (least_point unit) point) (int_le point (greatest_point unit)) h);
}

date_written : (unit : TimeUnit) (date : Option WrittenDate) (point : ℤ) → option_and_then (point_in unit) date ≡ Some point
    → IsSome date
date_written unit None point e = absurd cc
date_written unit (Some date) point e = refl

-- the text of a point's date has the form of a date
pub date_form : (unit : TimeUnit) (point : ℤ) → IsDated unit point → IsSome (written_date (date_text unit point))
date_form unit point dated = date_written unit (written_date (date_text unit point)) point (point_read unit point dated)

-- ---- constants

-- the enumeration is there, and the name is that of its constant
record HasConstant (deed : Deed) (of constant : ℕ) : Type 0 where
  choices : Choices
  name : List ℕ
  enumeration : slice_get deed.choices of ≡ Some choices
  at : slice_get choices.names constant ≡ Some name

some_constant : (deed : Deed) (of constant : ℕ) (there : Option Choices) → slice_get deed.choices of ≡ there
    → is_constant_of constant there ≡ true → HasConstant deed of constant
some_constant deed of constant None there h = absurd cc
some_constant deed of constant (Some choices) there h = record {
  choices = choices;
  name = get_or choices.names constant [];
  enumeration = there;
  at = slice_get-get_or choices.names constant [] (ltb-true constant (length choices.names) h);
}

module _ (deed : Deed) (words : HasWords deed) (apart : HasNamesApart deed) (of constant : ℕ)
    (is : is_constant_of constant (slice_get deed.choices of) ≡ true) where
  there : HasConstant deed of constant
  there = some_constant deed of constant (slice_get deed.choices of) refl is

  its_name : constant_name (slice_get deed.choices of) constant ≡ there.name
  its_name = ap (λ o. constant_name o constant) there.enumeration ∙ ap name_or_nothing there.at

  -- the name of a constant is one of the language
  pub constant_form : IsName (constant_name (slice_get deed.choices of) constant)
  constant_form =
      let all = one_of_all (λ choices. All IsName choices.names) deed.choices of there.choices words.constants there.enumeration in
      subst IsName (sym its_name) (one_of_all IsName there.choices.names constant there.name all there.at)

  -- no two constants of its enumeration have the same name
  distinct : are_distinct (map (λ name. name) there.choices.names) ≡ true
  distinct =
      subst (λ names. are_distinct names ≡ true) (sym (map-id there.choices.names))
      (passes_there (λ choices. are_distinct choices.names) deed.choices of there.choices apart.constants there.enumeration)

  -- by its name the constant is found
  pub constant_found : (name : List ℕ) → name ≡ constant_name (slice_get deed.choices of) constant
      → values.constant deed of name ≡ Some (V.Choice of constant)
  constant_found name own =
      let found : position_from (same there.name) 0 there.choices.names ≡ Some (0 + constant) =
      found_from (λ n. n) (same there.name) there.name (same_itself there.name) (λ n h. sym (same_is there.name n h)) 0
      there.choices.names constant distinct there.at in
      let place : 0 + constant ≡ constant = omega arith in
      ap (λ n. values.constant deed of n) (own ∙ its_name)
      ∙ ap (λ o. option_map (λ i. V.Choice of i) (option_and_then (constant_named there.name) o)) there.enumeration
      ∙ ap (option_map (λ i. V.Choice of i)) (found ∙ ap (λ (n : ℕ). Some n) place)
