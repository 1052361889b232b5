-- Facts on the reserved words and their texts. Where a function has an equation for the first word and one for any word,
-- the second is checked at each of the other words.
use Rattle.std.proofs.Common.{◌≡◌, ◌↔◌, ℕ, zero, suc, ◌<◌, ◌&&◌, Bool, true, false, not, nat_lt, nat_le, nat_eq, List, [], ◌∷◌, length, get_or, slice_index, Some, None, Option, IfSome, Ordering, Less, Equal, Greater, refl, sym, ◌∙◌, arith, add-one, inl, inr}
use Rattle.std.proofs.lemmas.Bool.{cases_lt, and_parts, not-true, cond_both, ltb-true, leb-true}
use Rattle.std.proofs.lemmas.Cmp.{nat_list_cmp_total, tied_itself}
use Rattle.std.proofs.lemmas.List.Elements.{All-get_or}
use Rattle.std.proofs.lemmas.List.Folds.{find_at}
use Rattle.std.proofs.lemmas.List.Sorted.{searchable_from_sorted}
use Rattle.std.proofs.lemmas.List.Sums.{AllPass-from_list_all}
use Rattle.std.proofs.lemmas.Map.Lookups.{exact_bytes}
use Rattle.std.proofs.lemmas.Option.{MatchOption-at_some, slice_get_cases}
use Rattle.std.specs.List.{find, list_all, position_or_len, slice_get}
use Rattle.std.specs.List.Sorted.{IsSortedBy, IsNonDecreasingBy, IsPartitionPoint}
use Rattle.std.specs.Ordering.{is_lt, nat_cmp, ordering_index}
use Rattle.std.specs.Cmp.Lexicographic.{pointwise, bytes_decides, slice_cmp}
use Rattle.sy_base.specs.declared.time.Measure.{Measure}
use Rattle.sy_base.specs.declared.time.Measure.TheVariants as M
use Rattle.sy_base.specs.Measures.{singular_word, plural_word}
use Rattle.sy_lex.specs.declared.keyword.Keyword.{Keyword}
use Rattle.sy_lex.specs.declared.keyword.Keyword.TheVariants as K
use Rattle.sy_lex.specs.declared.keyword.TheConstants.{KEYWORDS}
use Rattle.sy_lex.specs.Bytes.{is_letter, is_word_byte}
use Rattle.sy_lex.specs.Forms.{IsWord}
use Rattle.sy_lex.specs.Keywords.{keyword_text, keyword_of, singular_keyword, plural_keyword}

-- ---- each word is found by its text, and nothing else is

found_by_its_text : (keyword : Keyword) → keyword_of (keyword_text keyword) ≡ Some keyword
unfolding keyword_of
found_by_its_text K.Domain = refl
found_by_its_text keyword = refl

pub keyword_found : (text : List ℕ) (keyword : Keyword) → keyword_text keyword ≡ text → keyword_of text ≡ Some keyword
keyword_found text keyword is_text = rw (← is_text) (found_by_its_text keyword)

finds : (test : Keyword → Bool) (table : List Keyword) → IfSome (find test table) (λ keyword. test keyword ≡ true)
finds test [] = tt
finds test (first ∷ table) =
    cond_both (test first) (Some first) (find test table) (λ found. IfSome found (λ keyword. test keyword ≡ true))
    (λ passed. passed) (λ _. finds test table)

pub keyword_is : (text : List ℕ) (keyword : Keyword) → keyword_of text ≡ Some keyword → keyword_text keyword ≡ text
unfolding keyword_of
keyword_is text keyword found =
    let test = λ (k : Keyword). pointwise nat_eq (keyword_text k) text in
    (bytes_decides (keyword_text keyword) text).0
    (MatchOption-at_some (Unit {0}) (λ k. test k ≡ true) keyword found (finds test KEYWORDS))

pub keyword_none : (text : List ℕ) → keyword_of text ≡ None → (keyword : Keyword) → keyword_text keyword ≡ text → ⊥
keyword_none text none keyword is_text = let found = keyword_found text keyword is_text in absurd cc

-- what `keyword_of` answers is the word with this text
pub is_answer : (text : List ℕ) (answer : Option Keyword) → keyword_of text ≡ answer
    → (keyword : Keyword) → (answer ≡ Some keyword) ↔ (keyword_text keyword ≡ text)
is_answer text answer is keyword =
    (λ some. keyword_is text keyword (is ∙ some), λ is_text. sym is ∙ keyword_found text keyword is_text)

-- ---- the two words of a measure are written as the measure says

pub singular_keyword-text : (measure : Measure) → keyword_text (singular_keyword measure) ≡ singular_word measure
singular_keyword-text M.Minutes = refl
singular_keyword-text measure = refl

pub plural_keyword-text : (measure : Measure) → keyword_text (plural_keyword measure) ≡ plural_word measure
plural_keyword-text M.Minutes = refl
plural_keyword-text measure = refl

-- ---- each text has the form of a word

abbrev is_word : List ℕ → Bool
is_word text =
    nat_lt 0 (length text) && nat_le (length text) 64 && is_letter (slice_index text 0) && list_all is_word_byte text

IsWord-from_test : (text : List ℕ) → is_word text ≡ true → IsWord text
IsWord-from_test text word =
    let each = and_parts _ _ word in
    let letter = and_parts _ _ each.0 in
    let size = and_parts _ _ letter.0 in
    record {
      some = ltb-true 0 (length text) size.0;
      most = leb-true (length text) 64 size.1;
      letter = letter.1;
      each = λ k within.
          All-get_or (λ b. is_word_byte b ≡ true) text k 0 within (AllPass-from_list_all is_word_byte text each.1);
    }

pub keyword_is_word : (keyword : Keyword) → IsWord (keyword_text keyword)
keyword_is_word K.Domain = IsWord-from_test _ refl
keyword_is_word keyword = IsWord-from_test _ refl

-- ---- the table is in order, so that it can be searched

abbrev comes_before : Keyword → Keyword → Bool
comes_before a b = is_lt (slice_cmp nat_cmp (keyword_text a) (keyword_text b))

abbrev is_ordered : List Keyword → Bool
is_ordered [] = true
is_ordered (a ∷ []) = true
is_ordered (a ∷ b ∷ words) = not (comes_before b a) && is_ordered (b ∷ words)

next_is_no_earlier : (words : List Keyword) → is_ordered words ≡ true
    → (k : ℕ) (d : Keyword) → suc k < length words → comes_before (get_or words (suc k) d) (get_or words k d) ≡ false
next_is_no_earlier [] ordered k d within = absurd (omega arith)
next_is_no_earlier (a ∷ []) ordered k d within = absurd (omega arith)
next_is_no_earlier (a ∷ b ∷ words) ordered zero d within = not-true _ (and_parts _ _ ordered).0
next_is_no_earlier (a ∷ b ∷ words) ordered (suc k) d within =
    next_is_no_earlier (b ∷ words) (and_parts _ _ ordered).1 k d (omega arith)

in_order : IsSortedBy comes_before KEYWORDS
in_order k d low high = rw add-one (next_is_no_earlier KEYWORDS refl k d (omega arith))

-- how a word of the table compares with these bytes
abbrev pub against : List ℕ → Keyword → Ordering
against bytes keyword = slice_cmp nat_cmp (keyword_text keyword) bytes

pub searchable : (bytes : List ℕ) → IsNonDecreasingBy (λ keyword. ordering_index (against bytes keyword)) KEYWORDS
searchable bytes = searchable_from_sorted nat_list_cmp_total keyword_text KEYWORDS bytes in_order

pub searched : (bytes : List ℕ) (at : ℕ) (d : Keyword) → against bytes (get_or KEYWORDS at d) ≡ Equal
    → keyword_of bytes ≡ Some (get_or KEYWORDS at d)
searched bytes at d same = keyword_found bytes (get_or KEYWORDS at d) (exact_bytes _ bytes same)

is_none : (found : Option Keyword) → ((keyword : Keyword) → found ≡ Some keyword → ⊥) → found ≡ None
is_none None never = refl
is_none (Some keyword) never = absurd (never keyword refl)

-- what is found stands in the list, but where the parts are apart nothing there is `Equal`
none_is_equal : {X : Type 0} (order : X → Ordering) (test : X → Bool) (xs : List X) (at : ℕ)
    → IsPartitionPoint (λ x. order x ≡ Less) (λ x. order x ≡ Greater) xs at
    → (x : X) → find test xs ≡ Some x → order x ≡ Equal → ⊥
none_is_equal order test xs at parts x found equal =
    let k = position_or_len test xs in
    let here : slice_get xs k ≡ Some x = sym (find_at test xs) ∙ found in
    elim ((slice_get_cases xs k).1) as (λ c. ⊥) [
      | inl place ↦
          let is : get_or xs k place.0 ≡ x = let same : Some place.0 ≡ Some x = sym place.2 ∙ here in cc in
          elim (cases_lt k at) as (λ c. ⊥) [
            | inl below ↦ let less = parts.0 k place.0 (omega arith) below in absurd cc
            | inr above ↦ let greater = parts.1 k place.0 above place.1 in absurd cc
          ]
      | inr past ↦ let none = past.1 in absurd cc
    ]

pub searched_in_vain : (bytes : List ℕ) (at : ℕ)
    → IsPartitionPoint (λ keyword. against bytes keyword ≡ Less) (λ keyword. against bytes keyword ≡ Greater) KEYWORDS at
    → keyword_of bytes ≡ None
unfolding keyword_of
searched_in_vain bytes at parts =
    is_none (keyword_of bytes) (λ keyword found.
    none_is_equal (against bytes) (λ k. pointwise nat_eq (keyword_text k) bytes) KEYWORDS at parts keyword found
    (rw (keyword_is bytes keyword found) (tied_itself nat_list_cmp_total bytes)))
