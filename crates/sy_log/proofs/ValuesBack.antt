-- What a value's text stands for is the value.
use Rattle.std.proofs.Common.{◌≡◌, ℕ, suc, ◌+◌, ◌-◌, ◌*◌, ◌/◌, ◌%◌, ◌^◌, ◌<◌, ◌≤◌, pos, negsuc, Bool, true, false, not, nat_le, if◌then◌else◌, List, [], ◌∷◌, ◌++◌, length, take, decimal, Some, None, refl, ap, ◌∙◌, arith, inl, inr, length-append}
use Rattle.std.specs.List.{flat_map, list_all}
use Rattle.std.proofs.Math.Seq.{take-append_seam}
use Rattle.std.proofs.lemmas.Bool.{cases_Bool, le-leb, leb-true}
use Rattle.std.proofs.lemmas.Bool.Decides.{nat_tests}
use Rattle.std.proofs.lemmas.Fmt.{decimal_by_steps, length-decimal-le, decimal_nonempty}
use Rattle.std.proofs.lemmas.Grind.{common_steps}
use Rattle.std.proofs.lemmas.List.Elements.{All-get_or}
use Rattle.std.proofs.lemmas.List.Sums.{AllPass-from_list_all, fold-append}
use Rattle.sy_lex.specs.Bytes.{is_digit, is_newline, is_escaped}
use Rattle.sy_lex.specs.Forms as f
use Rattle.sy_lex.specs.Forms.{HasContent, IsNumber, IsString}
use Rattle.sy_core.specs.Values.{is_in_range}
use Rattle.sy_literal.specs.Values.{between_ends, number_in_range, number_value, text_content, unescaped, with_digit}
use Rattle.sy_log.specs.EntryText.{escaped, quoted}
use Rattle.sy_log.specs.Happenings.{is_content}
use Rattle.sy_log.proofs.Booleans.{both, left, right, untrue}

-- ---- numbers

value_pushed : (m : ℕ) (digits : List ℕ) → number_value digits ≡ m / 10
    → number_value (digits ++ (48 + m % 10) ∷ []) ≡ m
value_pushed m digits front =
    let last : 10 * (m / 10) + (48 + m % 10 - 48) ≡ m = omega arith in
    fold-append with_digit 0 digits ((48 + m % 10) ∷ []) ∙ ap (λ (a : ℕ). with_digit a (48 + m % 10)) front ∙ last

decimal_value : (n : ℕ) → n < 2 ^ 64 → number_value (decimal n) ≡ n
decimal_value =
    decimal_by_steps (λ m digits. number_value digits ≡ m) (λ m small. omega arith)
    (λ m digits great front. value_pushed m digits front)

all_pushed : (test : ℕ → Bool) (bytes : List ℕ) (b : ℕ) → list_all test bytes ≡ true → test b ≡ true
    → list_all test (bytes ++ b ∷ []) ≡ true
all_pushed test [] b all last = both (test b) true last refl
all_pushed test (a ∷ bytes) b all last =
    both (test a) (list_all test (bytes ++ b ∷ [])) (left (test a) (list_all test bytes) all)
    (all_pushed test bytes b (right (test a) (list_all test bytes) all) last)

is_digit_of : (k : ℕ) → k < 10 → is_digit (48 + k) ≡ true
is_digit_of k small = grind (arith, nat_tests)

decimal_digits : (n : ℕ) → n < 2 ^ 64 → list_all is_digit (decimal n) ≡ true
decimal_digits =
    decimal_by_steps (λ m digits. list_all is_digit digits ≡ true)
    (λ m small. both (is_digit (48 + m)) true (is_digit_of m small) refl)
    (λ m digits great front. all_pushed is_digit digits (48 + m % 10) front (is_digit_of (m % 10) (omega arith)))

-- digits of a number up to 10^15 are those of a token
pub decimal_number : (n : ℕ) → n ≤ 10 ^ 15 → IsNumber (decimal n)
decimal_number n small =
    let each = AllPass-from_list_all is_digit (decimal n) (decimal_digits n (omega arith)) in
    let short = length-decimal-le 16 n (omega arith) (omega arith) (omega arith) in
    record {
      some = decimal_nonempty n (omega arith);
      most = omega (arith, short);
      each = λ k within. All-get_or (λ b. is_digit b ≡ true) (decimal n) k 0 within each;
    }

pub decimal_read : (n : ℕ) → n ≤ 10 ^ 15 → number_in_range (decimal n) ≡ Some n
decimal_read n small =
    let value = decimal_value n (omega arith) in
    let fits : nat_le n (10 ^ 15) ≡ true = grind (arith, nat_tests) in
    ap (λ (m : ℕ). if nat_le m (10 ^ 15) then Some m else None) value
    ∙ ap (λ (b : Bool). if b then Some n else None) fits

pub small_pos : (n : ℕ) → is_in_range (pos n) ≡ true → n ≤ 10 ^ 15
small_pos n h = grind (arith, common_steps)

pub small_negative : (n : ℕ) → is_in_range (negsuc n) ≡ true → suc n ≤ 10 ^ 15
small_negative n h = grind (arith, common_steps)

-- ---- texts between quotes

escaped_content : (bytes : List ℕ) → list_all (λ b. not (is_newline b)) bytes ≡ true → HasContent (flat_map escaped bytes) bytes
escaped_content [] clear = f.empty
escaped_content (b ∷ bytes) clear =
    let more = escaped_content bytes (right (not (is_newline b)) (list_all (λ b. not (is_newline b)) bytes) clear) in
    let newline = untrue (is_newline b) (left (not (is_newline b)) (list_all (λ b. not (is_newline b)) bytes) clear) in
    elim (cases_Bool (is_escaped b)) [
      | inl e ↦ rw e (f.escape b (flat_map escaped bytes) bytes e more)
      | inr e ↦ rw e (f.byte b (flat_map escaped bytes) bytes newline e more)
    ]

pub quoted_string : (bytes : List ℕ) → is_content bytes ≡ true → IsString (quoted bytes)
quoted_string bytes content = record {
  inside = flat_map escaped bytes;
  content = bytes;
  quoted = refl;
  holds = escaped_content bytes (right (nat_le (length bytes) 256) (list_all (λ b. not (is_newline b)) bytes) content);
  most = leb-true (length bytes) 256 (left (nat_le (length bytes) 256) (list_all (λ b. not (is_newline b)) bytes) content);
}

-- a byte that is no `\` stands for itself
plain : (b : ℕ) (bytes : List ℕ) → is_escaped b ≡ false → unescaped (b ∷ bytes) ≡ b ∷ unescaped bytes
plain b [] other = refl
plain b (c ∷ bytes) other = grind (arith, nat_tests)

unescaped_content : (inside content : List ℕ) → HasContent inside content → unescaped inside ≡ content
unescaped_content inside content f.empty = refl
unescaped_content inside content (f.escape b bytes others escaped more) =
    ap (λ (rest : List ℕ). b ∷ rest) (unescaped_content bytes others more)
unescaped_content inside content (f.byte b bytes others newline escaped more) =
    plain b bytes escaped ∙ ap (λ (rest : List ℕ). b ∷ rest) (unescaped_content bytes others more)

between_quotes : (inside : List ℕ) → between_ends (34 ∷ inside ++ 34 ∷ []) ≡ inside
between_quotes inside =
    ap (λ (n : ℕ). take n (inside ++ 34 ∷ [])) (omega (arith, length-append inside (34 ∷ []))) ∙ take-append_seam inside (34 ∷ [])

content_of_string : (text : List ℕ) (string : IsString text) → text_content text ≡ string.content
content_of_string text string =
    ap text_content string.quoted ∙ ap unescaped (between_quotes string.inside)
    ∙ unescaped_content string.inside string.content string.holds

pub quoted_read : (bytes : List ℕ) → is_content bytes ≡ true → text_content (quoted bytes) ≡ bytes
unfolding quoted_string
quoted_read bytes content = content_of_string (quoted bytes) (quoted_string bytes content)

escape_clear : (b : ℕ) → is_escaped b ≡ true → not (is_newline b) ≡ true
escape_clear b h = grind (arith, nat_tests)

content_clear : (inside content : List ℕ) → HasContent inside content → list_all (λ b. not (is_newline b)) content ≡ true
content_clear inside content f.empty = refl
content_clear inside content (f.escape b bytes others escaped more) =
    both (not (is_newline b)) (list_all (λ b. not (is_newline b)) others) (escape_clear b escaped) (content_clear bytes others more)
content_clear inside content (f.byte b bytes others newline escaped more) =
    both (not (is_newline b)) (list_all (λ b. not (is_newline b)) others) (ap not newline) (content_clear bytes others more)

-- the content of a text between quotes can stand between quotes
pub string_content : (text : List ℕ) → IsString text → is_content (text_content text) ≡ true
string_content text string =
    ap is_content (content_of_string text string)
    ∙ both (nat_le (length string.content) 256) (list_all (λ b. not (is_newline b)) string.content)
    (le-leb (length string.content) 256 string.most) (content_clear string.inside string.content string.holds)
