-- What a step gives is a token that is taken there, a blank or a comment.
use Rattle.std.proofs.Common.{◌≡◌, ℕ, suc, ◌+◌, ◌<◌, ◌≤◌, Bool, true, ◌==◌, nat_le, List, [], ◌∷◌, ◌++◌, length, get_or, take, drop, Option, Some, None, refl, sym, ap, subst, ◌∙◌, append_assoc, length-append, arith, inl, inr}
use Rattle.std.specs.List.{prefix_len}
use Rattle.std.proofs.lemmas.Bool.{cases_Bool, cases_lt, false≢true, leb-true, eqb-true}
use Rattle.std.proofs.lemmas.List.{length-take-le, get_or-take, take_at}
use Rattle.std.proofs.lemmas.List.Sums.{prefix_len_passes, prefix_len_stops, prefix_len-le-length}
use Rattle.std.proofs.lemmas.Option.{none-some, same_Some}
use Rattle.sy_lex.specs.declared.token.Token.{Token}
use Rattle.sy_lex.specs.declared.token.TokenKind.{TokenKind}
use Rattle.sy_lex.specs.declared.token.TokenKind.TheVariants as K
use Rattle.sy_lex.specs.declared.sign.Sign.{Sign}
use Rattle.sy_lex.specs.declared.spot.Spot.{Spot}
use Rattle.sy_lex.specs.declared.keyword.Keyword.{Keyword}
use Rattle.sy_lex.specs.declared.step.Step.{Step}
use Rattle.sy_lex.specs.declared.step.Step.TheVariants as S
use Rattle.sy_lex.specs.Bytes.{is_letter, is_digit, is_word_byte, is_blank, is_comment_byte, is_quote}
use Rattle.sy_lex.specs.Keywords.{keyword_of}
use Rattle.sy_lex.specs.Signs.{sign_at}
use Rattle.sy_lex.specs.Forms.{IsWord, HasForm}
use Rattle.sy_lex.specs.Tokens as g
use Rattle.sy_lex.specs.Tokens.{IsFirst, BeginsDate, Lexes, comment_length, next_spot, spot_after}
use Rattle.sy_lex.specs.Machine.Cutting.{step_at, slash_step, word_step, kind_of_word, number_step, date_or_number, date_length, sign_or_fault}
use Rattle.sy_lex.proofs.Begins as c
use Rattle.sy_lex.proofs.Begins.{Class, class_of, class_step, step_by_class, letter_class, digit_class, letter_form, digit_form, quote_form, other_form}
use Rattle.sy_lex.proofs.Dates.{date_found, date_most}
use Rattle.sy_lex.proofs.Strings.{Quoted, Reads, reads, string_exact}
use Rattle.sy_lex.proofs.Firsts.{text_class, each_digit, date_or_digits}
use Rattle.sy_lex.proofs.Words.{keyword_is, keyword_none}
use Rattle.sy_lex.proofs.SignTexts.{sign_found, sign_longest}

-- what a step says of the bytes: its token is the one that is taken there; and where it passes over bytes, the tokens
-- behind them are those of all the bytes
abbrev pub Stands : List ℕ → Step → Type 0
Stands bytes (S.Token kind n) = IsFirst kind n bytes
Stands bytes (S.Skip n) =
    (0 < n) × (n ≤ length bytes) ×
    ((at : Spot) (tokens : List Token) → Lexes (spot_after at (take n bytes)) (drop n bytes) tokens → Lexes at bytes tokens)
Stands bytes (S.Bad n) = Unit {0}

-- ---- runs

-- all bytes of a front pass, so it is no longer than the run
pub front_in_run : (test : ℕ → Bool) (bytes : List ℕ) (m : ℕ) → m ≤ length bytes
    → ((k : ℕ) → k < length (take m bytes) → test (get_or (take m bytes) k 0) ≡ true) → m ≤ prefix_len test bytes
front_in_run test bytes m within each = elim (cases_lt (prefix_len test bytes) m) [
  | inl lt ↦
      let size = length-take-le m bytes within in
      let passes = ap test (sym (get_or-take m bytes (prefix_len test bytes) 0 lt))
      ∙ each (prefix_len test bytes) (omega arith) in
      absurd (false≢true (sym (prefix_len_stops test bytes 0 (omega arith)) ∙ passes))
  | inr le ↦ le
]

run_passes : (test : ℕ → Bool) (bytes : List ℕ) (k : ℕ) → k < length (take (prefix_len test bytes) bytes)
    → test (get_or (take (prefix_len test bytes) bytes) k 0) ≡ true
run_passes test bytes k within =
    let size = length-take-le (prefix_len test bytes) bytes (prefix_len-le-length test bytes) in
    let lt : k < prefix_len test bytes = omega arith in
    ap test (get_or-take (prefix_len test bytes) bytes k 0 lt) ∙ prefix_len_passes test bytes k 0 lt

run_some : (test : ℕ → Bool) (b : ℕ) (bytes : List ℕ) → test b ≡ true → 0 < prefix_len test (b ∷ bytes)
run_some test b bytes h = rw h (omega arith)

-- ---- words

module _ (bytes : List ℕ) (class : class_of (get_or bytes 0 0) ≡ c.letter) where
  word_first : (kind : TokenKind) → HasForm kind (take (prefix_len is_word_byte bytes) bytes)
      → IsFirst kind (prefix_len is_word_byte bytes) bytes
  word_first kind form = record {
    within = prefix_len-le-length is_word_byte bytes;
    form = form;
    longest = λ other m lt le f.
        let word = letter_form other (take m bytes) (text_class m bytes (omega arith) ∙ class) f in
        omega (arith, front_in_run is_word_byte bytes m le word.each);
    word = λ e. refl;
    number = λ e. let class' = digit_class (get_or bytes 0 0) e in absurd cc;
  }

  word_by : (found : Option Keyword) → IsWord (take (prefix_len is_word_byte bytes) bytes)
      → keyword_of (take (prefix_len is_word_byte bytes) bytes) ≡ found
      → IsFirst (kind_of_word found) (prefix_len is_word_byte bytes) bytes
  word_by None word is = word_first K.Word (word, λ reserved. keyword_none _ is reserved.0 reserved.1)
  word_by (Some keyword) word is = word_first (K.Reserved keyword) (keyword_is _ keyword is)

  word_stands : is_letter (get_or bytes 0 0) ≡ true → 0 < prefix_len is_word_byte bytes
      → Stands bytes (word_step bytes)
  word_stands letter some = elim (cases_Bool (nat_le (prefix_len is_word_byte bytes) 64)) [
    | inl fits ↦ rw fits (
        let n = prefix_len is_word_byte bytes in
        let size : length (take n bytes) ≡ n = length-take-le n bytes (prefix_len-le-length is_word_byte bytes) in
        let most : n ≤ 64 = leb-true n 64 fits in
        word_by (keyword_of (take n bytes)) (record {
          some = omega arith;
          most = omega arith;
          letter = ap is_letter (get_or-take n bytes 0 0 some) ∙ letter;
          each = run_passes is_word_byte bytes;
        }) refl)
    | inr long ↦ rw long tt
  ]

-- ---- numbers and dates

module _ (bytes : List ℕ) (class : class_of (get_or bytes 0 0) ≡ c.digit) where
  date_first : (n : ℕ) → date_length bytes ≡ Some n → IsFirst K.Date n bytes
  date_first n is =
      let found = date_found bytes n is in
      record {
        within = found.0;
        form = found.1;
        longest = λ other m lt le f. elim (digit_form other (take m bytes) (text_class m bytes (omega arith) ∙ class) f) [
          | inl number ↦ date_or_digits bytes n m le found.1 found.0 (omega arith) (each_digit m bytes le number)
          | inr date ↦
              let most = date_most bytes m le date in
              let same = same_Some most.0 n (sym most.1 ∙ is) in
              omega (arith, most.2)
        ];
        word = λ e. let class' = letter_class (get_or bytes 0 0) e in absurd cc;
        number = λ e none. absurd (none (n, found.1));
      }

  number_stands : date_length bytes ≡ None → 0 < prefix_len is_digit bytes → Stands bytes (number_step bytes)
  number_stands is some = elim (cases_Bool (nat_le (prefix_len is_digit bytes) 18)) [
    | inl fits ↦ rw fits (
        let n = prefix_len is_digit bytes in
        let size : length (take n bytes) ≡ n = length-take-le n bytes (prefix_len-le-length is_digit bytes) in
        let most : n ≤ 18 = leb-true n 18 fits in
        record {
          within = prefix_len-le-length is_digit bytes;
          form = record { some = omega arith; most = omega arith; each = run_passes is_digit bytes };
          longest = λ other m lt le f. elim (digit_form other (take m bytes) (text_class m bytes (omega arith) ∙ class) f) [
            | inl number ↦ omega (arith, front_in_run is_digit bytes m le number.each)
            | inr date ↦ let most = date_most bytes m le date in none-some most.0 (sym is ∙ most.1)
          ];
          word = λ e. let class' = letter_class (get_or bytes 0 0) e in absurd cc;
          number = λ e none. refl;
        })
    | inr long ↦ rw long tt
  ]

  digit_stands : (found : Option ℕ) → date_length bytes ≡ found → 0 < prefix_len is_digit bytes
      → Stands bytes (date_or_number found bytes)
  digit_stands None is some = number_stands is some
  digit_stands (Some n) is some = date_first n is

-- ---- texts between quotes

string_first : (m b : ℕ) (bytes : List ℕ) → class_of b ≡ c.quote → b ≡ 34 → step_at (b ∷ bytes) ≡ S.Token K.Str m
    → Quoted 256 1 bytes m → IsFirst K.Str m (b ∷ bytes)
string_first m b bytes class is step q =
    let text : List ℕ = 34 ∷ q.inside ++ 34 ∷ [] in
    let whole : b ∷ bytes ≡ text ++ q.rest = rw (is, q.whole) (simp append_assoc) in
    let size : length text ≡ m = omega (arith, q.size, length-append q.inside (34 ∷ [])) in
    record {
      within = omega (arith, ap length whole, length-append text q.rest);
      form = record {
        inside = q.inside;
        content = q.content;
        holds = q.holds;
        most = q.most;
        quoted = ap (take m) whole ∙ take_at text q.rest m size;
      };
      longest = λ other n lt le f.
          let string = quote_form other (take n (b ∷ bytes)) (text_class n (b ∷ bytes) (omega arith) ∙ class) f in
          let longer = string_exact (b ∷ bytes) n le string in
          let same : m ≡ n = cc in
          omega arith;
      word = λ e. let class' = letter_class b e in absurd cc;
      number = λ e. let class' = digit_class b e in absurd cc;
    }

string_stands : (s : Step) (b : ℕ) (bytes : List ℕ) → class_of b ≡ c.quote → b ≡ 34 → step_at (b ∷ bytes) ≡ s
    → Reads 256 1 bytes s → Stands (b ∷ bytes) s
string_stands (S.Token kind m) b bytes class is step (str, q) =
    let first = string_first m b bytes class is (step ∙ ap (λ (k : TokenKind). S.Token k m) str) q in
    subst (λ (k : TokenKind). IsFirst k m (b ∷ bytes)) (sym str) first
string_stands (S.Skip m) b bytes class is step r = absurd r
string_stands (S.Bad m) b bytes class is step r = tt

-- ---- signs

sign_stands : (found : Option Sign) (b : ℕ) (bytes : List ℕ) → class_of b ≡ c.other → sign_at (b ∷ bytes) ≡ found
    → Stands (b ∷ bytes) (sign_or_fault found (b ∷ bytes))
sign_stands (Some sign) b bytes class is =
    let found = sign_found (b ∷ bytes) sign is in
    record {
      within = found.within;
      form = sym found.front;
      longest = λ other m lt le f.
          let longer = other_form other (take m (b ∷ bytes)) (text_class m (b ∷ bytes) (omega arith) ∙ class) f in
          sign_longest (b ∷ bytes) sign is longer.0 m lt le longer.1;
      word = λ e. let class' = letter_class b e in absurd cc;
      number = λ e. let class' = digit_class b e in absurd cc;
    }
sign_stands None b bytes class is = elim (cases_Bool (b == 33)) [ inl h ↦ rw h tt | inr h ↦ rw h tt ]

-- ---- comments and blanks

slash_stands : (b : ℕ) (bytes : List ℕ) → b ≡ 47 → Stands (b ∷ bytes) (slash_step bytes)
slash_stands b [] is = tt
slash_stands b (c ∷ bytes) is = elim (cases_Bool (c == 47)) [
  | inl h ↦ rw (h, is, eqb-true c 47 h) (
      let size : 2 + comment_length bytes ≡ suc (suc (comment_length bytes)) = omega arith in
      (omega arith, omega (arith, prefix_len-le-length is_comment_byte bytes), λ at tokens d. g.comment at bytes tokens (rw size at d)))
  | inr h ↦ rw h tt
]

blank_stands : (b : ℕ) (bytes : List ℕ) → is_blank b ≡ true → Stands (b ∷ bytes) (S.Skip 1)
unfolding spot_after
blank_stands b bytes is = (omega arith, omega arith, λ at tokens d. g.blank at b bytes tokens is d)

-- ---- all

by_class : (class : Class) (b : ℕ) (bytes : List ℕ) → class_of b ≡ class
    → Stands (b ∷ bytes) (class_step class b bytes) → Stands (b ∷ bytes) (step_at (b ∷ bytes))
by_class class b bytes is stands = subst (Stands (b ∷ bytes)) (sym (step_by_class b bytes class is)) stands

pub step_stands : (b : ℕ) (bytes : List ℕ) → Stands (b ∷ bytes) (step_at (b ∷ bytes))
step_stands b bytes = elim (cases_Bool (is_quote b)) [
  | inl q ↦ string_stands _ b bytes (rw q refl) (eqb-true b 34 q) refl (rw q (reads 256 1 bytes))
  | inr q ↦ elim (cases_Bool (b == 47)) [
    | inl s ↦ by_class c.slash b bytes (rw (q, s) refl) (slash_stands b bytes (eqb-true b 47 s))
    | inr s ↦ elim (cases_Bool (is_blank b)) [
      | inl k ↦ by_class c.blank b bytes (rw (q, s, k) refl) (blank_stands b bytes k)
      | inr k ↦ elim (cases_Bool (is_letter b)) [
        | inl l ↦
            let class = letter_class b l in
            by_class c.letter b bytes class (word_stands (b ∷ bytes) class l (run_some is_word_byte b bytes (rw l refl)))
        | inr l ↦ elim (cases_Bool (is_digit b)) [
          | inl d ↦
              let class = digit_class b d in
              by_class c.digit b bytes class (digit_stands (b ∷ bytes) class _ refl (run_some is_digit b bytes d))
          | inr d ↦
              let class : class_of b ≡ c.other = rw (q, s, k, l, d) refl in
              by_class c.other b bytes class (sign_stands (sign_at (b ∷ bytes)) b bytes class refl)
        ]
      ]
    ]
  ]
]
