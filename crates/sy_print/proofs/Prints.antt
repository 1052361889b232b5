-- When a rule prints: what it spells has a text of words, and the rule spells all lexemes like these words as an equal
-- tree.
use Rattle.std.proofs.Common.{◌≡◌, ◌⊎◌, inl, inr, ℕ, List, [], ◌∷◌, ◌++◌, refl, sym, ap, subst, ◌∙◌, append_assoc, suc, ◌==◌, arith, Bool, true, false}
use Rattle.sy_base.specs.declared.refusal.Place.{Place}
use Rattle.sy_lex.specs.declared.keyword.Keyword.{Keyword}
use Rattle.sy_lex.specs.declared.sign.Sign.{Sign}
use Rattle.sy_lex.specs.declared.sign.Sign.TheVariants.{Semicolon}
use Rattle.sy_lex.specs.Forms.{IsNumber, HasForm}
use Rattle.sy_lex.specs.Keywords.{keyword_text}
use Rattle.sy_lex.specs.Signs.{sign_text}
use Rattle.sy_lex.specs.declared.token.TokenKind.{TokenKind}
use Rattle.sy_lex.specs.declared.token.TokenKind.TheVariants as S
use Rattle.sy_lex.specs.declared.written.Written.{Written}
use Rattle.sy_lex.specs.Lexemes.{Lexeme, written}
use Rattle.sy_reader.specs.Grammar.{Rule, spelled, ◌>>=◌, lexeme, token, keyword, sign}
use Rattle.sy_print.specs.CanonicalText as T
use Rattle.sy_print.specs.Equality.{here, plain, plain_number}
use Rattle.sy_print.proofs.PrintedWords.{Word, bytes_of, AreWords, AreTokens, Alike}

-- the lexemes from `from` to `rest` have the kinds and texts of the words
abbrev pub Reads : List Word → List Lexeme → List Lexeme → Type 0
Reads [] from rest = from ≡ rest
Reads (w ∷ ws) from rest =
    (l : Lexeme) × (others : List Lexeme) × (from ≡ l ∷ others) × (l.kind ≡ w.kind) × (l.text ≡ w.text)
    × Reads ws others rest

pub split_reads : (ws us : List Word) (from rest : List Lexeme) → Reads (ws ++ us) from rest
    → (mid : List Lexeme) × Reads ws from mid × Reads us mid rest
split_reads [] us from rest r = (from, refl, r)
split_reads (w ∷ ws) us from rest r =
    let s = split_reads ws us r.1 rest r.5 in
    (s.0, (r.0, r.1, r.2, r.3, r.4, s.1), s.2)

pub reads_alike : (ls : List Lexeme) (ws : List Word) → Alike ls ws → Reads ws ls []
reads_alike [] [] a = refl
reads_alike [] (w ∷ ws) a = elim a [ ]
reads_alike (l ∷ ls) [] a = elim a [ ]
reads_alike (l ∷ ls) (w ∷ ws) a = (l, ls, refl, a.0, a.1, reads_alike ls ws a.2)

-- the words are well formed and have this text
pub record IsText (ws : List Word) (text : List ℕ) : Type 0 where
  pub words : AreWords ws
  pub bytes : bytes_of ws ≡ text

are_words : (ws us : List Word) → AreWords ws → AreWords us → AreWords (ws ++ us)
are_words [] us a b = b
are_words (w ∷ ws) us a b = (a.0, a.1, are_words ws us a.2 b)

bytes_append : (ws us : List Word) → bytes_of (ws ++ us) ≡ bytes_of ws ++ bytes_of us
bytes_append [] us = refl
bytes_append (w ∷ ws) us =
    ap (λ bytes. w.text ++ w.behind ∷ bytes) (bytes_append ws us)
    ∙ sym (append_assoc w.text (w.behind ∷ bytes_of ws) (bytes_of us))

pub no_words : IsText [] []
no_words = record { words = tt; bytes = refl }

infixr 20 ◌&◌
pub ◌&◌ : {ws us : List Word} {t u : List ℕ} → IsText ws t → IsText us u → IsText (ws ++ us) (t ++ u)
◌&◌ {ws} {us} a b = record {
  words = are_words ws us a.words b.words;
  bytes = bytes_append ws us ∙ (λ i. a.bytes i ++ b.bytes i);
}

-- ---- printing

-- the rule spells all lexemes like these words, as a tree equal to x
pub record Says {A : Type 0} (R : Rule A) (plain : A → A) (x : A) (ws : List Word) : Type 0 where
  pub tree : (from rest : List Lexeme) → Reads ws from rest → (y : A) × R from y rest × (plain y ≡ plain x)

pub step : {A C : Type 0} {R : Rule A} {next : A → Rule C} {plain : A → A} {x : A} {flat : C → C} {z : C}
    {ws us : List Word} → Says R plain x ws → ((y : A) → plain y ≡ plain x → Says (next y) flat z us)
    → Says (R >>= next) flat z (ws ++ us)
step {A} {C} {R} {next} {plain} {x} {flat} {z} {ws} {us} first then = record {
  tree = λ from rest r.
      let s = split_reads ws us from rest r in
      let a = first.tree from s.0 s.1 in
      let b = (then a.0 a.2).tree s.0 rest s.2 in
      (b.0, (a.0, s.0, a.1, b.1), b.2);
}

-- the last step
pub final : {A C : Type 0} {R : Rule A} {f : A → C} {plain : A → A} {x : A} {flat : C → C} {z : C} {ws : List Word}
    → Says R plain x ws → ((y : A) → plain y ≡ plain x → flat (f y) ≡ flat z)
    → Says (R >>= λ y. spelled (f y)) flat z ws
final {A} {C} {R} {f} {plain} {x} {flat} {z} {ws} first same = record {
  tree = λ from rest r.
      let a = first.tree from rest r in
      (f a.0, (a.0, rest, a.1, (refl, refl)), same a.0 a.2);
}

-- the words of a text, which the rule spells as a tree equal to x
pub record Printed {A : Type 0} (R : Rule A) (plain : A → A) (x : A) (text : List ℕ) : Type 0 where
  pub words : List Word
  pub are : IsText words text
  pub says : Says R plain x words

pub printed : {A : Type 0} {R : Rule A} {plain : A → A} {x : A} {ws : List Word} {t text : List ℕ}
    → IsText ws t → t ≡ text → Says R plain x ws → Printed R plain x text
printed {A} {R} {plain} {x} {ws} {t} {text} a e s =
    record { words = ws; are = record { words = a.words; bytes = a.bytes ∙ e }; says = s }

-- what one rule spells, the other spells too
abbrev pub Within : {A : Type 0} → Rule A → Rule A → Type 0
Within {A} R Q = (from : List Lexeme) (x : A) (rest : List Lexeme) → R from x rest → Q from x rest

pub weaker : {A : Type 0} {R Q : Rule A} {plain : A → A} {x : A} {text : List ℕ}
    → Within R Q → Printed R plain x text → Printed Q plain x text
weaker {A} {R} {Q} {plain} {x} {text} more p = record {
  words = p.words;
  are = p.are;
  says = record { tree = λ from rest r. let a = p.says.tree from rest r in (a.0, more from a.0 rest a.1, a.2) };
}

-- a rule, with the text and the plain form of what it spells
pub record Prints {A : Type 0} (R : Rule A) (text : A → List ℕ) (plain : A → A) : Type 0 where
  pub at : (from : List Lexeme) (x : A) (rest : List Lexeme) → AreTokens from → R from x rest
      → Printed R plain x (text x) × AreTokens rest

-- ---- single lexemes

-- a blank or a newline
abbrev IsBlank : ℕ → Type 0
IsBlank b = (b ≡ 32) ⊎ (b ≡ 10)

-- one lexeme of this kind and text, of which the rule keeps something
pub lexeme_printed : {A : Type 0} {plain : A → A} {x : A}
    (kind : TokenKind) (text : List ℕ) (blank : ℕ) (keep : Lexeme → A)
    → HasForm kind text → IsBlank blank → ((l : Lexeme) → l.text ≡ text → plain (keep l) ≡ plain x)
    → Printed (lexeme kind >>= λ l. spelled (keep l)) plain x (text ++ blank ∷ [])
lexeme_printed kind text blank keep form is_blank same = record {
  words = record { kind = kind; text = text; behind = blank } ∷ [];
  are = record { words = (form, is_blank, tt); bytes = refl };
  says = record { tree = λ from rest r. (keep r.0, (r.0, r.1, (r.2, r.3), (refl, r.5)), same r.0 r.4) };
}

-- the tokens behind one lexeme, and that it has a form
pub behind_lexeme : {A : Type 0} {keep : Lexeme → A} {from rest : List Lexeme} {x : A} (kind : TokenKind) → AreTokens from
    → (lexeme kind >>= λ l. spelled (keep l)) from x rest
    → ((l : Lexeme) × HasForm kind l.text × (keep l ≡ x)) × AreTokens rest
behind_lexeme kind tokens d =
    let all = subst AreTokens d.2.0 tokens in
    ((d.0, subst (λ kind. HasForm kind d.0.text) d.2.1 all.0, d.3.0), subst AreTokens d.3.1 all.1)

keyword_at : (k : Keyword) (blank : ℕ) → IsBlank blank → (place : Place)
    → Printed (keyword k) (λ _. here) place (keyword_text k ++ blank ∷ [])
keyword_at k blank is_blank place =
    lexeme_printed (S.Reserved k) (keyword_text k) blank (λ l. l.place) refl is_blank (λ _ _. refl)

sign_at : (s : Sign) (blank : ℕ) → IsBlank blank → (place : Place)
    → Printed (sign s) (λ _. here) place (sign_text s ++ blank ∷ [])
sign_at s blank is_blank place =
    lexeme_printed (S.Sign s) (sign_text s) blank (λ l. l.place) refl is_blank (λ _ _. refl)

-- a single lexeme of which only the place is kept
at_place : {text : List ℕ} (kind : TokenKind)
    → ((place : Place) → Printed (lexeme kind >>= λ l. spelled l.place) (λ _. here) place text)
    → Prints (lexeme kind >>= λ l. spelled l.place) (λ _. text) (λ _. here)
at_place {text} kind p = record { at = λ from place rest tokens d. (p place, (behind_lexeme kind tokens d).1) }

pub keyword_printed : (k : Keyword) (place : Place) → Printed (keyword k) (λ _. here) place (T.keyword k)
unfolding T.keyword T.word
keyword_printed k = keyword_at k 32 (inl refl)

pub word_of : (k : Keyword) → Prints (keyword k) (λ _. T.keyword k) (λ _. here)
word_of k = at_place (S.Reserved k) (keyword_printed k)

pub heading_of : (k : Keyword) → Prints (keyword k) (λ _. T.heading k) (λ _. here)
unfolding T.heading T.last
heading_of k = at_place (S.Reserved k) (keyword_at k 10 (inr refl))

pub sign_printed : (s : Sign) (place : Place) → Printed (sign s) (λ _. here) place (T.sign s)
unfolding T.sign T.word
sign_printed s = sign_at s 32 (inl refl)

pub sign_of : (s : Sign) → Prints (sign s) (λ _. T.sign s) (λ _. here)
sign_of s = at_place (S.Sign s) (sign_printed s)

pub semicolon_of : Prints (sign Semicolon) (λ _. T.semicolon) (λ _. here)
unfolding T.semicolon T.last
semicolon_of = at_place (S.Sign Semicolon) (sign_at Semicolon 10 (inr refl))

-- a token that keeps its text
as_it_is : (kind : TokenKind) (blank : ℕ) → IsBlank blank → Prints (token kind) (λ t. t.text ++ blank ∷ []) plain
as_it_is kind blank is_blank = record {
  at = λ from x rest tokens d.
      let a = behind_lexeme kind tokens d in
      let form : HasForm kind x.text = subst (λ (y : Written). HasForm kind y.text) a.0.2 a.0.1 in
      (lexeme_printed kind x.text blank written form is_blank (λ _ h. λ i. record { text = h i; place = here }), a.1);
}

pub token_of : (kind : TokenKind) → Prints (token kind) T.token plain
unfolding T.word
token_of kind = as_it_is kind 32 (inl refl)

pub name_of : Prints (token S.Word) T.token plain
name_of = token_of S.Word

-- a name that ends its line
pub last_name : Prints (token S.Word) (λ t. T.last t.text) plain
unfolding T.last
last_name = as_it_is S.Word 10 (inr refl)

-- ---- numbers

number_tail : (d e : ℕ) (digits : List ℕ) → IsNumber (d ∷ e ∷ digits) → IsNumber (e ∷ digits)
number_tail d e digits n = record {
  some = omega arith;
  most = omega (arith, n.most);
  each = λ k h. n.each (suc k) (omega (arith, h));
}

is_test : (b : Bool) → (b ≡ true) ⊎ (b ≡ false)
is_test true = inl refl
is_test false = inr refl

stripped_number : (text : List ℕ) → IsNumber text → IsNumber (T.stripped text)
unfolding T.stripped
stripped_number [] n = n
stripped_number (d ∷ []) n = n
stripped_number (d ∷ e ∷ digits) n = elim (is_test (d == 48)) [
  | inl h ↦ rw h (stripped_number (e ∷ digits) (number_tail d e digits n))
  | inr h ↦ rw h n
]

stripped_twice : (text : List ℕ) → T.stripped (T.stripped text) ≡ T.stripped text
unfolding T.stripped
stripped_twice [] = refl
stripped_twice (d ∷ []) = refl
stripped_twice (d ∷ e ∷ digits) = elim (is_test (d == 48)) [
  | inl h ↦ rw h (stripped_twice (e ∷ digits))
  | inr h ↦ rw h (rw h refl)
]

pub number_of : Prints (token S.Number) T.number plain_number
unfolding T.word
number_of = record {
  at = λ from x rest tokens d.
      let a = behind_lexeme S.Number tokens d in
      let form : IsNumber x.text = subst (λ (y : Written). IsNumber y.text) a.0.2 a.0.1 in
      let same : (l : Lexeme) → l.text ≡ T.stripped x.text → plain_number (written l) ≡ plain_number x = λ l h.
      λ i. record { text = (ap T.stripped h ∙ stripped_twice x.text) i; place = here } in
      (lexeme_printed S.Number (T.stripped x.text) 32 written (stripped_number x.text form) (inl refl) same, a.1);
}
