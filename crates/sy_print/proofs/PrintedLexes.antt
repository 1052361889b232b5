-- A text of words has these as its tokens, and the tokens of a text have the forms of their kinds.
use Rattle.std.proofs.Common.{◌≡◌, ◌⊎◌, ℕ, ◌+◌, ◌-◌, true, List, [], ◌∷◌, ◌++◌, length, take, drop, refl, sym, ap, subst, ◌∙◌, arith, inl, inr}
use Rattle.std.proofs.lemmas.List.{take_at, drop_at, drop-drop, take-append-drop}
use Rattle.sy_lex.specs.declared.token.Token.{Token}
use Rattle.sy_lex.specs.Bytes.{is_blank}
use Rattle.sy_lex.specs.Forms.{HasForm}
use Rattle.sy_lex.specs.Tokens as t
use Rattle.sy_lex.specs.Tokens.{IsFirst, Lexes, HasText, comment_length, first_spot, next_spot, spot_after, token_at}
use Rattle.sy_lex.specs.Lexemes.{text_of, lexemes_of}
use Rattle.sy_print.proofs.PrintedWords.{Word, bytes_of, AreWords, AreTokens, Alike}
use Rattle.sy_print.proofs.BlankBehind.{token_first}

-- ---- where bytes stand in the source

-- the type of this
abbrev TypeOf : {A : Type 0} → A → Type 0
TypeOf {A} a = A

-- where a byte of a text stands: its crate gives this type to others by no name
abbrev Spot : Type 0
Spot = TypeOf first_spot

offset_after : (at : Spot) (bytes : List ℕ) → (spot_after at bytes).offset ≡ at.offset + length bytes
unfolding spot_after
offset_after at [] = omega arith
offset_after at (b ∷ bytes) = offset_after (next_spot at b) bytes ∙ omega arith

-- behind so many bytes of the source there are these
abbrev IsRest : List ℕ → ℕ → List ℕ → Type 0
IsRest source n bytes = drop n source ≡ bytes

rest_after : (source : List ℕ) (at : Spot) (front bytes : List ℕ) → IsRest source at.offset (front ++ bytes)
    → IsRest source (spot_after at front).offset bytes
rest_after source at front bytes is =
    ap (λ (n : ℕ). drop n source) (offset_after at front) ∙ sym (drop-drop (length front) at.offset source)
    ∙ ap (drop (length front)) is ∙ drop_at front bytes (length front) refl

rest_next : (source : List ℕ) (at : Spot) (b : ℕ) (bytes : List ℕ) → IsRest source at.offset (b ∷ bytes)
    → IsRest source (next_spot at b).offset bytes
unfolding spot_after
rest_next source at b bytes is = rest_after source at (b ∷ []) bytes is

rest_drop : (source : List ℕ) (at : Spot) (n : ℕ) (bytes : List ℕ) → IsRest source at.offset bytes
    → IsRest source (spot_after at (take n bytes)).offset (drop n bytes)
rest_drop source at n bytes is =
    rest_after source at (take n bytes) (drop n bytes) (is ∙ sym (take-append-drop n bytes))

-- the text of the token of n bytes that begins there
text_there : (source : List ℕ) (at : Spot) (n : ℕ) (bytes : List ℕ) → IsRest source at.offset bytes
    → text_of source at.offset (at.offset + n) ≡ take n bytes
text_there source at n bytes is =
    let size : at.offset + n - at.offset ≡ n = omega arith in
    ap (λ (k : ℕ). take k (drop at.offset source)) size ∙ ap (take n) is

-- ---- the tokens of a text of words

blank_is : (b : ℕ) → (b ≡ 32) ⊎ (b ≡ 10) → is_blank b ≡ true
blank_is b (inl is) = rw is refl
blank_is b (inr is) = rw is refl

words_from : (source : List ℕ) (ws : List Word) (at : Spot) → AreWords ws → IsRest source at.offset (bytes_of ws)
    → (tokens : List Token) × Lexes at (bytes_of ws) tokens × Alike (lexemes_of source tokens) ws
words_from source [] at words is = ([], t.ends at, tt)
words_from source (w ∷ ws) at (form, behind, words) is =
    let n = length w.text in
    let rest : List ℕ = w.behind ∷ bytes_of ws in
    let blank = blank_is w.behind behind in
    let spot : Spot = spot_after at w.text in
    let here = rest_after source at w.text rest is in
    let next = rest_next source spot w.behind (bytes_of ws) here in
    let more = words_from source ws (next_spot spot w.behind) words next in
    let first = token_first w.text w.behind (bytes_of ws) blank w.kind form in
    let front : take n (w.text ++ rest) ≡ w.text = take_at w.text rest n refl in
    let back : drop n (w.text ++ rest) ≡ rest = drop_at w.text rest n refl in
    let later : Lexes (spot_after at (take n (w.text ++ rest))) (drop n (w.text ++ rest)) more.0 =
    rw (front, back) (t.blank spot w.behind (bytes_of ws) more.0 blank more.1) in
    let text = text_there source at n (w.text ++ rest) is ∙ front in (
      token_at w.kind n at ∷ more.0,
      t.token at w.kind n (w.text ++ rest) more.0 first later,
      (refl, text, more.2),
    )

-- a text of words has exactly these words as its tokens
pub words_lex : (ws : List Word) → AreWords ws
    → (tokens : List Token) × HasText tokens (bytes_of ws) × Alike (lexemes_of (bytes_of ws) tokens) ws
words_lex ws words = words_from (bytes_of ws) ws first_spot words refl

-- ---- the forms of the tokens of a text

tokens_from : (source : List ℕ) (at : Spot) (bytes : List ℕ) (tokens : List Token) → Lexes at bytes tokens
    → IsRest source at.offset bytes → AreTokens (lexemes_of source tokens)
tokens_from source at bytes tokens (t.ends a) is = tt
tokens_from source at bytes tokens (t.blank a b more others blank d) is =
    tokens_from source (next_spot a b) more others d (rest_next source a b more is)
tokens_from source at bytes tokens (t.comment a more others d) is =
    let n = comment_length more in
    let inside : List ℕ = 47 ∷ 47 ∷ take n more in
    let parts = ap (λ (bs : List ℕ). 47 ∷ 47 ∷ bs) (sym (take-append-drop n more)) in
    let rest = rest_after source a inside (drop n more) (is ∙ parts) in
    tokens_from source (spot_after a inside) (drop n more) others d rest
tokens_from source at bytes tokens (t.token a kind n all others first d) is =
    let text = text_there source a n all is in (
      subst (HasForm kind) (sym text) first.form,
      tokens_from source (spot_after a (take n all)) (drop n all) others d (rest_drop source a n all is),
    )

-- a token of a text has the form of its kind
pub tokens_are : (source : List ℕ) (tokens : List Token) → HasText tokens source
    → AreTokens (lexemes_of source tokens)
tokens_are source tokens text = tokens_from source first_spot source tokens text refl
