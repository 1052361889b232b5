-- How the grammar is written. A rule of A says which lexemes spell which tree of A.
use Rattle.std.specs.Prelude.{◌≡◌, ◌≤◌, ◌⊎◌, ℕ, List, [], ◌∷◌, length, Option, Some, None}
use Rattle.sy_base.specs.declared.refusal.Place.{Place}
use Rattle.sy_lex.specs.declared.keyword.Keyword.{Keyword}
use Rattle.sy_lex.specs.declared.sign.Sign.{Sign}
use Rattle.sy_lex.specs.declared.sign.Sign.TheVariants.{Comma, Semicolon}
use Rattle.sy_lex.specs.declared.token.TokenKind.TheVariants as S
use Rattle.sy_lex.specs.declared.token.TokenKind.{TokenKind}
use Rattle.sy_lex.specs.declared.written.Written.{Written}
use Rattle.sy_lex.specs.Lexemes.{Lexeme, written}

-- `R from x rest`: the lexemes `from` begin with some that R spells as x, and `rest` stands behind them
abbrev pub Rule : Type 0 → Type 1
Rule A = List Lexeme → A → List Lexeme → Type 0

-- no lexeme, for x
abbrev pub spelled : {A : Type 0} → A → Rule A
spelled x from y rest = (x ≡ y) × (from ≡ rest)

-- one rule and then another
infixl 10 ◌>>=◌
abbrev pub ◌>>=◌ : {A B : Type 0} → Rule A → (A → Rule B) → Rule B
(R >>= next) from y rest = (x : _) × (mid : List Lexeme) × R from x mid × next x mid y rest

-- one rule or the other
infixl 8 ◌or◌
abbrev pub ◌or◌ : {A : Type 0} → Rule A → Rule A → Rule A
(R or other) from x rest = R from x rest ⊎ other from x rest

-- one lexeme of this kind
abbrev pub lexeme : TokenKind → Rule Lexeme
lexeme kind from l rest = (from ≡ l ∷ rest) × (l.kind ≡ kind)

-- a token that the tree keeps: a name, a number, a date or a text between quotes
abbrev pub token : TokenKind → Rule Written
token kind = do
  l ← lexeme kind
  spelled (written l)

-- a reserved word, which the tree keeps as its place
abbrev pub keyword : Keyword → Rule Place
keyword word = do
  l ← lexeme (S.Reserved word)
  spelled l.place

-- a sign, which the tree keeps as its place
abbrev pub sign : Sign → Rule Place
sign s = do
  l ← lexeme (S.Sign s)
  spelled l.place

-- the next lexeme, which is only looked at
abbrev pub ahead : Rule Written
ahead from x rest = (l : Lexeme) × (others : List Lexeme) × (from ≡ l ∷ others) × (written l ≡ x) × (from ≡ rest)

-- any number of them, one behind the other
pub data Many {A : Type 0} (R : List Lexeme → A → List Lexeme → Type 0) : List Lexeme → List A → List Lexeme → Type 0 where
  none : (rest : List Lexeme) → Many R rest [] rest
  more : (from : List Lexeme) (x : A) (mid : List Lexeme) (xs : List A) (rest : List Lexeme)
      → R from x mid → Many R mid xs rest → Many R from (x ∷ xs) rest

abbrev pub many : {A : Type 0} → Rule A → Rule (List A)
many R = Many R

-- at most so many of them
abbrev pub up_to : {A : Type 0} → ℕ → Rule A → Rule (List A)
up_to most R from xs rest = many R from xs rest × (length xs ≤ most)

-- at most one
abbrev pub maybe : {A : Type 0} → Rule A → Rule (Option A)
maybe R = (R >>= λ x. spelled (Some x)) or spelled None

-- one behind a sign
abbrev pub behind : {A : Type 0} → Sign → Rule A → Rule A
behind s R = do
  _ ← sign s
  R

-- one before a sign
abbrev pub before : {A : Type 0} → Rule A → Sign → Rule A
before R s = do
  x ← R
  _ ← sign s
  spelled x

-- one between two signs
abbrev pub between : {A : Type 0} → Sign → Rule A → Sign → Rule A
between s R t = behind s (before R t)

-- one and any number more, with commas between
abbrev pub listed : {A : Type 0} → Rule A → Rule (List A)
listed R = do
  first ← R
  others ← many (behind Comma R)
  spelled (first ∷ others)

-- a list with commas between, or nothing
abbrev pub maybe_listed : {A : Type 0} → Rule A → Rule (List A)
maybe_listed R = listed R or spelled []

-- any number, each with a semicolon behind it
abbrev pub ended : {A : Type 0} → Rule A → Rule (List A)
ended R = many (before R Semicolon)
