-- Reading lexemes from left to right. What can't be read is told by how many lexemes there are from the first one that
-- doesn't fit to the end: none where the end doesn't.
use Rattle.std.specs.Prelude.{◌≡◌, ◌++◌, ℕ, zero, suc, Bool, true, false, if◌then◌else◌, List, [], ◌∷◌, length, Option, Some, None, Result, Ok, Err}
use denote.Enum.Bare.{sameb}
use Rattle.sy_base.specs.declared.refusal.Place.{Place}
use Rattle.sy_lex.specs.contracts.keyword.Keyword.{the_type as the_keywords}
use Rattle.sy_lex.specs.contracts.sign.Sign.{the_type as the_signs}
use Rattle.sy_lex.specs.declared.keyword.Keyword.{Keyword}
use Rattle.sy_lex.specs.declared.sign.Sign.{Sign}
use Rattle.sy_lex.specs.declared.sign.Sign.TheVariants.{Comma}
use Rattle.sy_lex.specs.declared.token.TokenKind.{TokenKind}
use Rattle.sy_lex.specs.declared.token.TokenKind.TheVariants as S
use Rattle.sy_lex.specs.declared.written.Written.{Written}
use Rattle.sy_lex.specs.Lexemes.{Lexeme, written}
use Rattle.sy_reader.specs.declared.fault.Fault.{Fault}
use Rattle.sy_reader.specs.declared.fault.Fault.TheVariants as F

-- what is read, and the lexemes behind it
abbrev pub Read : Type 0 → Type 0
Read A = Result (A × List Lexeme) ℕ

-- how something is read
abbrev pub Reading : Type 0 → Type 0
Reading A = List Lexeme → Read A

-- a call on a reader answered what reading gives, unless memory was wanting
abbrev pub Reads : {A : Type 0} → Result A Fault → List Lexeme → List Lexeme → Reading A → Type 0
Reads (Ok x) old new reading = reading old ≡ Ok (x, new)
Reads (Err F.Memory) old new reading = Unit {0}
Reads (Err (F.Syntax left)) old new reading = reading old ≡ Err left

-- the fault that the next lexeme, or the end, doesn't fit
abbrev pub fault_at : List Lexeme → Fault
fault_at lexemes = F.Syntax (length lexemes)

-- what was answered is the next lexeme, or that there is none
abbrev pub Peeks : Result Lexeme Fault → List Lexeme → Type 0
Peeks (Ok lexeme) lexemes = (others : List Lexeme) × (lexemes ≡ lexeme ∷ others)
Peeks (Err fault) lexemes = (lexemes ≡ []) × (fault ≡ F.Syntax 0)

-- what the next lexeme is
abbrev pub next_kind : List Lexeme → Option TokenKind
next_kind [] = None
next_kind (l ∷ ls) = Some l.kind

-- reading one thing and then another
abbrev pub and_then : {A B : Type 0} → Read A → (A → Reading B) → Read B
and_then (Ok x) next = next x.0 x.1
and_then (Err left) next = Err left

infixl 10 ◌>>=◌
abbrev pub ◌>>=◌ : {A B : Type 0} → Reading A → (A → Reading B) → Reading B
(reading >>= next) lexemes = and_then (reading lexemes) next

-- nothing is read for it
abbrev pub give : {A : Type 0} → A → Reading A
give x lexemes = Ok (x, lexemes)

-- nothing fits
abbrev pub fail : {A : Type 0} → Reading A
fail lexemes = Err (length lexemes)

-- two kinds are the same
abbrev pub is_kind : TokenKind → TokenKind → Bool
is_kind (S.Reserved a) (S.Reserved b) = sameb the_keywords a b
is_kind (S.Sign a) (S.Sign b) = sameb the_signs a b
is_kind S.Word S.Word = true
is_kind S.Number S.Number = true
is_kind S.Date S.Date = true
is_kind S.Str S.Str = true
is_kind a b = false

-- the next lexeme is of this kind
abbrev pub begins_with : TokenKind → List Lexeme → Bool
begins_with kind [] = false
begins_with kind (l ∷ ls) = is_kind l.kind kind

-- one lexeme of this kind
abbrev pub lexeme_at : TokenKind → Reading Lexeme
lexeme_at kind [] = Err 0
lexeme_at kind (l ∷ ls) = if is_kind l.kind kind then Ok (l, ls) else Err (suc (length ls))

abbrev pub token_at : TokenKind → Reading Written
token_at kind = lexeme_at kind >>= λ l. give (written l)

abbrev pub place_at : TokenKind → Reading Place
place_at kind = lexeme_at kind >>= λ l. give l.place

abbrev pub keyword_at : Keyword → Reading Place
keyword_at word = place_at (S.Reserved word)

abbrev pub sign_at : Sign → Reading Place
sign_at s = place_at (S.Sign s)

abbrev pub name_at : Reading Written
name_at = token_at S.Word

-- the next lexeme, which stays
abbrev pub ahead_at : Reading Written
ahead_at [] = Err 0
ahead_at (l ∷ ls) = Ok (written l, l ∷ ls)

-- a choice by the kind of the next lexeme
abbrev pub by_next : {A : Type 0} → (TokenKind → Reading A) → Reading A
by_next choice [] = Err 0
by_next choice (l ∷ ls) = choice l.kind (l ∷ ls)

-- the next lexeme passes a test
abbrev pub next_passes : (TokenKind → Bool) → List Lexeme → Bool
next_passes test [] = false
next_passes test (l ∷ ls) = test l.kind

-- one thing more in front of those that are read
abbrev pub with_first : {A : Type 0} → A → Read (List A) → Read (List A)
with_first x read = and_then read (λ xs. give (x ∷ xs))

-- as many as there are, while the next lexeme passes the test; but so many at most
unfoldable pub while_at : {A : Type 0} → (TokenKind → Bool) → Reading A → ℕ → Reading (List A)
while_at test item zero lexemes = Ok ([], lexemes)
while_at test item (suc most) lexemes =
    if next_passes test lexemes
    then and_then (item lexemes) (λ x rest. with_first x (while_at test item most rest))
    else Ok ([], lexemes)

-- as many as there are
abbrev pub many_at : {A : Type 0} → (TokenKind → Bool) → Reading A → Reading (List A)
many_at test item lexemes = while_at test item (length lexemes) lexemes

abbrev pub behind_at : {A : Type 0} → Sign → Reading A → Reading A
behind_at s reading = sign_at s >>= λ _. reading

abbrev pub before_at : {A : Type 0} → Reading A → Sign → Reading A
before_at reading s = reading >>= λ x. sign_at s >>= λ _. give x

abbrev pub between_at : {A : Type 0} → Sign → Reading A → Sign → Reading A
between_at s reading t = behind_at s (before_at reading t)

-- those behind a sign, so many at most
abbrev pub each_behind : {A : Type 0} → Sign → Reading A → ℕ → Reading (List A)
each_behind s reading most = while_at (λ kind. is_kind kind (S.Sign s)) (behind_at s reading) most

abbrev pub all_behind : {A : Type 0} → Sign → Reading A → Reading (List A)
all_behind s reading lexemes = each_behind s reading (length lexemes) lexemes

-- with these in front of what is read
abbrev pub and_more : {A : Type 0} → List A → Reading (List A) → Reading (List A)
and_more front reading = reading >>= λ xs. give (front ++ xs)

-- one and those behind commas
abbrev pub listed_at : {A : Type 0} → Reading A → Reading (List A)
listed_at reading = do
  first ← reading
  others ← all_behind Comma reading
  give (first ∷ others)

-- the same, or nothing where the sign stands that ends it
abbrev pub maybe_listed_at : {A : Type 0} → Sign → Reading A → Reading (List A)
maybe_listed_at s reading lexemes =
    if begins_with (S.Sign s) lexemes then Ok ([], lexemes) else listed_at reading lexemes

-- all lexemes are read
abbrev pub whole_of : {A : Type 0} → Read A → Result A ℕ
whole_of (Ok (x, [])) = Ok x
whole_of (Ok (x, l ∷ ls)) = Err (length (l ∷ ls))
whole_of (Err left) = Err left

abbrev pub whole_at : {A : Type 0} → Reading A → List Lexeme → Result A ℕ
whole_at reading lexemes = whole_of (reading lexemes)

-- what was answered is what reading all gives, unless memory was wanting
abbrev pub Gives : {A : Type 0} → Result A Fault → Result A ℕ → Type 0
Gives (Ok x) read = read ≡ Ok x
Gives (Err F.Memory) read = Unit {0}
Gives (Err (F.Syntax left)) read = read ≡ Err left
