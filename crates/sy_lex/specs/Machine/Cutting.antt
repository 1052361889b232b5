-- Cutting a text from left to right, as the code does it. A fault is the place at which it is seen: the first byte after
-- which the bytes so far begin no list of tokens, or the end.
use Rattle.std.specs.Prelude.{ℕ, zero, suc, ◌≡◌, ◌+◌, ◌-◌, ◌<◌, ◌≤◌, ◌==◌, ◌&&◌, Bool, nat_le, if◌then◌else◌, List, [], ◌∷◌, length, take, Result, Ok, Err, Option, Some, None, is_some}
use Rattle.std.specs.List.{prefix_len}
use Rattle.sy_base.specs.Dates.{written_date}
use Rattle.sy_base.specs.declared.refusal.FaultName.TheVariants.{LexFault as LexFaultName}
use Rattle.sy_base.specs.declared.refusal.FileKind.{FileKind}
use Rattle.sy_base.specs.declared.refusal.Place.{Place}
use Rattle.sy_base.specs.declared.refusal.Refused.{Refused}
use Rattle.sy_base.specs.declared.refusal.Refused.TheVariants as R
use Rattle.sy_lex.specs.declared.token.Token.{Token}
use Rattle.sy_lex.specs.declared.token.TokenKind.{TokenKind}
use Rattle.sy_lex.specs.declared.token.TokenKind.TheVariants as K
use Rattle.sy_lex.specs.declared.sign.Sign.{Sign}
use Rattle.sy_lex.specs.declared.keyword.Keyword.{Keyword}
use Rattle.sy_lex.specs.declared.step.Step.{Step}
use Rattle.sy_lex.specs.declared.step.Step.TheVariants as S
use Rattle.sy_lex.specs.declared.string.Inside.{Inside}
use Rattle.sy_lex.specs.declared.string.Inside.TheVariants as I
use Rattle.sy_lex.specs.declared.cut.LexFault.{LexFault}
use Rattle.sy_lex.specs.declared.cut.LexFault.TheVariants as F
use Rattle.sy_lex.specs.declared.spot.Spot.{Spot}
use Rattle.sy_lex.specs.Bytes.{is_letter, is_digit, is_word_byte, is_newline, is_blank, is_quote, is_backslash, is_escaped}
use Rattle.sy_lex.specs.Keywords.{keyword_of}
use Rattle.sy_lex.specs.Signs.{sign_at, sign_text}
use Rattle.sy_lex.specs.Tokens.{first_spot, next_spot, spot_after, token_at, comment_length}

abbrev pub kind_of_word : Option Keyword → TokenKind
kind_of_word (Some keyword) = K.Reserved keyword
kind_of_word None = K.Word

-- a word, or a reserved one
abbrev pub word_step : List ℕ → Step
word_step bytes =
    let n = prefix_len is_word_byte bytes in
    if nat_le n 64 then S.Token (kind_of_word (keyword_of (take n bytes))) n else S.Bad 64

-- so many bytes are there, and have the form of a date
abbrev pub begins_date : ℕ → List ℕ → Bool
begins_date n bytes = nat_le n (length bytes) && is_some (written_date (take n bytes))

-- how many bytes the longest date at the front has
abbrev pub date_length : List ℕ → Option ℕ
date_length bytes =
    if begins_date 16 bytes then Some 16 else (
    if begins_date 13 bytes then Some 13 else (
    if begins_date 10 bytes then Some 10 else None))

abbrev pub number_step : List ℕ → Step
number_step bytes =
    let n = prefix_len is_digit bytes in
    if nat_le n 18 then S.Token K.Number n else S.Bad 18

abbrev pub date_or_number : Option ℕ → List ℕ → Step
date_or_number (Some n) bytes = S.Token K.Date n
date_or_number None bytes = number_step bytes

abbrev pub digit_step : List ℕ → Step
digit_step bytes = date_or_number (date_length bytes) bytes

-- what stands next in a text between quotes, which may hold so many bytes of content more
abbrev pub next_inside : ℕ → List ℕ → Inside
next_inside left [] = I.Bad 0
next_inside left (b ∷ []) =
    if is_newline b then I.Bad 0 else (
    if is_quote b then I.Quote else (
    if left == 0 then I.Bad 0 else (
    if is_backslash b then I.Bad 1 else I.Content 1)))
next_inside left (b ∷ c ∷ bytes) =
    if is_newline b then I.Bad 0 else (
    if is_quote b then I.Quote else (
    if left == 0 then I.Bad 0 else (
    if is_backslash b then (if is_escaped c then I.Content 2 else I.Bad 1) else I.Content 1)))

-- what stands there ends within the bytes
abbrev pub IsWithin : ℕ → Inside → Type 0
IsWithin size (I.Content n) = (0 < n) × (n ≤ size)
IsWithin size I.Quote = 0 < size
IsWithin size (I.Bad n) = n ≤ size

-- a text between quotes, of which so many bytes were read, and which may hold so many bytes of content more
unfoldable pub string_step : ℕ → ℕ → List ℕ → Step
string_step left at [] = S.Bad at
string_step left at (b ∷ []) =
    if is_newline b then S.Bad at else (
    if is_quote b then S.Token K.Str (at + 1) else (
    if left == 0 then S.Bad at else S.Bad (at + 1)))
string_step left at (b ∷ c ∷ bytes) =
    if is_newline b then S.Bad at else (
    if is_quote b then S.Token K.Str (at + 1) else (
    if left == 0 then S.Bad at else (
    if is_backslash b
    then (if is_escaped c then string_step (left - 1) (at + 2) bytes else S.Bad (at + 1))
    else string_step (left - 1) (at + 1) (c ∷ bytes))))

-- a comment, of which the first `/` was read
abbrev pub slash_step : List ℕ → Step
slash_step [] = S.Bad 1
slash_step (b ∷ bytes) = if b == 47 then S.Skip (2 + comment_length bytes) else S.Bad 1

abbrev pub sign_or_fault : Option Sign → List ℕ → Step
sign_or_fault (Some sign) bytes = S.Token (K.Sign sign) (length (sign_text sign))
sign_or_fault None [] = S.Bad 0
sign_or_fault None (b ∷ bytes) = if b == 33 then S.Bad 1 else S.Bad 0

abbrev pub sign_step : List ℕ → Step
sign_step bytes = sign_or_fault (sign_at bytes) bytes

-- what stands at the front of bytes
abbrev pub step_at : List ℕ → Step
step_at [] = S.Bad 0
step_at (b ∷ bytes) =
    if is_quote b then string_step 256 1 bytes else (
    if b == 47 then slash_step bytes else (
    if is_blank b then S.Skip 1 else (
    if is_letter b then word_step (b ∷ bytes) else (
    if is_digit b then digit_step (b ∷ bytes) else sign_step (b ∷ bytes)))))

-- a step goes on, and not past the end
abbrev pub Moves : ℕ → Step → Type 0
Moves size (S.Token kind n) = (0 < n) × (n ≤ size)
Moves size (S.Skip n) = (0 < n) × (n ≤ size)
Moves size (S.Bad n) = n ≤ size

abbrev pub Cut : Type 0
Cut = Result (List Token) Place

abbrev pub with_first : Token → Cut → Cut
with_first token (Ok tokens) = Ok (token ∷ tokens)
with_first token (Err place) = Err place

-- what a step at some bytes gives, where `later k` cuts what is left once k more bytes behind the first were passed over
abbrev pub taken : Spot → List ℕ → Step → (ℕ → Cut) → Cut
taken at bytes (S.Token kind n) later = with_first (token_at kind n at) (later (n - 1))
taken at bytes (S.Skip n) later = later (n - 1)
taken at bytes (S.Bad n) later = Err (spot_after at (take n bytes)).place

-- the tokens of bytes, of which the first `skip` belong to what came before
unfoldable pub cut_at : ℕ → Spot → List ℕ → Cut
cut_at skip at [] = Ok []
cut_at (suc skip) at (b ∷ bytes) = cut_at skip (next_spot at b) bytes
cut_at zero at (b ∷ bytes) = taken at (b ∷ bytes) (step_at (b ∷ bytes)) (λ k. cut_at k (next_spot at b) bytes)

abbrev pub cut_of : List ℕ → Cut
cut_of source = cut_at 0 first_spot source

-- what was answered is what cutting gives, unless memory was wanting
abbrev pub Gives : Result (List Token) LexFault → Cut → Type 0
Gives (Ok tokens) cut = cut ≡ Ok tokens
Gives (Err F.Memory) cut = Unit {0}
Gives (Err (F.At place)) cut = cut ≡ Err place

-- how a text that can't be cut is refused
abbrev pub refused_as : FileKind → LexFault → Refused
refused_as file F.Memory = R.Memory
refused_as file (F.At place) =
    R.Refusal (record { file = file; place = Some place; name = LexFaultName; words = [] })
