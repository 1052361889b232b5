-- The signs, each with its text.
use Rattle.std.specs.Prelude.{ℕ, List, [], ◌∷◌, codes, ◌==◌, ◌&&◌, if◌then◌else◌, Option, Some, None}
use Rattle.sy_lex.specs.declared.sign.Sign.{Sign}
use Rattle.sy_lex.specs.declared.sign.Sign.TheVariants as S

abbrev pub sign_text : Sign → List ℕ
sign_text S.Colon = codes ":"
sign_text S.Semicolon = codes ";"
sign_text S.Comma = codes ","
sign_text S.Dot = codes "."
sign_text S.Open = codes "("
sign_text S.Close = codes ")"
sign_text S.OpenBracket = codes "["
sign_text S.CloseBracket = codes "]"
sign_text S.OpenBrace = codes "{"
sign_text S.CloseBrace = codes "}"
sign_text S.Assign = codes ":="
sign_text S.Arrow = codes "->"
sign_text S.Equal = codes "="
sign_text S.NotEqual = codes "!="
sign_text S.Less = codes "<"
sign_text S.AtMost = codes "<="
sign_text S.Greater = codes ">"
sign_text S.AtLeast = codes ">="
sign_text S.Plus = codes "+"
sign_text S.Minus = codes "-"
sign_text S.Times = codes "*"

-- the sign of one byte
abbrev pub sign_of_one : ℕ → Option Sign
sign_of_one b =
    if b == 58 then Some S.Colon else (
    if b == 59 then Some S.Semicolon else (
    if b == 44 then Some S.Comma else (
    if b == 46 then Some S.Dot else (
    if b == 40 then Some S.Open else (
    if b == 41 then Some S.Close else (
    if b == 91 then Some S.OpenBracket else (
    if b == 93 then Some S.CloseBracket else (
    if b == 123 then Some S.OpenBrace else (
    if b == 125 then Some S.CloseBrace else (
    if b == 61 then Some S.Equal else (
    if b == 60 then Some S.Less else (
    if b == 62 then Some S.Greater else (
    if b == 43 then Some S.Plus else (
    if b == 45 then Some S.Minus else (
    if b == 42 then Some S.Times else (
    None))))))))))))))))

-- the sign of two bytes
abbrev pub sign_of_two : ℕ → ℕ → Option Sign
sign_of_two a b =
    if (a == 58) && (b == 61) then Some S.Assign else (
    if (a == 45) && (b == 62) then Some S.Arrow else (
    if (a == 33) && (b == 61) then Some S.NotEqual else (
    if (a == 60) && (b == 61) then Some S.AtMost else (
    if (a == 62) && (b == 61) then Some S.AtLeast else (
    None)))))

abbrev pub first_of : Option Sign → Option Sign → Option Sign
first_of (Some sign) other = Some sign
first_of None other = other

-- the longest sign at the front
abbrev pub sign_at : List ℕ → Option Sign
sign_at [] = None
sign_at (a ∷ []) = sign_of_one a
sign_at (a ∷ b ∷ rest) = first_of (sign_of_two a b) (sign_of_one a)
