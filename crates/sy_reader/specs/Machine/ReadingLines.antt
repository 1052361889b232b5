-- How lines are read, up to the next heading.
use Rattle.std.specs.Prelude.{Bool, false, not, List}
use Rattle.sy_lex.specs.declared.sign.Sign.TheVariants.{Semicolon}
use Rattle.sy_lex.specs.declared.token.TokenKind.{TokenKind}
use Rattle.sy_lex.specs.Lexemes.{Lexeme}
use Rattle.sy_reader.specs.Machine.Reading.{Reading, next_passes, many_at, before_at}

-- a line is next, and no heading of a part
abbrev pub has_line : (TokenKind → Bool) → List Lexeme → Bool
has_line is_heading = next_passes (λ kind. not (is_heading kind))

-- lines up to the next heading, each with its semicolon
abbrev pub ended_at : {A : Type 0} → (TokenKind → Bool) → Reading A → Reading (List A)
ended_at is_heading line = many_at (λ kind. not (is_heading kind)) (before_at line Semicolon)

-- a file without parts has no headings
abbrev pub no_heading : TokenKind → Bool
no_heading kind = false
