-- Tokens with their texts.
use Rattle.std.specs.Prelude.{ℕ, ◌-◌, List, take, drop, map}
use Rattle.sy_base.specs.declared.refusal.Place.{Place}
use Rattle.sy_lex.specs.declared.token.Token.{Token}
use Rattle.sy_lex.specs.declared.token.TokenKind.{TokenKind}
use Rattle.sy_lex.specs.declared.written.Written.{Written}

-- a token with its text
pub record Lexeme : Type 0 where
  pub kind : TokenKind
  pub text : List ℕ
  pub place : Place

-- the bytes of the source from one offset to before another
abbrev pub text_of : List ℕ → ℕ → ℕ → List ℕ
text_of source from to = take (to - from) (drop from source)

-- a token of a source
abbrev pub lexeme_of : List ℕ → Token → Lexeme
lexeme_of source token =
    record { kind = token.kind; text = text_of source token.from token.to; place = token.place }

-- the tokens of a source
abbrev pub lexemes_of : List ℕ → List Token → List Lexeme
lexemes_of source tokens = map (lexeme_of source) tokens

-- a token as a tree keeps it
abbrev pub written : Lexeme → Written
written lexeme = record { text = lexeme.text; place = lexeme.place }
