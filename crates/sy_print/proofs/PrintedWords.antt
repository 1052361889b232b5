-- The words of a printed text: what each is, its text, and the byte behind it.
use Rattle.std.proofs.Common.{◌≡◌, ◌⊎◌, ℕ, List, [], ◌∷◌, ◌++◌}
use Rattle.sy_lex.specs.Forms.{HasForm}
use Rattle.sy_lex.specs.Lexemes.{Lexeme}
use Rattle.sy_lex.specs.declared.token.TokenKind.{TokenKind}

pub record Word : Type 0 where
  pub kind : TokenKind
  pub text : List ℕ
  pub behind : ℕ

-- the text of some words
abbrev pub bytes_of : List Word → List ℕ
bytes_of [] = []
bytes_of (w ∷ ws) = w.text ++ w.behind ∷ bytes_of ws

-- the words are tokens, with a blank or a newline behind each
abbrev pub AreWords : List Word → Type 0
AreWords [] = Unit {0}
AreWords (w ∷ ws) = HasForm w.kind w.text × ((w.behind ≡ 32) ⊎ (w.behind ≡ 10)) × AreWords ws

-- the lexemes are tokens
abbrev pub AreTokens : List Lexeme → Type 0
AreTokens [] = Unit {0}
AreTokens (l ∷ ls) = HasForm l.kind l.text × AreTokens ls

-- the lexemes have the kinds and texts of the words
abbrev pub Alike : List Lexeme → List Word → Type 0
Alike [] [] = Unit {0}
Alike [] (w ∷ ws) = ⊥
Alike (l ∷ ls) [] = ⊥
Alike (l ∷ ls) (w ∷ ws) = (l.kind ≡ w.kind) × (l.text ≡ w.text) × Alike ls ws
