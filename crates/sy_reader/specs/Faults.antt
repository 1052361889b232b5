-- How tokens that spell no tree are refused.
use Rattle.std.specs.Prelude.{◌≡◌, ◌+◌, ◌<◌, ◌≤◌, ℕ, List, [], ◌∷◌, ◌++◌, length, take, drop, Some, Result, Ok, Err}
use Rattle.sy_base.specs.declared.refusal.FileKind.{FileKind}
use Rattle.sy_base.specs.declared.refusal.Refusal.{Refusal}
use Rattle.sy_base.specs.declared.refusal.FaultName.TheVariants.{SyntaxFault}
use Rattle.sy_base.specs.declared.refusal.Refused.{Refused}
use Rattle.sy_base.specs.declared.refusal.Refused.TheVariants as R
use Rattle.sy_lex.specs.declared.token.Token.{Token}
use Rattle.sy_lex.specs.Tokens.{end_of}
use Rattle.sy_lex.specs.Lexemes.{Lexeme, lexemes_of, text_of}

-- a refusal for syntax at the first of these tokens, with its text, or at the end, without words
abbrev pub syntax_fault : FileKind → List ℕ → List Token → Refusal
syntax_fault file source [] = record { file = file; place = Some (end_of source); name = SyntaxFault; words = [] }
syntax_fault file source (token ∷ tokens) =
    record { file = file; place = Some token.place; name = SyntaxFault; words = text_of source token.from token.to }

-- some file begins with these lexemes: with more of them they spell a tree
pub record Begins {A : Type 0} (spells : A → List Lexeme → Type 0) (lexemes : List Lexeme) : Type 0 where
  pub more : List Lexeme
  pub tree : A
  pub is : spells tree (lexemes ++ more)

-- the lexemes spell no tree, and so many stand before the first one after which those so far begin no file, or before the end
pub record IsFaultAt {A : Type 0} (spells : A → List Lexeme → Type 0) (lexemes : List Lexeme) (n : ℕ) : Type 0 where
  pub within : n ≤ length lexemes
  pub none : (tree : A) → spells tree lexemes → ⊥
  pub begins : Begins spells (take n lexemes)
  pub stops : n < length lexemes → Begins spells (take (n + 1) lexemes) → ⊥

-- the refusal stands at the first token after which those so far begin no file, with its text, or at the end of the text, without words
abbrev pub IsSyntaxFault : {A : Type 0} → FileKind → (A → List Lexeme → Type 0) → List ℕ → List Token → Refused → Type 0
IsSyntaxFault file spells source tokens R.Memory = Unit {0}
IsSyntaxFault file spells source tokens (R.Refusal refusal) =
    (n : ℕ) × IsFaultAt spells (lexemes_of source tokens) n × (refusal ≡ syntax_fault file source (drop n tokens))

-- what is answered where the tokens spell this tree: the tree, or want of memory
abbrev pub IsReadAs : {A : Type 0} → Result A Refused → A → Type 0
IsReadAs (Ok found) tree = found ≡ tree
IsReadAs (Err R.Memory) tree = Unit {0}
IsReadAs (Err (R.Refusal refusal)) tree = ⊥
