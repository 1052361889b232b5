-- That what is printed is read back.
use Rattle.std.specs.Prelude.{ℕ, List}
use Rattle.sy_lex.specs.declared.token.Token.{Token}
use Rattle.sy_lex.specs.Tokens.{HasText}
use Rattle.sy_spec.specs.declared.contract.SpecTree.{SpecTree}
use Rattle.sy_print.specs.Equality.{SameSpec}
use Rattle.sy_lex.specs.Lexemes.{lexemes_of}
use Rattle.sy_spec.specs.Spelling.{SpellsSpec}

-- the tokens of some text spell the tree
abbrev pub IsSpelled : SpecTree → Type 0
IsSpelled tree =
    (source : List ℕ) × (tokens : List Token) × HasText tokens source × SpellsSpec tree (lexemes_of source tokens)

-- the tokens of this text spell an equal tree
abbrev pub IsReadBack : SpecTree → List ℕ → Type 0
IsReadBack tree text =
    (tokens : List Token) × HasText tokens text
    × ((other : SpecTree) × SpellsSpec other (lexemes_of text tokens) × SameSpec other tree)
