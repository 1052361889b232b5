-- What spells a tree: its lexemes, by its rule, with none left behind them.
use Rattle.std.specs.Prelude.{List, []}
use Rattle.sy_spec.specs.declared.contract.SpecTree.{SpecTree}
use Rattle.sy_lex.specs.Lexemes.{Lexeme}
use Rattle.sy_spec.specs.Specifications.{spec}

-- these lexemes spell the specification
abbrev pub SpellsSpec : SpecTree → List Lexeme → Type 0
SpellsSpec tree lexemes = spec lexemes tree []
