-- What spells a tree: its lexemes, by its rule, with none left behind them.
use Rattle.std.specs.Prelude.{List, []}
use Rattle.sy_binding.specs.declared.tree.BindTree.{BindTree}
use Rattle.sy_lex.specs.Lexemes.{Lexeme}
use Rattle.sy_binding.specs.Bindings.{binding}

-- these lexemes spell the binding
abbrev pub SpellsBinding : BindTree → List Lexeme → Type 0
SpellsBinding tree lexemes = binding lexemes tree []
