-- When the names of a deed can stand in a line.
use Rattle.std.specs.Prelude.{ℕ, List}
use Rattle.std.specs.List.{All}
use Rattle.sy_lex.specs.declared.token.TokenKind.TheVariants as S
use Rattle.sy_lex.specs.Forms.{HasForm}
use Rattle.sy_core.specs.declared.deed.Deed.{Deed}

-- a name of the language: it isn't reserved
abbrev pub IsName : List ℕ → Type 0
IsName = HasForm S.Word

-- the names of the events, of their attributes, of the constants and of the positions are names of the language
pub record HasWords (deed : Deed) : Type 0 where
  pub events : All (λ event. IsName event.name) deed.events
  pub attributes : All (λ event. All (λ attr. IsName attr.name) event.attrs) deed.events
  pub constants : All (λ choices. All IsName choices.names) deed.choices
  pub positions : All (λ p. IsName p.name) deed.positions
