-- What objects in memory that never fail hold.
use Rattle.std.specs.Prelude.{ℕ, List, find, nat_eq}
use Rattle.std.specs.declared.option.Option.{Option}
use Rattle.std.specs.Option.{option_map}
use Rattle.std.specs.Cmp.Lexicographic.{pointwise}
use Rattle.sy_outside.specs.declared.sure.Named.{Named}

-- the bytes of the first file with this name
abbrev pub file_of : List Named → List ℕ → Option (List ℕ)
file_of files name = option_map (λ f. f.bytes) (find (λ f. pointwise nat_eq f.name name) files)

-- a source
pub record SureSourceState : Type 0 where
  -- the bytes that are left
  pub left : List ℕ
  -- the most that a read gives
  pub most : ℕ

-- a sink
pub record SureSinkState : Type 0 where
  -- the first of the bytes that were written
  pub kept : List ℕ
  -- the most that it keeps
  pub room : ℕ
