-- Room for the numbers that say where bytes stand.
use Rattle.std.specs.Prelude.{ℕ, ◌+◌, ◌^◌, ◌<◌, ◌≤◌}
use Rattle.sy_lex.specs.declared.spot.Spot.{Spot}

-- so many bytes more end before the offset 2^32, and the line and column are no greater than the bytes before allow
pub record HasRoom (at : Spot) (n : ℕ) : Type 0 where
  pub offset : at.offset + n < 2 ^ 32
  pub line : at.place.line ≤ at.offset + 1
  pub column : at.place.column ≤ at.offset + 1
