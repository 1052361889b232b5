-- When a table can be printed under a deed.
use Rattle.std.specs.Prelude.{◌≡◌, length, All}
use Rattle.sy_base.specs.Points.{IsDated}
use Rattle.sy_core.specs.declared.deed.Deed.{Deed}
use Rattle.sy_core.specs.declared.table.Table.{Table}

-- its points are dates, and it has a state for each position
pub record IsPrintable (deed : Deed) (table : Table) : Type 0 where
  pub at : IsDated deed.unit table.at
  pub states : length table.states ≡ length deed.positions
  pub violations : All (λ m. IsDated deed.unit m.point) table.violations
  pub voids : All (λ m. IsDated deed.unit m.point) table.voids
