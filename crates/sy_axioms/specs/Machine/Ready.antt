-- When a point can be evaluated, with the points before it.
use Rattle.std.specs.Prelude.{◌^◌, ◌<◌, List, length}
use Rattle.std.specs.List.{All}
use Rattle.sy_base.specs.Points.{IsDated}
use Rattle.sy_core.specs.declared.deed.Deed.{Deed}
use Rattle.sy_core.specs.Soundness.{HasSoundParts}
use Rattle.sy_axioms.specs.declared.moment.Moment.{Moment as KeptMoment}

-- the deed has fewer than 2^32 positions, its parts are sound, and every point is one of a date in its unit
pub record IsReady (deed : Deed) (before : List KeptMoment) (now : KeptMoment) : Type 0 where
  pub few : length deed.positions < 2 ^ 32
  pub sound : HasSoundParts deed
  pub before_dated : All (λ kept. IsDated deed.unit kept.point) before
  pub now_dated : IsDated deed.unit now.point
