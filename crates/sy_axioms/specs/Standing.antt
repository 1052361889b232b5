-- What a plain evaluator stands for.
use Rattle.std.specs.Prelude.{◌≡◌, ℕ, ℤ, pos, ◌+ℤ◌, List, map}
use Rattle.std.specs.List.{All}
use Rattle.sy_base.specs.Points.{IsDated}
use Rattle.sy_core.specs.declared.kind.Target.TheVariants as T
use Rattle.sy_core.specs.declared.deed.Deed.{Deed}
use Rattle.sy_core.specs.declared.happening.Happening.{Happening}
use Rattle.sy_core.specs.Chronicle.{chronicle, state_at}
use Rattle.sy_core.specs.Tables.{states_of}
use Rattle.sy_axioms.specs.declared.plain.Plain.{Plain}
use Rattle.sy_axioms.specs.Machine.KeptMoments.{moment_of}

-- the point that it evaluates next
abbrev pub next_point : Plain → ℤ
next_point plain = plain.point

-- the points that it keeps are dates in the deed's unit
abbrev pub HasDatedPoints : Plain → Deed → Type 0
HasDatedPoints plain deed = All (λ kept. IsDated deed.unit kept.point) plain.moments

-- it keeps what the narrative makes of the deed up to the start of the n-th point after start
pub record StandsFor (plain : Plain) (deed : Deed) (narrative : List Happening) (n : ℕ) : Type 0 where
  pub at_point : plain.point ≡ deed.start +ℤ pos n
  pub kept : map moment_of plain.moments ≡ chronicle deed narrative n
  pub contract : plain.states.contract ≡ state_at deed narrative n T.Contract
  pub positions : plain.states.positions ≡ states_of (state_at deed narrative n) 0 deed.positions
