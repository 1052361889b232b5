-- When what is kept of a deed stands for a narrative: it keeps what the narrative makes of the deed up to a point.
use Rattle.std.specs.Prelude.{◌≡◌, ℕ, zero, suc, ◌<◌, ◌^◌, ℤ, Bool, false, List, map, length, Option, Some, None, slice_get}
use Rattle.sy_words.specs.declared.kind.Kind.{Kind}
use Rattle.sy_words.specs.declared.kind.Kind.TheVariants.{Exerted, Violated}
use Rattle.sy_core.specs.declared.kind.Target.{Target}
use Rattle.sy_core.specs.declared.kind.Target.TheVariants as T
use Rattle.sy_core.specs.declared.event.Ev.TheVariants.{Inner}
use Rattle.sy_core.specs.declared.position.Position.{Position}
use Rattle.sy_core.specs.declared.proposition.Prop.{Prop}
use Rattle.sy_core.specs.declared.deed.Deed.{Deed}
use Rattle.sy_core.specs.declared.happening.Happening.{Happening}
use Rattle.sy_core.specs.Moments.{first_point}
use Rattle.sy_core.specs.Propositions.{verdict_at}
use Rattle.sy_core.specs.Chronicle.{chronicle, state_at, moment_at}
use Rattle.sy_core.specs.Prerequisites.{nodes_in_order}
use Rattle.sy_machines.specs.Fired.{has}
use Rattle.sy_order.specs.Nodes.{as_defined}
use Rattle.sy_quiet.specs.Histories.{History, passing, history_at}
use Rattle.sy_quiet.specs.KnownWakes.{is_eventful}
use Rattle.sy_prop.specs.declared.latches.Latches.{Latches}
use Rattle.sy_prop.specs.Standing.{present_point, IsMadeFor as LatchesMade, StandsFor as LatchesStand}
use Rattle.sy_present.specs.declared.place.Place.{Place}
use Rattle.sy_present.specs.declared.present.Present.{Present}
use Rattle.sy_present.specs.Machine.Counts.{AreActing}

-- the point that was evaluated last, or start
abbrev pub last_point : Present → ℤ
last_point present = present_point present.latches

-- it was made for the deed
pub record IsMadeFor (present : Present) (deed : Deed) : Type 0 where
  pub latches : LatchesMade present.latches deed
  pub few : length deed.positions < 2 ^ 32
  pub forms : map (λ (place : Place). place.form) present.places.items ≡ map (λ (p : Position). p.form) deed.positions
  pub order : map as_defined present.order.items ≡ nodes_in_order deed
  pub acting : AreActing present.acting deed (nodes_in_order deed)

-- by the history each postcondition has the verdict of the point before the n-th
abbrev pub HasVerdicts : Deed → List Happening → History → ℕ → Type 0
HasVerdicts deed narrative h zero = Unit {0}
HasVerdicts deed narrative h (suc n) =
    (i : ℕ) (post : Prop) → slice_get deed.posts i ≡ Some post
    → verdict_at deed.unit h.now h.before post ≡ verdict_at deed.unit (moment_at deed narrative n) (chronicle deed narrative n) post

-- the latches stand at the point that was evaluated last, which lies so many points behind the n-th
pub record AreTold (latches : Latches) (deed : Deed) (narrative : List Happening) (n : ℕ) : Type 0 where
  pub history : History
  pub stand : LatchesStand latches deed history
  pub behind : ℕ
  pub reach : passing behind history ≡ history_at deed narrative n
  pub verdicts : HasVerdicts deed narrative history n

-- the place is that of position number i at the start of the n-th point
pub record IsKeptAt (place : Place) (deed : Deed) (narrative : List Happening) (n i : ℕ) : Type 0 where
  pub state : place.state ≡ state_at deed narrative n (T.Position i)
  pub violated : place.violated ≡ first_point (Inner Violated (T.Position i)) (chronicle deed narrative n)
  pub exerted : place.exerted ≡ first_point (Inner Exerted (T.Position i)) (chronicle deed narrative n)

-- it keeps what the narrative makes of the deed up to the start of the n-th point after start
pub record StandsFor (present : Present) (deed : Deed) (narrative : List Happening) (n : ℕ) : Type 0 where
  pub contract : present.contract ≡ state_at deed narrative n T.Contract
  pub places : (i : ℕ) (place : Place) → slice_get present.places.items i ≡ Some place → IsKeptAt place deed narrative n i
  pub told : AreTold present.latches deed narrative n

-- an internal event of the position that is there happened at the point that was evaluated last
abbrev pub has_at : Option Place → Kind → Bool
has_at None kind = false
has_at (Some place) kind = has place.fired kind

-- an internal event of a target happened at the point that was evaluated last
abbrev pub has_fired : Present → Kind → Target → Bool
has_fired present kind T.Contract = has present.contract_fired kind
has_fired present kind (T.Position i) = has_at (slice_get present.places.items i) kind

-- the n-th point was evaluated: it stands for the start of the next, and says what happened
pub record IsEvaluated (present : Present) (answer : Bool) (deed : Deed) (narrative : List Happening) (n : ℕ) : Type 0 where
  pub stands : StandsFor present deed narrative (suc n)
  pub eventful : answer ≡ is_eventful deed narrative n
  pub happened : (kind : Kind) (i : ℕ) (p : Position) → slice_get deed.positions i ≡ Some p
      → has_fired present kind (T.Position i) ≡ (moment_at deed narrative n).seen (Inner kind (T.Position i))
