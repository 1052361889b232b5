-- What the definitions give at the point now, by the points that are kept.
use Rattle.std.specs.Prelude.{ℕ, Bool, List, map}
use Rattle.sy_words.specs.declared.kind.Kind.{Kind}
use Rattle.sy_core.specs.declared.table.Verdict.{Verdict}
use Rattle.sy_core.specs.declared.proposition.Prop.{Prop}
use Rattle.sy_core.specs.declared.proposition.Prop.TheOpen.{Prop-F}
use Rattle.sy_core.specs.declared.position.Position.{Position}
use Rattle.sy_core.specs.Moments.{Moment, up_to}
use Rattle.sy_core.specs.Propositions.{verdict_step, verdict_at}
use Rattle.sy_core.specs.Conditions.{contract_fires, position_fires}
use Rattle.sy_axioms.specs.declared.present.Present.{Present}
use Rattle.sy_axioms.specs.Machine.KeptMoments.{moment_of}

module _ (present : Present) where
  -- the moment now
  abbrev pub moment_now : Moment
  moment_now = moment_of present.moment.now

  -- the moments before now
  abbrev pub moments_before : List Moment
  moments_before = map moment_of present.before.now

  -- the moments up to now
  abbrev pub moments_to_now : List Moment
  moments_to_now = up_to moment_now moments_before

  -- the verdict of one proposition now, with the verdict of each part in its place
  abbrev pub step_now : Prop-F Verdict → Verdict
  step_now = verdict_step present.deed.now.unit moment_now moments_before

  -- the verdict of a proposition now
  abbrev pub verdict_now : Prop → Verdict
  verdict_now = verdict_at present.deed.now.unit moment_now moments_before

  -- the condition of an event of the contract now
  abbrev pub contract_fires_now : Kind → Bool
  contract_fires_now = contract_fires present.deed.now moment_now

  -- the condition of an event of position number i now
  abbrev pub fires_now : ℕ → Position → Kind → Bool
  fires_now = position_fires present.deed.now moment_now moments_before
