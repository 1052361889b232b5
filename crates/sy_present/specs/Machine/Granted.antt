-- The row of a position's event in two parts: what is kept of the position, and the verdicts that the row asks for.
use Rattle.std.specs.Prelude.{Bool, true, not, ◌&&◌, ◌||◌, List}
use Rattle.sy_base.specs.declared.time.TimeUnit.{TimeUnit}
use Rattle.sy_words.specs.declared.kind.Kind.{Kind}
use Rattle.sy_words.specs.declared.kind.Kind.TheVariants.{Exerted, Triggered, Activated, Resumed, Suspended, Fulfilled, Violated, Expired, Discharged, Terminated, Completed}
use Rattle.sy_core.specs.declared.state.StateOf.{StateOf}
use Rattle.sy_core.specs.declared.table.Verdict.{Verdict}
use Rattle.sy_core.specs.declared.table.Verdict.TheVariants.{True, False}
use Rattle.sy_core.specs.declared.position.Goal.{Goal}
use Rattle.sy_core.specs.declared.position.Position.{Position}
use Rattle.sy_core.specs.Moments.{Moment}
use Rattle.sy_core.specs.Propositions.{verdict_at, is_true, is_false}
use Rattle.sy_core.specs.Mentions.{has_holds}
use Rattle.sy_core.specs.Conditions.{acts_on_contract, duty_verdict}
use Rattle.sy_machines.specs.declared.inputs.Inputs.{Inputs}
use Rattle.sy_present.specs.declared.place.Place.{Place}

-- the verdict that the row asks for, if it asks for one
abbrev pub wanted : Kind → Verdict
wanted Exerted = True
wanted Triggered = True
wanted Activated = True
wanted Resumed = True
wanted Suspended = True
wanted Fulfilled = True
wanted Violated = False
wanted Expired = False
wanted Discharged = True
wanted Terminated = True
wanted Completed = True

-- the inputs of a position whose propositions have the verdicts that the row asks for, by the contract's state and whether a power ends it
abbrev pub granted : StateOf → Bool → Place → Goal → Kind → Inputs
granted contract ends place goal kind = record {
  trigger = wanted kind;
  antecedent = wanted kind;
  final_antecedent = true;
  consequent = wanted kind;
  asked = place.asked;
  contract = contract;
  on_contract = acts_on_contract goal;
  triggers = place.done.triggers;
  resumes = place.done.resumes;
  suspends = place.done.suspends;
  discharges = place.done.discharges;
  terminates = place.done.terminates;
  ends = ends;
  fired = place.fired;
}

-- the propositions of a position have the verdicts that the row asks for, or a power triggers it
abbrev pub grants : TimeUnit → Moment → List Moment → Position → Bool → Kind → Bool
grants unit now before p triggers Exerted = true
grants unit now before p triggers Triggered = triggers || is_true (verdict_at unit now before p.trigger)
grants unit now before p triggers Activated = is_true (verdict_at unit now before p.antecedent)
grants unit now before p triggers Resumed = true
grants unit now before p triggers Suspended = true
grants unit now before p triggers Fulfilled = is_true (duty_verdict unit now before p.goal)
grants unit now before p triggers Violated = is_false (duty_verdict unit now before p.goal)
grants unit now before p triggers Expired = is_false (verdict_at unit now before p.antecedent) && not (has_holds p.antecedent)
grants unit now before p triggers Discharged = true
grants unit now before p triggers Terminated = true
grants unit now before p triggers Completed = true
