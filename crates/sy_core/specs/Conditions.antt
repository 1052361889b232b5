-- The condition of each internal event at a point: the event happens there exactly where it is true.
-- It reads the states at the start of the point, the happenings up to the point, the internal events before it and those assumed at it.
use Rattle.std.specs.Prelude.{ℕ, ◌+◌, Bool, true, false, not, ◌&&◌, ◌||◌, ◌==◌, List, [], ◌∷◌, ◌++◌, Option, Some, None, slice_get, length, filter, flat_map}
use Rattle.std.specs.List.{list_any, list_all, enumerate_from}
use Rattle.sy_base.specs.declared.time.TimeUnit.{TimeUnit}
use Rattle.sy_words.specs.declared.kind.Kind.{Kind}
use Rattle.sy_words.specs.declared.kind.Kind.TheVariants.{Exerted, Triggered, Activated, Resumed, Suspended, Fulfilled, Violated, Expired, Discharged, Terminated, Completed}
use Rattle.sy_core.specs.declared.kind.Target.{Target}
use Rattle.sy_core.specs.declared.kind.Target.TheVariants as T
use Rattle.sy_core.specs.declared.event.Ev.TheVariants.{Inner}
use Rattle.sy_core.specs.declared.state.StateOf.{StateOf}
use Rattle.sy_core.specs.declared.state.StateOf.TheVariants as S
use Rattle.sy_core.specs.declared.table.Verdict.{Verdict}
use Rattle.sy_core.specs.declared.table.Verdict.TheVariants.{Open}
use Rattle.sy_words.specs.declared.form.Form.{Form}
use Rattle.sy_words.specs.declared.form.Form.TheVariants.{Obligation, Surviving, Power}
use Rattle.sy_words.specs.declared.verb.Verb.{Verb}
use Rattle.sy_words.specs.declared.verb.Verb.TheVariants as Verbs
use Rattle.sy_core.specs.declared.position.Goal.{Goal}
use Rattle.sy_core.specs.declared.position.Goal.TheVariants as G
use Rattle.sy_core.specs.declared.position.Position.{Position}
use Rattle.sy_core.specs.declared.deed.Deed.{Deed}
use Rattle.sy_core.specs.Moments.{Moment}
use Rattle.sy_core.specs.States.{same_state, kinds_of, contract_kinds, state_after}
use Rattle.sy_core.specs.Propositions.{verdict_at, is_true, is_false}
use Rattle.sy_core.specs.Mentions.{InternalEvent, events_at, same_target, names_of, has_holds, is_violation_of}

-- verbs by number, to compare them
abbrev pub verb_number : Verb → ℕ
verb_number Verbs.Suspends = 0
verb_number Verbs.Resumes = 1
verb_number Verbs.Discharges = 2
verb_number Verbs.Terminates = 3
verb_number Verbs.Triggers = 4

-- the goal is the act that does this to that target
abbrev pub is_act : Verb → Target → Goal → Bool
is_act verb target (G.Act act) = (verb_number act.verb == verb_number verb) && same_target act.target target
is_act verb target (G.Duty consequent) = false

-- the goal is an act on the contract
abbrev pub acts_on_contract : Goal → Bool
acts_on_contract (G.Act act) = same_target act.target T.Contract
acts_on_contract (G.Duty consequent) = false

-- the form is that of a power
abbrev pub is_power : Form → Bool
is_power Obligation = false
is_power Surviving = false
is_power Power = true

-- the form is that of an obligation, surviving or not
abbrev pub is_obligation : Form → Bool
is_obligation Obligation = true
is_obligation Surviving = true
is_obligation Power = false

-- the form is that of a surviving obligation
abbrev pub survives : Form → Bool
survives Obligation = false
survives Surviving = true
survives Power = false

-- the form is that of an obligation that doesn't survive: these the contract's completion waits for
abbrev pub is_awaited : Form → Bool
is_awaited Obligation = true
is_awaited Surviving = false
is_awaited Power = false

-- a remedy of an obligation is an obligation whose trigger names its violation, anywhere in it
abbrev pub is_remedy : Target → Position → Bool
is_remedy violated p = is_obligation p.form && list_any (is_violation_of violated) (names_of p.trigger)

-- an obligation in this state is settled: not begun, fulfilled, discharged, or violated and remedied
abbrev pub is_settled : StateOf → Bool → Bool
is_settled S.Null remedied = true
is_settled S.Create remedied = false
is_settled S.InEffect remedied = false
is_settled S.Suspension remedied = false
is_settled S.Fulfillment remedied = true
is_settled S.Violation remedied = remedied
is_settled S.Discharge remedied = true
is_settled S.SuccessfulTermination remedied = false
is_settled S.UnsuccessfulTermination remedied = false
is_settled S.Form remedied = false

-- the verdict of what a position demands; a power demands nothing, so that it stays Open
abbrev pub duty_verdict : TimeUnit → Moment → List Moment → Goal → Verdict
duty_verdict unit now before (G.Duty consequent) = verdict_at unit now before consequent
duty_verdict unit now before (G.Act act) = Open

module _ (deed : Deed) where
  -- the positions, each behind its number
  abbrev pub numbered : List (ℕ × Position)
  numbered = enumerate_from 0 deed.positions

  -- the powers that do this to that target
  abbrev pub powers_to : Verb → Target → List (ℕ × Position)
  powers_to verb target = filter (λ n. is_act verb target n.1.goal) numbered

  -- the remedies of an obligation
  abbrev pub remedies_of : Target → List (ℕ × Position)
  remedies_of violated = filter (λ n. is_remedy violated n.1) numbered

  -- the obligations that the contract's completion waits for
  abbrev pub awaited : List (ℕ × Position)
  awaited = filter (λ n. is_awaited n.1.form) numbered

-- by the moment now alone
module _ (now : Moment) where
  -- an internal event happens at this point
  abbrev pub happened : Kind → Target → Bool
  happened kind target = now.seen (Inner kind target)

  -- the target was in a state at the start of this point
  abbrev pub was : Target → StateOf → Bool
  was target state = same_state (now.state target) state

  -- the contract is in effect, or the form doesn't heed it
  abbrev pub live : Form → Bool
  live form = survives form || was T.Contract S.InEffect

  -- the position was created and hasn't come to its end, or is created here
  abbrev pub alive : Target → Bool
  alive x = was x S.Create || was x S.InEffect || was x S.Suspension || happened Triggered x

  -- the position was in effect, or comes into effect here
  abbrev pub in_force : Target → Bool
  in_force x = was x S.InEffect || happened Activated x || happened Resumed x

  -- the position was created and waits for its antecedent, or is created here
  abbrev pub is_created : Target → Bool
  is_created x = was x S.Create || happened Triggered x

  -- a duty is in force, and nothing here suspends or ends it
  abbrev pub remains_in_force : Target → Form → Bool
  remains_in_force x form = live form && in_force x && not (happened Suspended x) && not (happened Discharged x) && not (happened Terminated x)

  -- the state of position number i after this point
  abbrev pub next_state : ℕ → Position → StateOf
  next_state i p = state_after p.form (λ kind. happened kind (T.Position i)) (now.state (T.Position i))

module _ (deed : Deed) (now : Moment) where
  -- some power that does this to that target is exerted at this point
  abbrev pub by : Verb → Target → Bool
  by verb target = list_any (λ n. happened now Exerted (T.Position n.0)) (powers_to deed verb target)

  -- some remedy of the obligation is fulfilled after this point
  abbrev pub is_remedied : Target → Bool
  is_remedied violated = list_any (λ n. same_state (next_state now n.0 n.1) S.Fulfillment) (remedies_of deed violated)

  -- every awaited obligation is settled after this point
  abbrev pub all_settled : Bool
  all_settled = list_all (λ n. is_settled (next_state now n.0 n.1) (is_remedied (T.Position n.0))) (awaited deed)

  -- some awaited obligation has begun after this point
  abbrev pub any_begun : Bool
  any_begun = list_any (λ n. not (same_state (next_state now n.0 n.1) S.Null)) (awaited deed)

  -- the contract comes to its good end after this point
  abbrev pub is_complete : Bool
  is_complete = all_settled && any_begun

  -- the contract's events, one equation a row
  abbrev pub contract_fires : Kind → Bool
  contract_fires Exerted = false
  contract_fires Triggered = false
  contract_fires Activated = false
  contract_fires Resumed = was now T.Contract S.Suspension && by Verbs.Resumes T.Contract
  contract_fires Suspended = was now T.Contract S.InEffect && by Verbs.Suspends T.Contract
  contract_fires Fulfilled = false
  contract_fires Violated = false
  contract_fires Expired = false
  contract_fires Discharged = false
  contract_fires Terminated = by Verbs.Terminates T.Contract
  contract_fires Completed =
      was now T.Contract S.InEffect && not (happened now Suspended T.Contract) && not (happened now Terminated T.Contract) && is_complete

  -- the events of position number i, one equation a row; before are the moments before now
  module _ (before : List Moment) (i : ℕ) (p : Position) where
    abbrev pub position_fires : Kind → Bool
    position_fires Exerted =
        is_power p.form && now.asked i && was now (T.Position i) S.InEffect
        && (was now T.Contract S.InEffect || (was now T.Contract S.Suspension && acts_on_contract p.goal))
    position_fires Triggered =
        live now p.form && was now (T.Position i) S.Null
        && (is_true (verdict_at deed.unit now before p.trigger) || by Verbs.Triggers (T.Position i))
    position_fires Activated =
        live now p.form && is_created now (T.Position i) && is_true (verdict_at deed.unit now before p.antecedent)
    position_fires Resumed = was now (T.Position i) S.Suspension && by Verbs.Resumes (T.Position i)
    position_fires Suspended =
        in_force now (T.Position i) && by Verbs.Suspends (T.Position i) && not (happened now Exerted (T.Position i))
    position_fires Fulfilled =
        is_obligation p.form && remains_in_force now (T.Position i) p.form && is_true (duty_verdict deed.unit now before p.goal)
    position_fires Violated =
        is_obligation p.form && remains_in_force now (T.Position i) p.form && is_false (duty_verdict deed.unit now before p.goal)
    position_fires Expired =
        live now p.form && is_created now (T.Position i)
        && not (has_holds p.antecedent) && is_false (verdict_at deed.unit now before p.antecedent)
    position_fires Discharged = is_obligation p.form && alive now (T.Position i) && by Verbs.Discharges (T.Position i)
    position_fires Terminated =
        alive now (T.Position i)
        && (by Verbs.Terminates (T.Position i) || (not (survives p.form) && by Verbs.Terminates T.Contract))
        && not (happened now Exerted (T.Position i))
    position_fires Completed = false

-- nothing happens to a position that isn't there
abbrev pub fires_of : Deed → Moment → List Moment → ℕ → Option Position → Kind → Bool
fires_of deed now before i None kind = false
fires_of deed now before i (Some p) kind = position_fires deed now before i p kind

-- the condition of an internal event now, after the moments before
abbrev pub fires : Deed → Moment → List Moment → Kind → Target → Bool
fires deed now before kind T.Contract = contract_fires deed now kind
fires deed now before kind (T.Position i) = fires_of deed now before i (slice_get deed.positions i) kind

-- how many internal events the contract and some positions have
abbrev pub count_events : List Position → ℕ
count_events [] = length contract_kinds
count_events (p ∷ ps) = length (kinds_of p.form) + count_events ps

-- the internal events of a position, behind its number
abbrev pub events_of_position : ℕ × Position → List InternalEvent
events_of_position n = events_at (kinds_of n.1.form) (T.Position n.0)

-- the internal events of a deed: those of the positions in their order, then those of the contract
abbrev pub events_of : Deed → List InternalEvent
events_of deed = flat_map events_of_position (numbered deed) ++ events_at contract_kinds T.Contract
