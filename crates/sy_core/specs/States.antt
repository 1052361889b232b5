-- The kinds of internal event that each form has, the state that each gives, and inertia.
-- Where a target has internal events at a point, its state after it is the one that the last of them in the order of kinds gives. Where
-- it has none, its state stays.
use Rattle.std.specs.Prelude.{ℕ, Bool, ◌==◌, List, [], ◌∷◌, if◌then◌else◌}
use Rattle.sy_words.specs.declared.kind.Kind.{Kind}
use Rattle.sy_words.specs.declared.kind.Kind.TheVariants.{Exerted, Triggered, Activated, Resumed, Suspended, Fulfilled, Violated, Expired, Discharged, Terminated, Completed}
use Rattle.sy_words.specs.declared.form.Form.{Form}
use Rattle.sy_words.specs.declared.form.Form.TheVariants.{Obligation, Surviving, Power}
use Rattle.sy_core.specs.declared.state.StateOf.{StateOf}
use Rattle.sy_core.specs.declared.state.StateOf.TheVariants as S

-- states by number, to compare them
abbrev pub state_number : StateOf → ℕ
state_number S.Null = 0
state_number S.Create = 1
state_number S.InEffect = 2
state_number S.Suspension = 3
state_number S.Fulfillment = 4
state_number S.Violation = 5
state_number S.Discharge = 6
state_number S.SuccessfulTermination = 7
state_number S.UnsuccessfulTermination = 8
state_number S.Form = 9

-- two states are the same
abbrev pub same_state : StateOf → StateOf → Bool
same_state a b = state_number a == state_number b

-- the kinds of internal event of an obligation, in the order of kinds
abbrev pub obligation_kinds : List Kind
obligation_kinds = Triggered ∷ Activated ∷ Resumed ∷ Suspended ∷ Fulfilled ∷ Violated ∷ Expired ∷ Discharged ∷ Terminated ∷ []

-- the kinds of internal event of a position of a form, in the order of kinds
abbrev pub kinds_of : Form → List Kind
kinds_of Obligation = obligation_kinds
kinds_of Surviving = obligation_kinds
kinds_of Power = Exerted ∷ Triggered ∷ Activated ∷ Resumed ∷ Suspended ∷ Expired ∷ Terminated ∷ []

-- the kinds of internal event of the contract, in the order of kinds
abbrev pub contract_kinds : List Kind
contract_kinds = Resumed ∷ Suspended ∷ Terminated ∷ Completed ∷ []

-- an expired power has failed, and an expired obligation is discharged
abbrev pub expired_state : Form → StateOf
expired_state Obligation = S.Discharge
expired_state Surviving = S.Discharge
expired_state Power = S.UnsuccessfulTermination

-- the state that an event of each kind gives
abbrev pub state_by : Form → Kind → StateOf
state_by form Exerted = S.SuccessfulTermination
state_by form Triggered = S.Create
state_by form Activated = S.InEffect
state_by form Resumed = S.InEffect
state_by form Suspended = S.Suspension
state_by form Fulfilled = S.Fulfillment
state_by form Violated = S.Violation
state_by form Expired = expired_state form
state_by form Discharged = S.Discharge
state_by form Terminated = S.UnsuccessfulTermination
state_by form Completed = S.SuccessfulTermination

-- each kind that happened gives its state, in this order, so that the last one counts; with none the state stays
abbrev pub last_state : Form → List Kind → (Kind → Bool) → StateOf → StateOf
last_state form [] happened state = state
last_state form (kind ∷ later) happened state =
    last_state form later happened (if happened kind then state_by form kind else state)

-- a position's state after a point, by the kinds that happened to it there and its state before
abbrev pub state_after : Form → (Kind → Bool) → StateOf → StateOf
state_after form happened state = last_state form (kinds_of form) happened state

-- the contract's state after a point; the states that its kinds give are the same for every form
abbrev pub contract_after : (Kind → Bool) → StateOf → StateOf
contract_after happened state = last_state Obligation contract_kinds happened state
