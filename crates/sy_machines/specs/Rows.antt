-- The rows of the machines: each says by what is given at a point whether its event happens there.
-- A position has its form, its state at the start of the point and its inputs; the contract its state at the start and its inputs.
use Rattle.std.specs.Prelude.{Bool, false, not, ◌&&◌, ◌||◌}
use Rattle.sy_words.specs.declared.kind.Kind.{Kind}
use Rattle.sy_words.specs.declared.kind.Kind.TheVariants.{Exerted, Triggered, Activated, Resumed, Suspended, Fulfilled, Violated, Expired, Discharged, Terminated, Completed}
use Rattle.sy_words.specs.declared.form.Form.{Form}
use Rattle.sy_core.specs.declared.state.StateOf.{StateOf}
use Rattle.sy_core.specs.declared.state.StateOf.TheVariants as S
use Rattle.sy_core.specs.States.{same_state}
use Rattle.sy_core.specs.Propositions.{is_true, is_false}
use Rattle.sy_core.specs.Conditions.{is_power, is_obligation, survives}
use Rattle.sy_machines.specs.declared.fired.Fired.{Fired}
use Rattle.sy_machines.specs.declared.inputs.Inputs.{Inputs}
use Rattle.sy_machines.specs.declared.inputs.ContractInputs.{ContractInputs}

-- the contract is in effect, or the form doesn't heed it
abbrev pub is_live : Form → Inputs → Bool
is_live form inputs = survives form || same_state inputs.contract S.InEffect

-- the contract lets a power be exerted: it is in effect, or it is suspended and the power acts on it
abbrev pub allows_exertion : Inputs → Bool
allows_exertion inputs = same_state inputs.contract S.InEffect || (same_state inputs.contract S.Suspension && inputs.on_contract)

-- the position was created and hasn't come to its end, or is created here
abbrev pub is_alive : StateOf → Fired → Bool
is_alive state fired = same_state state S.Create || same_state state S.InEffect || same_state state S.Suspension || fired.triggered

-- the position was in effect, or comes into effect here
abbrev pub is_in_force : StateOf → Fired → Bool
is_in_force state fired = same_state state S.InEffect || fired.activated || fired.resumed

-- the position was created and waits for its antecedent, or is created here
abbrev pub is_created : StateOf → Fired → Bool
is_created state fired = same_state state S.Create || fired.triggered

-- a duty is in force, and nothing here suspends or ends it
abbrev pub remains_in_force : Form → StateOf → Inputs → Bool
remains_in_force form state inputs =
    is_live form inputs && is_in_force state inputs.fired && not inputs.fired.suspended && not inputs.fired.discharged && not inputs.fired.terminated

-- the events of a position, one equation a row
abbrev pub row_fires : Form → StateOf → Inputs → Kind → Bool
row_fires form state inputs Exerted = is_power form && inputs.asked && same_state state S.InEffect && allows_exertion inputs
row_fires form state inputs Triggered = is_live form inputs && same_state state S.Null && (is_true inputs.trigger || inputs.triggers)
row_fires form state inputs Activated = is_live form inputs && is_created state inputs.fired && is_true inputs.antecedent
row_fires form state inputs Resumed = same_state state S.Suspension && inputs.resumes
row_fires form state inputs Suspended = is_in_force state inputs.fired && inputs.suspends && not inputs.fired.exerted
row_fires form state inputs Fulfilled = is_obligation form && remains_in_force form state inputs && is_true inputs.consequent
row_fires form state inputs Violated = is_obligation form && remains_in_force form state inputs && is_false inputs.consequent
row_fires form state inputs Expired =
    is_live form inputs && is_created state inputs.fired && inputs.final_antecedent && is_false inputs.antecedent
row_fires form state inputs Discharged = is_obligation form && is_alive state inputs.fired && inputs.discharges
row_fires form state inputs Terminated =
    is_alive state inputs.fired && (inputs.terminates || (not (survives form) && inputs.ends)) && not inputs.fired.exerted
row_fires form state inputs Completed = false

-- the events of the contract, one equation a row
abbrev pub contract_row_fires : StateOf → ContractInputs → Kind → Bool
contract_row_fires state inputs Resumed = same_state state S.Suspension && inputs.resumes
contract_row_fires state inputs Suspended = same_state state S.InEffect && inputs.suspends
contract_row_fires state inputs Terminated = inputs.terminates
contract_row_fires state inputs Completed =
    same_state state S.InEffect && not inputs.suspends && not inputs.terminates && inputs.complete
contract_row_fires state inputs Exerted = false
contract_row_fires state inputs Triggered = false
contract_row_fires state inputs Activated = false
contract_row_fires state inputs Fulfilled = false
contract_row_fires state inputs Violated = false
contract_row_fires state inputs Expired = false
contract_row_fires state inputs Discharged = false
