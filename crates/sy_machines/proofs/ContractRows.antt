-- The rows of the contract, by the inputs that it has at a moment, are its conditions there.
use Rattle.std.proofs.Common.{◌≡◌, Bool, true, false, not, ◌&&◌, refl}
use Rattle.sy_words.specs.declared.kind.Kind.{Kind}
use Rattle.sy_words.specs.declared.kind.Kind.TheVariants.{Resumed, Suspended, Terminated, Completed}
use Rattle.sy_core.specs.declared.kind.Target.TheVariants as T
use Rattle.sy_core.specs.declared.state.StateOf.{StateOf}
use Rattle.sy_core.specs.declared.state.StateOf.TheVariants as S
use Rattle.sy_core.specs.declared.deed.Deed.{Deed}
use Rattle.sy_core.specs.Moments.{Moment}
use Rattle.sy_core.specs.States.{same_state}
use Rattle.sy_core.specs.Conditions.{contract_fires}
use Rattle.sy_machines.specs.declared.inputs.ContractInputs.{ContractInputs}
use Rattle.sy_machines.specs.Rows.{contract_row_fires}
use Rattle.sy_machines.specs.Given.{AreContractInputsOf, IsCompletionOf}

-- in effect, and nothing suspends it: in effect, and not suspended
in_effect : (was suspends terminates complete : Bool) → (was && not suspends && not terminates && complete) ≡ (was && not (was && suspends) && not terminates && complete)
in_effect true suspends terminates complete = refl
in_effect false suspends terminates complete = refl

-- row by row, field by field
pub contract_row_is_condition : (inputs : ContractInputs) (deed : Deed) (now : Moment) (state : StateOf) (kind : Kind) → AreContractInputsOf inputs deed now → state ≡ now.state T.Contract → (kind ≡ Completed → IsCompletionOf inputs deed now) → contract_row_fires state inputs kind ≡ contract_fires deed now kind
contract_row_is_condition inputs deed now state Resumed given state_is completion = cc
contract_row_is_condition inputs deed now state Suspended given state_is completion = cc
contract_row_is_condition inputs deed now state Terminated given state_is completion = given.terminates
contract_row_is_condition inputs deed now state Completed given state_is completion =
    let known = completion refl in
    cc (in_effect (same_state state S.InEffect) inputs.suspends inputs.terminates inputs.complete, known.complete, known.suspended, known.terminated)
contract_row_is_condition inputs deed now state kind given state_is completion = refl
