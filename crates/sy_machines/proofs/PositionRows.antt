-- The rows of a position, by the inputs that it has at a moment, are its conditions there.
use Rattle.std.proofs.Common.{◌≡◌, ℕ, List, refl}
use Rattle.sy_words.specs.declared.kind.Kind.{Kind}
use Rattle.sy_words.specs.declared.kind.Kind.TheVariants.{Exerted, Triggered, Activated, Resumed, Suspended, Fulfilled, Violated, Expired, Discharged, Terminated, Completed}
use Rattle.sy_words.specs.declared.form.Form.{Form}
use Rattle.sy_core.specs.declared.kind.Target.TheVariants as T
use Rattle.sy_core.specs.declared.state.StateOf.{StateOf}
use Rattle.sy_core.specs.declared.position.Position.{Position}
use Rattle.sy_core.specs.declared.deed.Deed.{Deed}
use Rattle.sy_core.specs.Moments.{Moment}
use Rattle.sy_core.specs.Conditions.{position_fires}
use Rattle.sy_machines.specs.declared.inputs.Inputs.{Inputs}
use Rattle.sy_machines.specs.Rows.{row_fires}
use Rattle.sy_machines.specs.Given.{AreInputsOf}

-- row by row, field by field
pub row_is_condition : (inputs : Inputs) (deed : Deed) (now : Moment) (before : List Moment) (i : ℕ) (p : Position) (form : Form) (state : StateOf) (kind : Kind) → AreInputsOf inputs deed now before i p → form ≡ p.form → state ≡ now.state (T.Position i) → row_fires form state inputs kind ≡ position_fires deed now before i p kind
row_is_condition inputs deed now before i p form state Exerted given form_is state_is = cc
row_is_condition inputs deed now before i p form state Triggered given form_is state_is = cc
row_is_condition inputs deed now before i p form state Activated given form_is state_is = cc (given.fired Triggered)
row_is_condition inputs deed now before i p form state Resumed given form_is state_is = cc
row_is_condition inputs deed now before i p form state Suspended given form_is state_is = cc (given.fired Activated, given.fired Resumed, given.fired Exerted)
row_is_condition inputs deed now before i p form state Fulfilled given form_is state_is = cc (given.fired Activated, given.fired Resumed, given.fired Suspended, given.fired Discharged, given.fired Terminated)
row_is_condition inputs deed now before i p form state Violated given form_is state_is = cc (given.fired Activated, given.fired Resumed, given.fired Suspended, given.fired Discharged, given.fired Terminated)
row_is_condition inputs deed now before i p form state Expired given form_is state_is = cc (given.fired Triggered)
row_is_condition inputs deed now before i p form state Discharged given form_is state_is = cc (given.fired Triggered)
row_is_condition inputs deed now before i p form state Terminated given form_is state_is = cc (given.fired Triggered, given.fired Exerted)
row_is_condition inputs deed now before i p form state Completed given form_is state_is = refl
