use Rattle.std.proofs.Common.{◌∙◌}
use Rattle.sy_machines.proofs.PositionRows.{row_is_condition}
use Rattle.sy_machines.proofs.rows.fire.Goals as goal

pub returns-clause-condition : goal.returns-clause-condition
returns-clause-condition c = λ deed now before i p given form state.
    c.fires.ensures ∙ row_is_condition c.args.inputs.now deed now before i p c.args.form c.args.state c.args.kind given form state
