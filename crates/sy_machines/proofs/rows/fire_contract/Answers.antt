use Rattle.std.proofs.Common.{◌∙◌}
use Rattle.sy_machines.proofs.ContractRows.{contract_row_is_condition}
use Rattle.sy_machines.proofs.rows.fire_contract.Goals as goal

pub returns-clause-condition : goal.returns-clause-condition
returns-clause-condition c = λ deed now given state completion.
    c.contract_row.ensures ∙ contract_row_is_condition c.args.inputs.now deed now c.args.state c.args.kind given state completion
