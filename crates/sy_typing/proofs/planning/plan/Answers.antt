use Rattle.sy_spec.specs.declared.contract.SpecTree.{SpecTree}
use Rattle.sy_domain.specs.Ontologies.{Domain}
use Rattle.sy_typing.proofs.FirstFault.{refuses_too}
use Rattle.sy_typing.proofs.planning.plan.Goals as goal

pub returns-in-Err-clause-fault : goal.returns-in-Err-clause-fault
returns-in-Err-clause-fault c = refuses_too Domain SpecTree c.args.tree c.in-Err.why c.in-Err.ensures.fault
