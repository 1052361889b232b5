use Rattle.std.proofs.Common.{◌≡◌, sym, ◌∙◌}
use Rattle.sy_typing.proofs.FirstFault.{of_text}
use Rattle.sy_typing.proofs.planning.with_types.Goals as goal

pub returns-in-Some-clause-fault : goal.returns-in-Some-clause-fault
returns-in-Some-clause-fault c = of_text c.args.tree c.in-Some.fault c.requires.domain (sym c.in-Some.is ∙ c.in_ok-fault.ensures)
