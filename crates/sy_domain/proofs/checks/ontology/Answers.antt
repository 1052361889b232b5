use Rattle.std.proofs.Common.{◌≡◌, sym, ◌∙◌}
use Rattle.sy_domain.proofs.Ended.{no_cycle}
use Rattle.sy_domain.proofs.checks.ontology.Goals as goal

pub of-requires-clause-none : goal.of-requires-clause-none
of-requires-clause-none c = no_cycle c.args.tree.now (sym c.in_ok-fault.ensures ∙ c.in-None.is)
