use Rattle.sy_typing.proofs.Kept.{kept_domain}
use Rattle.sy_typing.proofs.planned.Plan.ontology.Goals as goal

pub returns : goal.returns
returns c = kept_domain _ _ c.self.view_is _ _ c.ontology.ensures c.self.invariant.named
