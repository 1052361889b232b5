use Rattle.std.proofs.Common.{◌≡◌, ◌<◌, Some, length, sym, ap, ◌∙◌, subst}
use Rattle.std.specs.Prelude.{IfOk, option_map}
use Rattle.std.specs.List.{slice_get}
use Rattle.sy_core.specs.declared.deed.Deed.{Deed}
use Rattle.sy_core.specs.NodeTexts.{node_text}
use Rattle.sy_core.specs.Prerequisites.{nodes}
use Rattle.sy_typing.specs.Outlines.{outline}
use Rattle.sy_typing.proofs.planned.Plan.node_text.Goals as goal

pub node_text-requires-clause-there : goal.node_text-requires-clause-there
node_text-requires-clause-there c =
    subst (λ (deed : Deed). c.args.node < length (nodes deed))
    (sym (c.self.invariant.outlined ∙ ap outline c.self.view_is)) c.requires

pub returns : goal.returns
returns c =
    subst
    (λ (deed : Deed). IfOk c.node_text.result (λ text. Some text ≡ option_map (node_text deed) (slice_get (nodes deed) c.args.node)))
    (c.self.invariant.outlined ∙ ap outline c.self.view_is) c.node_text.ensures
