use Rattle.std.proofs.Common.{◌≡◌, ap, ◌∙◌}
use Rattle.sy_core.specs.Prerequisites.{order_of}
use Rattle.sy_typing.proofs.Outlined.{cyclic, named_so, unrefused}
use Rattle.sy_typing.proofs.planning.evaluated.Goals as goal

pub refused_cycle-requires-clause-named : goal.refused_cycle-requires-clause-named
refused_cycle-requires-clause-named c =
    c.items.ensures ∙ named_so c.args.tree.now c.args.outline.now c.requires.outlined _ _ c.in-Err-Cycle.field-0-is c.in-Err-Cycle.ensures.cycle

pub refused_cycle-requires-clause-cyclic : goal.refused_cycle-requires-clause-cyclic
refused_cycle-requires-clause-cyclic c = cyclic c.args.tree.now c.args.outline.now c.requires.outlined _ _ c.in-Err-Cycle.field-0-is c.in-Err-Cycle.ensures.cycle

pub returns-in-Ok-clause-fault : goal.returns-in-Ok-clause-fault
returns-in-Ok-clause-fault c = unrefused c.args.tree.now c.args.outline.now c.requires.outlined c.in-Ok.ensures.acyclic

pub returns-in-Ok-clause-listed : goal.returns-in-Ok-clause-listed
returns-in-Ok-clause-listed c = c.in-Ok.ensures.listed ∙ ap order_of c.requires.outlined

pub returns-in_ok-refusal-in-Err-Cycle-clause-fault : goal.returns-in_ok-refusal-in-Err-Cycle-clause-fault
returns-in_ok-refusal-in-Err-Cycle-clause-fault c = c.in_ok-refusal-in-Err-Cycle.ensures
