use Rattle.sy_typing.specs.Outlines.{mentions}
use Rattle.sy_typing.proofs.Turns.{joined_turn}
use Rattle.sy_typing.proofs.mentions.+mentioning.Goals as goal

pub add_each-part-preserved : goal.add_each-part-preserved
add_each-part-preserved t c =
    joined_turn (mentions c.args.ontology.now.table c.args.contract.now) c.args.out.now c.args.parts.now c.part.part-index c.part-item.result
    c.part-test.true c.part-item.is c.part.out c.add_mentions.new.out c.part.invariant c.in_ok-add_mentions.ensures
