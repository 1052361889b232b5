use Rattle.std.proofs.Common.{[], ◌∷◌, arith}
use Rattle.std.specs.List.{flat_map}
use Rattle.std.proofs.lemmas.List.{length-append}
use Rattle.sy_core.specs.Conditions.{numbered}
use Rattle.sy_core.specs.Prerequisites.{Contract, nodes_of}
use Rattle.sy_typing.specs.Outlines.{outline}
use Rattle.sy_checks_tests.proofs.specifications.first_node.Goals as goal

pub node_text-requires : goal.node_text-requires
node_text-requires c =
    let deed = outline c.args.plan.now in
    omega (arith, length-append (flat_map (λ n. nodes_of n.1.form n.0) (numbered deed)) (Contract ∷ []))
