use Rattle.std.proofs.Common.{◌≡◌, ◌++◌, ◌∙◌, ap, map}
use Rattle.sy_core.specs.declared.kind.Target.TheVariants.{Contract}
use Rattle.sy_core.specs.Prerequisites.{Exert, exerts_on_contract}
use Rattle.sy_order.specs.declared.power.Power.{Power}
use Rattle.sy_order.proofs.Acting.{all_exertions_are}
use Rattle.sy_order.proofs.Parts.{all_mapped}
use Rattle.sy_order.proofs.table.Table.push_all_contract_exerts.Goals as goal

pub returns : goal.returns
returns c =
    all_mapped (λ (power : Power). Exert power.number) c.items-power-items.result.now c.loop-power.power-index c.loop-power.nodes _ c.loop-power-test.false c.loop-power.invariant
    ∙ ap (λ l. c.args.nodes.now ++ l)
    (ap (map (λ (power : Power). Exert power.number)) (c.items-power-items.ensures ∙ c.self.invariant.contract_powers_are)
    ∙ (all_exertions_are 0 c.self.inside.deed.now.positions ∙ ap exerts_on_contract c.self.view_is))
