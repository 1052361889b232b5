use Rattle.std.proofs.Common.{◌≡◌, ◌++◌, ◌∙◌, ap, subst}
use Rattle.std.specs.Prelude.{OnOk}
use Rattle.std.specs.List.{flat_map}
use Rattle.sy_core.specs.declared.kind.Target.TheVariants.{Contract}
use Rattle.sy_core.specs.Prerequisites.{exerts}
use Rattle.sy_order.specs.Machine.Powers.{exertion}
use Rattle.sy_order.proofs.Acting.{exertions_are}
use Rattle.sy_order.proofs.table.Table.push_contract_exerts.Goals as goal

pub returns : goal.returns
returns c =
    let e = ap (flat_map (exertion c.args.verb)) (c.items.ensures ∙ c.self.invariant.contract_powers_are)
    ∙ (exertions_are c.args.verb Contract 0 c.self.inside.deed.now.positions ∙ ap (λ deed. exerts deed c.args.verb Contract) c.self.view_is) in
    subst (λ l. OnOk c.push_exertions.result (c.push_exertions.new.nodes ≡ c.args.nodes.now ++ l)) e c.push_exertions.ensures
