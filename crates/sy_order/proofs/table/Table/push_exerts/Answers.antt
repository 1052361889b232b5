use Rattle.std.proofs.Common.{◌≡◌, ◌++◌, [], ◌∙◌, sym, ap, subst, length, ◌<◌}
use Rattle.std.specs.Prelude.{OnOk}
use Rattle.std.specs.List.{flat_map}
use Rattle.std.proofs.lemmas.List.{get_or_read}
use Rattle.sy_core.specs.declared.kind.Target.TheVariants.{Position}
use Rattle.sy_core.specs.declared.deed.Deed.{Deed}
use Rattle.sy_core.specs.Prerequisites.{exerts}
use Rattle.sy_order.specs.Machine.Powers.{exertion}
use Rattle.sy_order.proofs.Acting.{exertions_are}
use Rattle.sy_order.proofs.table.Table.push_exerts.Goals as goal

pub returns : goal.returns
returns c =
    let powers = c.self.invariant.powers_are in
    let k = c.args.position in
    let lt = subst (λ (deed : Deed). k < length deed.positions) (sym c.self.view_is) c.requires in
    let read = get_or_read c.self.inside.powers.items k c.index.result.now (subst (λ n. k < n) (sym powers.lists_length) lt) c.index.ensures [] in
    let e = ap (flat_map (exertion c.args.verb)) (c.items.ensures ∙ (read ∙ powers.lists_are k lt))
    ∙ (exertions_are c.args.verb (Position k) 0 c.self.inside.deed.now.positions ∙ ap (λ deed. exerts deed c.args.verb (Position k)) c.self.view_is) in
    subst (λ l. OnOk c.push_exertions.result (c.push_exertions.new.nodes ≡ c.args.nodes.now ++ l)) e c.push_exertions.ensures
