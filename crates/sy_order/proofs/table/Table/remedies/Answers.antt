use Rattle.std.proofs.Common.{◌≡◌, [], ◌∙◌, sym, ap, subst, length, map, ◌<◌}
use Rattle.std.proofs.lemmas.List.{get_or_read}
use Rattle.sy_core.specs.declared.kind.Target.TheVariants.{Position}
use Rattle.sy_core.specs.declared.deed.Deed.{Deed}
use Rattle.sy_core.specs.Conditions.{remedies_of}
use Rattle.sy_order.proofs.Remedying.{given_are}
use Rattle.sy_order.proofs.table.Table.remedies.Goals as goal

pub returns : goal.returns
returns c =
    let remedies = c.self.invariant.remedies_are in
    let k = c.args.position in
    let lt = subst (λ (deed : Deed). k < length deed.positions) (sym c.self.view_is) c.requires in
    let read = get_or_read c.self.inside.remedies.items k c.index.result.now (subst (λ n. k < n) (sym remedies.lists_length) lt) c.index.ensures [] in
    c.items.ensures ∙ (read ∙ (remedies.lists_are k lt ∙ (given_are k 0 c.self.inside.deed.now.positions ∙ ap (λ deed. map (λ n. n.0) (remedies_of deed (Position k))) c.self.view_is)))
