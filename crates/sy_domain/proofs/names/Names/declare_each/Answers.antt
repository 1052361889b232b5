use Rattle.std.proofs.Common.{◌≡◌, sym, ◌∙◌, ap}
use Rattle.sy_domain.specs.Names.{declare, named, meaning_at}
use Rattle.sy_base.proofs.Numbered.{fold_map_turn}
use Rattle.sy_domain.proofs.names.Names.declare_each.Goals as goal

pub thing-preserved : goal.thing-preserved
thing-preserved g c =
    fold_map_turn declare (λ p. named (g.T.HasName.own_name p.1) (meaning_at c.args.slot p.0))
    c.args.self.now c.args.things.now c.thing.i c.index-things-i.result c.thing-test.true c.index-things-i.is
    c.thing.self c.declare.new.self (named c.name.result.now c.meaning.result)
    c.thing.invariant
    (ap (λ n. named n c.meaning.result) c.name.ensures
    ∙ ap (named (g.T.HasName.own_name c.index-things-i.result)) c.meaning.ensures)
    c.in_ok-declare.ensures
