use Rattle.sy_names.specs.Declarations.{unknown_in_declaration}
use Rattle.sy_base.proofs.Numbered.{flat_map_turn}
use Rattle.sy_names.proofs.declarations.check_declarations.Goals as goal

pub declaration-preserved : goal.declaration-preserved
declaration-preserved c =
    flat_map_turn (unknown_in_declaration c.args.scope.now) c.args.out.now c.args.declarations.now
    c.declaration.i c.index-declarations-i.result c.declaration-test.true c.index-declarations-i.is
    c.declaration.out c.check_declaration.new.out c.declaration.invariant c.in_ok-check_declaration.ensures
