use Rattle.sy_types.specs.Declarations.{wrong_declaration}
use Rattle.sy_base.proofs.Numbered.{flat_map_turn}
use Rattle.sy_types.proofs.declarations.check_declarations.Goals as goal

pub declaration-preserved : goal.declaration-preserved
declaration-preserved c =
    flat_map_turn (wrong_declaration c.args.scope.now) c.args.out.now c.args.declared.now
    c.declaration.i c.index-declared-i.result c.declaration-test.true c.index-declared-i.is
    c.declaration.out c.check_declaration.new.out c.declaration.invariant c.in_ok-check_declaration.ensures
