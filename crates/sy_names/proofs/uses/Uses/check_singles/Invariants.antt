use Rattle.std.proofs.Common.{◌≡◌, ◌++◌, flat_map, take}
use Rattle.sy_names.specs.Paths.{unknown_in_single}
use Rattle.sy_names.proofs.uses.Uses.check_singles.Given as goal

abbrev pub invariant-single : goal.invariant-single
invariant-single l =
    l.out ≡ l.initial.out ++ flat_map (unknown_in_single l.self.scope.now l.self.visible) (take l.single-index l.singles)
