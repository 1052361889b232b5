use Rattle.std.proofs.Common.{◌≡◌, ◌++◌, flat_map, map, take}
use Rattle.sy_given.proofs.literals.check_fields.Given as goal

abbrev pub invariant-field : goal.invariant-field
invariant-field g l =
    l.out ≡ l.initial.out ++ flat_map (g.C.ValueCheck.fails l.check) (map (λ f. f.value) (take l.field-index l.fields))
