use Rattle.std.proofs.Common.{◌≡◌, ◌++◌, flat_map, take}
use Rattle.sy_given.specs.BoundTypes.{wrong_field}
use Rattle.sy_given.proofs.wrong.check_fields.Given as goal

abbrev pub invariant-field : goal.invariant-field
invariant-field l = l.out ≡ l.initial.out ++ flat_map (wrong_field l.scope l.sort) (take l.field-index l.fields)
