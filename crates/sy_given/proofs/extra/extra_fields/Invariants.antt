use Rattle.std.proofs.Common.{◌≡◌, ◌++◌, flat_map, take}
use Rattle.sy_given.specs.BoundNames.{extra_field}
use Rattle.sy_given.proofs.extra.extra_fields.Given as goal

abbrev pub invariant-field : goal.invariant-field
invariant-field l = l.out ≡ l.initial.out ++ flat_map (extra_field l.scope l.sort) (take l.field-index l.fields)
