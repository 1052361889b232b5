use Rattle.std.proofs.Common.{◌≡◌, ◌++◌, flat_map, take}
use Rattle.sy_types.specs.Attributes.{wrong_attribute}
use Rattle.sy_types.proofs.attributes.check_attributes.Given as goal

abbrev pub invariant-attribute : goal.invariant-attribute
invariant-attribute l = l.out ≡ l.initial.out ++ flat_map (wrong_attribute l.scope l.kind) (take l.attribute-index l.own)
