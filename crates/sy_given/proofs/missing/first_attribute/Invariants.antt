use Rattle.std.proofs.Common.{◌≡◌, None, flat_map, take}
use Rattle.sy_domain.specs.Failures.{first}
use Rattle.sy_given.specs.BoundNames.{missing_attribute}
use Rattle.sy_given.proofs.missing.first_attribute.Given as goal

abbrev pub invariant-attribute : goal.invariant-attribute
invariant-attribute l =
    first (flat_map (missing_attribute l.parameter l.fields) (take l.attribute-index l.attributes)) ≡ None
