use Rattle.std.proofs.Common.{◌≡◌, [], fold, take}
use Rattle.sy_given.specs.Bound.{put_field}
use Rattle.sy_given.proofs.values.fields_known.Given as goal

abbrev pub invariant-field : goal.invariant-field
invariant-field l = l.values ≡ fold (put_field l.scope l.unit) [] (take l.field-index l.fields)
