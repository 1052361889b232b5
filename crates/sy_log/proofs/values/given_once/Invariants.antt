use Rattle.std.proofs.Common.{◌≡◌, length}
use Rattle.sy_log.specs.Values as values
use Rattle.sy_log.proofs.values.given_once.Given as goal

abbrev pub invariant-field : goal.invariant-field
invariant-field l = values.given_once l.name l.rest ≡ values.given_once l.name l.fields

abbrev pub decreases-field : goal.decreases-field
decreases-field l = length l.rest
