use Rattle.std.proofs.Common.{◌≡◌, map, take}
use Rattle.sy_events.proofs.enumerations.names_of.Given as goal

abbrev pub invariant-constant : goal.invariant-constant
invariant-constant l = l.names ≡ map (λ c. c.text) (take l.constant-index l.constants)
