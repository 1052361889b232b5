use Rattle.std.proofs.Common.{◌≡◌, [], fold, take}
use Rattle.sy_terms.specs.Environments.{put_give}
use Rattle.sy_terms.proofs.environment.Environment.given.Given as goal

abbrev pub invariant-give : goal.invariant-give
invariant-give l = l.items.entries ≡ fold (put_give l.scope l.self) [] (take l.give-index l.gives)
