use Rattle.std.proofs.Common.{◌≡◌, fold, take}
use Rattle.sy_domain.specs.Machine.Owners.{add_owner}
use Rattle.sy_domain.proofs.attributes.add_owner.Given as goal

abbrev pub invariant-attribute : goal.invariant-attribute
invariant-attribute l =
    l.owners.entries ≡ fold (add_owner l.number) l.initial.owners.entries (take l.attribute-index l.own)
