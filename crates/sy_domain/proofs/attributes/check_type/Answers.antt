use Rattle.std.proofs.Common.{◌≡◌, true, ◌++◌, [], sym, ap, ◌∙◌}
use Rattle.std.specs.List.{list_all}
use Rattle.std.proofs.lemmas.List.{append-nil}
use Rattle.sy_domain.specs.Attributes.{clashes, own}
use Rattle.sy_domain.specs.Machine.Owners.{is_only, owners_of}
use Rattle.sy_domain.proofs.Owned.{only_clashes}
use Rattle.sy_domain.proofs.attributes.check_type.Goals as goal

pub returns-then-are_only : goal.returns-then-are_only
returns-then-are_only c =
    let types = c.args.types.now in
    let bases = c.args.bases.now in
    let n = c.args.number in
    let attributes = own c.args.tree.now in
    let only : list_all (is_only (owners_of types) n) attributes ≡ true =
    ap (λ o. list_all (is_only o n) attributes) (sym c.requires.owners)
    ∙ ap (list_all (is_only c.args.owners.now.entries n)) (sym c.own-own.ensures)
    ∙ sym c.are_only.ensures ∙ c.if-are_only.true in
    let none : clashes types bases (n, c.args.tree.now) ≡ [] = only_clashes types bases n attributes c.requires.none only in
    sym (ap (λ found. c.args.out.now ++ found) none ∙ append-nil c.args.out.now)
