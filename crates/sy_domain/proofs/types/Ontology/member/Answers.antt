use Rattle.std.proofs.Common.{◌≡◌, sym, ap, ◌∙◌}
use Rattle.sy_domain.specs.Names.{same}
use Rattle.sy_domain.specs.Ontologies.{inherited, member_in, owned_at}
use Rattle.sy_domain.proofs.Found.{found_first, found_later}
use Rattle.sy_domain.proofs.types.Ontology.member.Goals as goal

pub returns-in-Some : goal.returns-in-Some
returns-in-Some c =
    let domain = c.args.self.now in
    let name = c.args.name.now in
    let n = c.in-Declared.number in
    sym
    (ap (λ sort. member_in domain sort name) c.in-Declared.is
    ∙ found_first (same name) (owned_at domain n) (inherited domain n) c.in-Some.member (sym c.own_member.ensures ∙ c.in-Some.is))

pub returns-in-None : goal.returns-in-None
returns-in-None c =
    let domain = c.args.self.now in
    let name = c.args.name.now in
    let n = c.in-Declared.number in
    c.inherited.ensures
    ∙ sym
    (ap (λ sort. member_in domain sort name) c.in-Declared.is
    ∙ found_later (same name) (owned_at domain n) (inherited domain n) (sym c.own_member.ensures ∙ c.in-None.is))
