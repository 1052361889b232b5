use Rattle.std.proofs.Common.{◌≡◌, sym, ◌∙◌, ap}
use Rattle.sy_domain.specs.Names.{Naming, declare, named}
use Rattle.sy_domain.proofs.Naming.{declare-new}
use Rattle.sy_domain.proofs.names.Names.declare.Goals as goal

pub returns-in_ok-insert : goal.returns-in_ok-insert
returns-in_ok-insert c =
    let was : Naming = record { table = c.self.inside.table.entries; repeated = c.self.inside.repeated } in
    let n = named c.args.name.now c.args.meaning in
    let is = c.self.view_is in
    let copied = c.in_ok-copy.ensures in
    declare-new was n c.in_ok-copy.field-0 c.insert.new.self.entries copied
    (sym c.contains_key.ensures ∙ c.if-contains_key.false)
    c.in_ok-insert.ensures.entries
    ∙ ap (λ s. declare s n) is
