use Rattle.std.proofs.Common.{◌≡◌, None, Some, is_some, not, refl, sym, ap, ◌∙◌}
use Rattle.sy_domain.specs.Failures.{first}
use Rattle.sy_given.specs.BoundNames.{missing_attribute}
use Rattle.sy_given.proofs.FieldFound.{copied_some, is_found, not_found}
use Rattle.sy_given.proofs.Firsts.{found_turn, none_turn}
use Rattle.sy_given.proofs.missing.first_attribute.Goals as goal

pub returns-then-is_none-clause-first : goal.returns-then-is_none-clause-first
returns-then-is_none-clause-first c =
    let name = c.args.parameter.now in
    let fields = c.args.fields.now in
    let attribute = c.attribute-item.result in
    let there = ap is_some (sym c.first_named.ensures) ∙ copied_some c.first_named.result ∙ c.is_none.ensures
    ∙ ap not c.if-is_none.true in
    found_turn (missing_attribute name fields) c.args.attributes.now c.attribute.attribute-index attribute
    c.in_ok-absent_attribute.field-0 c.attribute-test.true c.attribute-item.is c.attribute.invariant
    (ap first (not_found name fields attribute there) ∙ ap Some (sym c.in_ok-absent_attribute.ensures))
    (ap (λ failure. failure.place) c.in_ok-absent_attribute.ensures)

pub attribute-preserved : goal.attribute-preserved
attribute-preserved c =
    let name = c.args.parameter.now in
    let fields = c.args.fields.now in
    let attribute = c.attribute-item.result in
    let there = ap is_some (sym c.first_named.ensures) ∙ copied_some c.first_named.result ∙ c.is_none.ensures
    ∙ ap not c.if-is_none.false in
    none_turn (missing_attribute name fields) c.args.attributes.now c.attribute.attribute-index attribute
    c.attribute-test.true c.attribute-item.is c.attribute.invariant
    (ap first (is_found name fields attribute there))
