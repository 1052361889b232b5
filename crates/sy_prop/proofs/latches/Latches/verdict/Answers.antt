use Rattle.std.proofs.Common.{[], get_or, ◌∙◌, w64, SFits, rules}
use Rattle.std.proofs.lemmas.Int.{to_z-of_z}
use Rattle.sy_core.specs.declared.table.Verdict.TheVariants as V
use Rattle.sy_prop.specs.Machine.Tables.{values_from}
use Rattle.sy_prop.specs.Standing.{props_of_deed}
use Rattle.sy_prop.proofs.Places.{place_found}
use Rattle.sy_prop.proofs.RootVerdicts.{root_tells}
use Rattle.sy_prop.proofs.latches.Latches.verdict.Goals as goal

pub returns : goal.returns
returns c = λ deed h place prop stands is at.
    let f : SFits w64 c.args.self.now.point = search rules in
    let p = to_z-of_z w64 c.args.self.now.point f in
    let e = simp p at c.verdict.ensures in
    let n = c.as_slice.ensures.value ∙ stands.kept in
    let found = place_found deed place prop is in
    let node = at ∙ found.2 in
    e ∙ ((λ j. get_or (values_from (stands.at_point j) [] (n j)) (node j) V.Open) ∙ root_tells deed.unit h (props_of_deed deed) found.0 prop found.1)
