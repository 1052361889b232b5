use Rattle.std.proofs.Common.{slice_get, sym, ◌∙◌, ap}
use Rattle.sy_atoms.specs.Histories.{first_history}
use Rattle.sy_prop.specs.Machine.Terms.{places_from, date_by}
use Rattle.sy_prop.specs.Standing.{props_of_deed}
use Rattle.sy_prop.proofs.DateTerms.{same_places, term_found}
use Rattle.sy_prop.proofs.latches.Latches.due.Goals as goal

pub returns : goal.returns
returns c = λ deed h date stands is.
    let placed = stands.places ∙ (same_places deed.unit (first_history deed.start) h (props_of_deed deed) ∙ ap (places_from 0) (sym stands.kept)) in
    let nodes = c.as_slice.ensures.value in
    let places = c.as_slice-2.ensures.value in
    c.date_by.ensures
    ∙ ((λ j. date_by (nodes j) (slice_get (places j) c.args.term))
    ∙ term_found deed h c.args.self.now.nodes.items c.args.self.now.places.items stands.kept placed c.args.term date is)
