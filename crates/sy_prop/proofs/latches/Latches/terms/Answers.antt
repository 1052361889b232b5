use Rattle.std.proofs.Common.{length, sym, ◌∙◌, ap}
use Rattle.sy_atoms.specs.Histories.{first_history}
use Rattle.sy_prop.specs.Machine.Terms.{places_from}
use Rattle.sy_prop.specs.Standing.{props_of_deed}
use Rattle.sy_prop.proofs.DateTerms.{same_places, terms_counted}
use Rattle.sy_prop.proofs.latches.Latches.terms.Goals as goal

pub returns : goal.returns
returns c = λ deed h stands.
    let placed = stands.places ∙ (same_places deed.unit (first_history deed.start) h (props_of_deed deed) ∙ ap (places_from 0) (sym stands.kept)) in
    ap length c.as_slice.ensures.value ∙ terms_counted deed h c.args.self.now.nodes.items c.args.self.now.places.items stands.kept placed
