use Rattle.std.proofs.Common.{◌∙◌, ap, sym, subst}
use Rattle.std.specs.List.{slice_get}
use Rattle.sy_order.specs.Machine.Places.{IsPlaceOf}
use Rattle.sy_order.proofs.Numbering.{place_is}
use Rattle.sy_order.proofs.index.NodeIndex.place.Goals as goal

pub returns : goal.returns
returns c =
    let i = c.args.position in
    let is = sym (c.place_at.ensures ∙ ap (λ places. slice_get places i) c.items.ensures) in
    let numbered = c.self.invariant in
    subst (λ forms. IsPlaceOf forms i c.place_at.result) c.self.view_is (place_is c.self.inside.places numbered.few numbered.firsts_are i c.place_at.result is)
