use Rattle.std.proofs.Common.{to_z, of_z, w64, ◌≡◌, ◌∙◌, sym, ap}
use Rattle.std.proofs.lemmas.Int.{to_z-of_z}
use Rattle.sy_story.specs.Narratives.{happenings_at}
use Rattle.sy_story.proofs.Lists.{found_at, none_at}
use Rattle.sy_story.proofs.moments.Moments.at.Goals as goal

pub returns-in-Some : goal.returns-in-Some
returns-in-Some c =
    let same : to_z w64 (of_z w64 c.args.point) ≡ c.args.point = to_z-of_z w64 c.args.point c.ranges.point in
    let found = simp same at c.in-Some.ensures.value in
    c.items.ensures ∙ sym (found_at c.args.point c.self.inside.lists.entries _ c.self.invariant (sym found)) ∙ ap (happenings_at c.args.point) c.self.view_is

pub returns-in-None : goal.returns-in-None
returns-in-None c =
    let same : to_z w64 (of_z w64 c.args.point) ≡ c.args.point = to_z-of_z w64 c.args.point c.ranges.point in
    let found = simp same at c.in-None.ensures.value in
    sym (none_at c.args.point c.self.inside.lists.entries c.self.invariant (sym found)) ∙ ap (happenings_at c.args.point) c.self.view_is
