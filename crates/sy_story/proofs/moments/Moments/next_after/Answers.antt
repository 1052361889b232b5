use Rattle.std.proofs.Common.{to_z, of_z, w64, ◌≡◌, ◌∙◌, sym, rules, arith}
use Rattle.std.proofs.lemmas.Int.{ints, to_z-of_z}
use Rattle.sy_story.proofs.Later.{some_after, none_after}
use Rattle.sy_story.proofs.moments.Moments.next_after.Goals as goal

pub returns-in-Some : goal.returns-in-Some
returns-in-Some c =
    let same : to_z w64 (of_z w64 c.args.point) ≡ c.args.point = to_z-of_z w64 c.args.point c.ranges.point in
    let level : to_z w64 (of_z w64 c.in-Some.next.now) ≡ c.in-Some.next.now = first_of (search rules, grind (arith, ints, to_z-of_z)) in
    let between = simp same at (c.range-later.ensures.between tt) in
    rw level (some_after c.args.point c.in-Some.next.now c.in-Some.field-0-1.now c.args.self.now c.self.inside.lists.entries c.next.new.self
    c.self.invariant c.self.view_is (sym between ∙ c.in-Some.ensures.steps))

pub returns-in-None : goal.returns-in-None
returns-in-None c =
    let same : to_z w64 (of_z w64 c.args.point) ≡ c.args.point = to_z-of_z w64 c.args.point c.ranges.point in
    let between = simp same at (c.range-later.ensures.between tt) in
    none_after c.args.point c.args.self.now c.self.inside.lists.entries c.self.invariant c.self.view_is (sym between ∙ c.in-None.ensures.steps.0)
