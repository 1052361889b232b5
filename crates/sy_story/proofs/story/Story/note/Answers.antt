use Rattle.std.proofs.Common.{◌≡◌, ◌<◌, ◌≤ℤ◌, ◌<ℤ◌, length, refl, sym, subst, rules, arith}
use Rattle.std.proofs.lemmas.Int.{ints, to_z-of_z}
use Rattle.std.specs.List.{Contains}
use Rattle.sy_story.specs.Narratives.{Narrative, IsNews, Joins, limit}
use Rattle.sy_story.specs.Machine.Holding.{HoldsWell}
use Rattle.sy_story.proofs.Keeping.{is_held, isnt_early, is_news, is_full, has_room, unchanged, undone, joined, joins, longer_by, on_err, on_ok}
use Rattle.sy_story.proofs.story.Story.note.Goals as goal

pub returns-then-happening-self : goal.returns-then-happening-self
returns-then-happening-self c =
    let s = c.self.inside in
    let early : c.args.happening.point <ℤ c.self.inside.start = first_of (search rules, grind (arith, ints, to_z-of_z)) in
    let absent = isnt_early s.start s.known s.moments c.self.invariant c.args.happening early in
    (subst (λ (n : Narrative). c.args.happening.point <ℤ n.start) c.self.view_is early, subst (λ (n : Narrative). Contains n.happenings c.args.happening → ⊥) c.self.view_is absent, refl)

pub returns-then-contains : goal.returns-then-contains
returns-then-contains c =
    let s = c.self.inside in
    let held = is_held s.start s.known s.moments c.self.invariant c.args.happening (sym c.if-contains.ensures) in
    (subst (λ (n : Narrative). Contains n.happenings c.args.happening) c.self.view_is held, refl)

pub returns-then-len-ge-LIMIT : goal.returns-then-len-ge-LIMIT
returns-then-len-ge-LIMIT c =
    let s = c.self.inside in
    let timely : c.self.inside.start ≤ℤ c.args.happening.point = first_of (search rules, grind (arith, ints, to_z-of_z)) in
    let news = is_news s.start s.known s.moments c.self.invariant c.args.happening (sym c.if-contains.ensures) timely in
    let size = c.len.ensures.len in
    let above = c.if-len-ge-LIMIT.true in
    let full = is_full s.start s.known s.moments c.self.invariant (omega (arith, size, above)) in
    (subst (λ (n : Narrative). IsNews n c.args.happening) c.self.view_is news, subst (λ (n : Narrative). length n.happenings ≡ limit) c.self.view_is full, refl)

pub invariant_of-self-in_err-insert : goal.invariant_of-self-in_err-insert
invariant_of-self-in_err-insert c =
    let s = c.self.inside in
    unchanged s.start s.known s.moments c.self.invariant c.insert.new.self c.in_err-insert.ensures.err

pub invariant_of-self-then-is_err : goal.invariant_of-self-then-is_err
invariant_of-self-then-is_err c =
    let s = c.self.inside in
    let missing = sym c.if-contains.ensures in
    let more = c.in_ok-insert.ensures in
    let longer = longer_by s.known c.insert.new.self c.in_ok-copy.field-0 c.args.happening c.in_ok-copy.ensures missing more.updates.0 c.in_ok-insert.field-0 more.added more.len in
    let less = c.remove.ensures in
    let same = on_err _ c.put.result c.if-is_err.ensures.value c.put.ensures.err in
    subst (λ moments. HoldsWell s.start c.remove.new.self moments) (sym same)
    (undone s.start s.known s.moments c.self.invariant c.args.happening c.insert.new.self c.remove.new.self missing longer less.updates.0 c.remove.result less.test less.len)

pub invariant_of-self-else-is_err : goal.invariant_of-self-else-is_err
invariant_of-self-else-is_err c =
    let s = c.self.inside in
    let timely : c.self.inside.start ≤ℤ c.args.happening.point = first_of (search rules, grind (arith, ints, to_z-of_z)) in
    let missing = sym c.if-contains.ensures in
    let more = c.in_ok-insert.ensures in
    let longer = longer_by s.known c.insert.new.self c.in_ok-copy.field-0 c.args.happening c.in_ok-copy.ensures missing more.updates.0 c.in_ok-insert.field-0 more.added more.len in
    let put = on_ok _ c.put.result c.if-is_err.ensures.value c.put.ensures.ok in
    let size = c.len.ensures.len in
    let below = c.if-len-ge-LIMIT.false in
    joined s.start s.known s.moments c.self.invariant c.args.happening c.insert.new.self c.put.new.self missing timely (omega (arith, size, below)) longer put

pub returns : goal.returns
returns c =
    let s = c.self.inside in
    let timely : c.self.inside.start ≤ℤ c.args.happening.point = first_of (search rules, grind (arith, ints, to_z-of_z)) in
    let missing = sym c.if-contains.ensures in
    let news = is_news s.start s.known s.moments c.self.invariant c.args.happening missing timely in
    let size = c.len.ensures.len in
    let below = c.if-len-ge-LIMIT.false in
    let room = has_room s.start s.known s.moments c.self.invariant (omega (arith, size, below)) in
    let put = on_ok _ c.put.result c.if-is_err.ensures.value c.put.ensures.ok in
    let joins_them = joins s.start s.known s.moments c.self.invariant c.args.happening c.put.new.self put in (
      subst (λ (n : Narrative). IsNews n c.args.happening) c.self.view_is news,
      subst (λ (n : Narrative). length n.happenings < limit) c.self.view_is room,
      subst (λ (n : Narrative). Joins n c.args.happening (record { start = s.start; happenings = c.put.new.self })) c.self.view_is joins_them,
    )
