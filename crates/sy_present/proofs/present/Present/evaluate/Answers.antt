use Rattle.std.proofs.Common.{◌+ℤ◌, pos, map, w64, ◌∙◌, sym, subst}
use Rattle.sy_core.specs.declared.happening.Happening.{Happening as Happened}
use Rattle.std.proofs.lemmas.Int.{to_z-of_z}
use Rattle.sy_quiet.specs.Histories.{history_at}
use Rattle.sy_quiet.specs.Evaluation.{seeing_all, with_events}
use Rattle.sy_quiet.specs.Exactly.{HasExactly}
use Rattle.sy_quiet.proofs.Exact.{assuming_same}
use Rattle.sy_present.proofs.Evaluated.{ready_here, settled_is_evaluated}
use Rattle.sy_present.proofs.present.Present.evaluate.Goals as goal

pub returns-clause-evaluated : goal.returns-clause-evaluated
returns-clause-evaluated c = λ narrative n stands here exact.
    let deed = c.args.deed.now in
    let passed = to_z-of_z w64 c.args.point c.ranges.point in
    let whats = map (λ (happening : Happened). happening.what) c.args.at.now in
    let begun = history_at deed narrative n in
    let seen = seeing_all whats begun in
    let ready = with_events deed whats begun in
    let start = c.begin.ensures.present narrative n stands (passed ∙ here) in
    let all = c.fire_all.ensures.present seen (c.see_all.ensures.present begun start) in
    let exactly = subst (λ p. HasExactly narrative p c.args.at.now) here exact in
    let same = assuming_same narrative (deed.start +ℤ pos n) c.args.at.now exactly in
    let settled = c.settle.ensures.settled ready all (passed ∙ (here ∙ sym (ready_here deed c.requires.sound.ordered.complete narrative n whats same))) in
    settled_is_evaluated deed c.requires.sound.ordered.complete narrative n whats same c.settle.new.self settled c.settle.ensures.made
