use Rattle.std.proofs.Common.{◌≡◌, ◌+◌, ◌∙◌, Some, slice_get, get_or, sym, ap}
use Rattle.std.proofs.lemmas.Option.{slice_get-get_or}
use Rattle.sy_core.specs.Chronicle.{chronicle, moment_at}
use Rattle.sy_core.specs.Propositions.{verdict_at}
use Rattle.sy_monitor.proofs.Verdicts.{one_more}
use Rattle.sy_monitor.proofs.table.verdicts.Goals as goal

pub loop-post-preserved : goal.loop-post-preserved
loop-post-preserved c = record {
  number = ap (λ k. k + 1) c.loop-post.invariant.number;
  told = λ narrative n stands.
      let deed = c.args.deed.now in
      let posts = c.items-post-items.result.now in
      let i = c.loop-post._post-index in
      let prop = get_or posts i c._post-item.result in
      let same : posts ≡ deed.posts = c.items-post-items.ensures in
      let there : slice_get deed.posts c.loop-post.number ≡ Some prop =
      ap (slice_get deed.posts) c.loop-post.invariant.number ∙ ap (λ xs. slice_get xs i) (sym same) ∙ slice_get-get_or posts i c._post-item.result c.loop-post-test.true in
      one_more (verdict_at deed.unit (moment_at deed narrative n) (chronicle deed narrative n)) posts i c._post-item.result c.post.result
      c.loop-post.verdicts c.push.new.self _ c.loop-post-test.true (c.post.ensures deed narrative n prop stands there) c.in_ok-push.ensures.ok
      (c.loop-post.invariant.told narrative n stands);
}
