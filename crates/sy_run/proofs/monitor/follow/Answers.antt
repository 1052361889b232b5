use Rattle.sy_run.proofs.Streaming.{not_begun}
use Rattle.sy_run.proofs.monitor.follow.Goals as goal

pub returns-in_default-clause-told : goal.returns-in_default-clause-told
returns-in_default-clause-told g c = λ bytes was. not_begun c.args.deed bytes (g.S.Source.left c.args.input.now) (g.W.Sink.held c.args.out.now)

pub returns-in_default-new-clause-told : goal.returns-in_default-new-clause-told
returns-in_default-new-clause-told g c = λ bytes was. not_begun c.args.deed bytes (g.S.Source.left c.args.input.now) (g.W.Sink.held c.args.out.now)
