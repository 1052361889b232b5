use Rattle.std.proofs.Common.{◌≡◌, ◌++◌, [], sym, subst}
use Rattle.sy_run.specs.Machine.Replies.{Answers}
use Rattle.sy_run.specs.Machine.Stream.{CausedIf, WritesReply}
use Rattle.sy_run.proofs.Streaming.{answered, finished, stopped}
use Rattle.sy_run.proofs.stream.one_line.Goals as goal

pub returns-in-Ok-Some-clause-told : goal.returns-in-Ok-Some-clause-told
returns-in-Ok-Some-clause-told g c = λ deed bytes first so.
    let left = g.S.Source.left c.reply_next.new.input in
    let told : Answers deed so.noted c.reply_next.new.log.monitor c.args.reader.now c.reply_next.new.reader so.rest left c.in-Ok-Some.text = rw c.in-Ok-Some.field-0-is at (c.in-Ok-Some.ensures.told deed so.rest so.noted so.tells so.synced so.follows) in
    let written : WritesReply (g.W.Sink.held c.args.out.now) (g.W.Sink.held c.write_reply.new.out) c.in-Ok-Some.text c.write_reply.result = rw c.in-Ok-Some.field-0-is at c.write_reply.ensures.written in
    let goes = rw c.in-Ok-Some.field-0-is at c.in-Ok-Some.ensures.goes in
    answered deed bytes first c.args.log.now.monitor c.args.reader.now (g.S.Source.left c.args.input.now) (g.W.Sink.held c.args.out.now) so
    c.reply_next.new.log.monitor c.reply_next.new.reader left c.in-Ok-Some.text told c.write_reply.result goes.1 (g.W.Sink.held c.write_reply.new.out) written

pub returns-in-Ok-Some-clause-cause : goal.returns-in-Ok-Some-clause-cause
returns-in-Ok-Some-clause-cause g c =
    let read = g.S.Source.faults c.args.input.now in
    subst (λ r. CausedIf read r (g.W.Sink.faults c.args.out.now) (g.W.Sink.faults c.write_reply.new.out) c.write_reply.result) (sym c.in-Ok-Some.ensures.cause) (c.write_reply.ensures.cause read)

pub returns-in-Err-clause-told : goal.returns-in-Err-clause-told
returns-in-Err-clause-told g c = λ deed bytes first so.
    let left = g.S.Source.left c.reply_next.new.input in
    stopped deed bytes first c.args.log.now.monitor c.args.reader.now (g.S.Source.left c.args.input.now) (g.W.Sink.held c.args.out.now) so
    c.reply_next.new.log.monitor c.reply_next.new.reader left c.in-Err.why c.end.result (g.W.Sink.held c.end.new.out)
    (c.in-Err.ensures.told deed so.rest so.noted so.tells so.synced so.follows) c.end.ensures.ends

pub returns-in-Ok-None-clause-told : goal.returns-in-Ok-None-clause-told
returns-in-Ok-None-clause-told g c = λ deed bytes first so.
    let left = g.S.Source.left c.args.input.now in
    let none : c.args.reader.now.held ++ so.rest ≡ [] = rw c.in-Ok-None.field-0-is at (c.in-Ok-None.ensures.told deed so.rest so.noted so.tells so.synced so.follows) in record {
      ends = finished deed bytes first c.args.log.now.monitor c.args.reader.now left (g.W.Sink.held c.args.out.now) so none;
      all_read = λ taken rest t cut. tt;
    }
