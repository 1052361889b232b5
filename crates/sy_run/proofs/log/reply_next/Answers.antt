use Rattle.std.proofs.Common.{◌∙◌, ap, subst, Some, Ok, Err, Result}
use Rattle.std.specs.Option.{is_some}
use Rattle.std.specs.declared.option.Option.{Option}
use Rattle.sy_outside.specs.LineReading.{Next, CutsLines}
use Rattle.sy_outside.specs.declared.lines.Line.{Line}
use Rattle.sy_outside.specs.declared.lines.LineFault.{LineFault}
use Rattle.sy_run.proofs.Replying.{after_of, fault_told, text_told, stop_told}
use Rattle.sy_run.proofs.log.reply_next.Goals as goal

pub returns-in-Err-clause-told : goal.returns-in-Err-clause-told
returns-in-Err-clause-told g c = λ deed rest noted was synced follows.
    let left = g.S.Source.left c.next.new.source in
    let after = after_of left (c.in-Err.ensures.told ∙ ap is_some was) in
    let next : Next c.args.reader.now c.next.new.self (Some rest) left (Err c.in-Err.fault) = subst (λ l. Next c.args.reader.now c.next.new.self l left (Err c.in-Err.fault)) was c.in-Err.ensures.next in
    rw c.stop_at.ensures
    (fault_told deed noted c.args.log.now.monitor c.args.reader.now c.next.new.self rest after.0 left after.1 synced c.args.log.now.lines c.in-Err.fault
    c.requires.counted next (c.in-Err.ensures.lines rest after.0 was after.1 synced))

pub returns-in-Ok-clause-told : goal.returns-in-Ok-clause-told
returns-in-Ok-clause-told g c = λ deed rest noted was synced follows.
    let left = g.S.Source.left c.next.new.source in
    let after = after_of left (c.in-Ok-Some.ensures.told ∙ ap is_some was) in
    let answer : Result (Option Line) LineFault = Ok (Some c.in-Ok-Some.line) in
    let read = rw c.in-Ok-Some.field-0-is at c.in-Ok-Some.ensures.next in
    let next : Next c.args.reader.now c.next.new.self (Some rest) left answer = subst (λ l. Next c.args.reader.now c.next.new.self l left answer) was read in
    let cuts : CutsLines c.args.reader.now c.next.new.self rest after.0 answer = rw c.in-Ok-Some.field-0-is at (c.in-Ok-Some.ensures.lines rest after.0 was after.1 synced) in
    text_told deed noted c.reply_line.new.monitor c.args.reader.now c.next.new.self rest after.0 left after.1 synced c.in-Ok-Some.line c.in-Ok.text next cuts (c.in-Ok.ensures.told deed noted follows)

pub returns-clause-told : goal.returns-clause-told
returns-clause-told g c = λ deed rest noted was synced follows.
    let left = g.S.Source.left c.next.new.source in
    let after = after_of left (c.in-Ok-Some.ensures.told ∙ ap is_some was) in
    let answer : Result (Option Line) LineFault = Ok (Some c.in-Ok-Some.line) in
    let read = rw c.in-Ok-Some.field-0-is at c.in-Ok-Some.ensures.next in
    let next : Next c.args.reader.now c.next.new.self (Some rest) left answer = subst (λ l. Next c.args.reader.now c.next.new.self l left answer) was read in
    let cuts : CutsLines c.args.reader.now c.next.new.self rest after.0 answer = rw c.in-Ok-Some.field-0-is at (c.in-Ok-Some.ensures.lines rest after.0 was after.1 synced) in
    stop_told deed noted c.reply_line.new.monitor c.args.reader.now c.next.new.self rest after.0 left after.1 synced c.in-Ok-Some.line c.in-Err-reply_line.stop next cuts (c.in-Err-reply_line.ensures.told deed noted follows)
