use Rattle.std.proofs.Common.{List, ℕ, Err, subst, sym}
use Rattle.sy_story.specs.Narratives.{Noting}
use Rattle.sy_story.specs.declared.story.StoryFault.{StoryFault}
use Rattle.sy_log.specs.declared.read.Entry.TheVariants.{Noted}
use Rattle.std.specs.Prelude.{Ok}
use Rattle.sy_monitor.specs.Following.{narrative_of}
use Rattle.sy_run.specs.Output.{IsReply}
use Rattle.sy_run.specs.Machine.Replies.{IsTextOf}
use Rattle.sy_run.proofs.Following.{is_noted, is_full}
use Rattle.sy_run.proofs.log.note.Goals as goal

pub returns-in-Ok-clause-told : goal.returns-in-Ok-clause-told
returns-in-Ok-clause-told c = λ deed noted follows.
    subst (λ (text : List ℕ). IsTextOf c.note.new.self deed (IsReply deed noted c.args.number (Ok (Noted c.args.happening))) text) (sym c.nothing.ensures)
    (is_noted c.args.monitor.now c.note.new.self deed noted c.args.happening follows c.args.number c.note.ensures.deed c.in-Ok.field-0 c.in-Ok.ensures.noting)

pub returns-in-Err-TooMany-clause-told : goal.returns-in-Err-TooMany-clause-told
returns-in-Err-TooMany-clause-told c = λ deed noted follows.
    let full = subst (λ (fault : StoryFault). Noting (narrative_of c.args.monitor.now) c.args.happening (narrative_of c.note.new.self) (Err fault)) c.in-Err-TooMany.field-0-is c.in-Err-TooMany.ensures.noting in
    rw c.refused-in-Err-TooMany.ensures
    (is_full c.args.monitor.now c.note.new.self deed noted c.args.happening follows c.args.number c.note.ensures.deed full)
