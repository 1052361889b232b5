use Rattle.std.proofs.Common.{◌≡◌, List, ℕ, Ok, Err, Result, subst, ◌∙◌}
use Rattle.sy_base.specs.declared.refusal.Refused.{Refused}
use Rattle.sy_core.specs.declared.deed.Deed.{Deed}
use Rattle.sy_log.specs.declared.read.Entry.{Entry}
use Rattle.sy_log.specs.Entries.{IsAnswer}
use Rattle.sy_run.proofs.Following.{answered_by, refused_by}
use Rattle.sy_run.proofs.log.reply_line.Goals as goal

-- what was answered under the deed that a monitor follows, of the bytes of a line
abbrev read_as : Deed → Deed → ℕ → List ℕ → List ℕ → Result Entry Refused → Type 0
read_as old deed number bytes line result = (old ≡ deed) × (bytes ≡ line) × IsAnswer old number bytes result

as_read : (old deed : Deed) (number : ℕ) (bytes line : List ℕ) (result : Result Entry Refused) → read_as old deed number bytes line result → IsAnswer deed number line result
as_read old deed number bytes line result (same, text, answer) =
    subst (λ (b : List ℕ). IsAnswer deed number b result) text (subst (λ (d : Deed). IsAnswer d number bytes result) same answer)

pub returns-in-Ok-clause-told : goal.returns-in-Ok-clause-told
returns-in-Ok-clause-told g c = λ deed noted follows.
    let line = c.args.line.now in
    answered_by c.reply_to.new.monitor deed noted line.number line.bytes c.requires.counted c.requires.short (Ok c.in-Ok.entry)
    (as_read c.deed.result.now deed line.number c.bytes.result.now line.bytes (Ok c.in-Ok.entry) (c.deed.ensures.deed ∙ follows.keeps, c.bytes.ensures, c.in-Ok.ensures.answer))
    c.reply_to.result (c.reply_to.ensures.told deed noted follows)

pub returns-in-Err-clause-told : goal.returns-in-Err-clause-told
returns-in-Err-clause-told g c = λ deed noted follows.
    let line = c.args.line.now in
    rw c.from.ensures
    (refused_by c.args.monitor.now deed noted line.number line.bytes c.requires.counted c.requires.short c.in-Err.why
    (as_read c.deed.result.now deed line.number c.bytes.result.now line.bytes (Err c.in-Err.why) (c.deed.ensures.deed ∙ follows.keeps, c.bytes.ensures, c.in-Err.ensures.answer)))
