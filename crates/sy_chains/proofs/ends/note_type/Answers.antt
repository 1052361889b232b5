use Rattle.sy_chains.proofs.Noted.{type_noted}
use Rattle.sy_chains.proofs.ends.note_type.Goals as goal

pub returns : goal.returns
returns c =
    let done = c.note_end.ensures in
    type_noted c.args.bases.now c.args.from c.find_end-end.result c.args.ends.now c.note_end.new.ends done.0
    c.requires.from c.requires.noted done.1 done.2
