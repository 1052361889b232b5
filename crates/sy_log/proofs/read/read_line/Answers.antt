use Rattle.sy_log.proofs.OfDeed.{entry_is_of}
use Rattle.sy_log.proofs.Telling.{one_entry}
use Rattle.sy_log.proofs.read.read_line.Goals as goal

pub returns-in-Ok-clause-one : goal.returns-in-Ok-clause-one
returns-in-Ok-clause-one c = one_entry c.args.deed.now c.args.bytes.now

pub returns-in-Err-Memory-clause-one : goal.returns-in-Err-Memory-clause-one
returns-in-Err-Memory-clause-one c = one_entry c.args.deed.now c.args.bytes.now

pub returns-in-Err-Fault-clause-one : goal.returns-in-Err-Fault-clause-one
returns-in-Err-Fault-clause-one c = one_entry c.args.deed.now c.args.bytes.now

pub returns-in-Ok-clause-of_deed : goal.returns-in-Ok-clause-of_deed
returns-in-Ok-clause-of_deed c = entry_is_of c.args.deed.now c.args.bytes.now c.in-Ok.entry c.in-Ok.ensures
