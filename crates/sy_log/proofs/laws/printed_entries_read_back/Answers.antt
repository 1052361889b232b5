use Rattle.sy_log.proofs.ReadBack.{entry_read_back}
use Rattle.sy_log.proofs.laws.printed_entries_read_back.Goals as goal

pub returns : goal.returns
returns c = entry_read_back
