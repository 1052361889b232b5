use Rattle.sy_print.proofs.ReadingBack.{read_back}
use Rattle.sy_print.proofs.canonical.print.Goals as goal

pub returns-clause-read_back : goal.returns-clause-read_back
returns-clause-read_back c = λ spelled. read_back c.args.tree.now c.written_out.result c.written_out.ensures spelled
