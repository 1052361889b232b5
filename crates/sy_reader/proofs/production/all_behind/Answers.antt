use Rattle.std.proofs.Common.{ap}
use Rattle.sy_reader.specs.Machine.Reading.{each_behind, all_behind}
use Rattle.sy_reader.proofs.Loops.{reads_same}
use Rattle.sy_reader.proofs.production.all_behind.Goals as goal

pub returns-clause-gives : goal.returns-clause-gives
returns-clause-gives g c =
    reads_same c.each_behind.result c.args.reader.now c.args.reader.now c.each_behind.new.reader (each_behind c.args.sign g.T.Production.reading c.left-left.result) (all_behind c.args.sign g.T.Production.reading)
    (ap (λ n. each_behind c.args.sign g.T.Production.reading n c.args.reader.now) c.left-left.ensures) c.each_behind.ensures.gives
