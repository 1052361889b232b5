use Rattle.std.proofs.Common.{◌∙◌, refl, ap}
use Rattle.sy_lex.specs.declared.sign.Sign.TheVariants.{Comma}
use Rattle.sy_reader.specs.Machine.Reading.{each_behind, and_more, listed_at}
use Rattle.sy_reader.proofs.Loops.{reads_same, listed_from}
use Rattle.sy_reader.proofs.production.listed.Goals as goal

pub returns-clause-gives : goal.returns-clause-gives
returns-clause-gives g c =
    reads_same c.more.result c.read.new.reader c.args.reader.now c.more.new.reader (and_more c.push.new.self (each_behind Comma g.T.Production.reading c.left-left.result)) (listed_at g.T.Production.reading)
    (ap (λ n. and_more c.push.new.self (each_behind Comma g.T.Production.reading n) c.read.new.reader) c.left-left.ensures
    ∙ listed_from g.T.Production.reading c.in_ok-read.field-0 c.push.new.self c.args.reader.now c.read.new.reader c.in_ok-read.ensures.gives (c.in_ok-push.ensures.ok ∙ rw c.new-items.ensures refl))
    c.more.ensures.gives
