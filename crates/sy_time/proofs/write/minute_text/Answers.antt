use Rattle.sy_time.proofs.Texts.{written_date-cut, text_of_date-cut}
use Rattle.sy_time.proofs.write.minute_text.Goals as goal

pub returns-clause-read : goal.returns-clause-read
returns-clause-read c = written_date-cut c.args.year c.args.month c.args.day c.args.hour c.args.minute _ _ _ _ _ _ _ _ _ _ _ _ c.write_four-y1.ensures.read c.write_two-m1.ensures.read c.write_two-d1.ensures.read c.write_two-h1.ensures.read c.write_two-n1.ensures.read

pub returns-clause-written : goal.returns-clause-written
returns-clause-written c = text_of_date-cut c.args.year c.args.month c.args.day c.args.hour c.args.minute _ _ _ _ _ _ _ _ _ _ _ _ c.write_four-y1.ensures.written c.write_two-m1.ensures.written c.write_two-d1.ensures.written c.write_two-h1.ensures.written c.write_two-n1.ensures.written
