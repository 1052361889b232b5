use Rattle.sy_time.proofs.Years.{year-not_before, year-not_after}
use Rattle.sy_time.proofs.write.date_of_day.Goals as goal

pub returns-clause-not_before : goal.returns-clause-not_before
returns-clause-not_before c = year-not_before c.from_days_since_min.result c.args.day c.from_days_since_min.ensures c.requires.least

pub returns-clause-not_after : goal.returns-clause-not_after
returns-clause-not_after c = year-not_after c.from_days_since_min.result c.args.day c.from_days_since_min.ensures c.requires.greatest
