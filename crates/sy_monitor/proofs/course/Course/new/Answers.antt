use Rattle.sy_monitor.proofs.course.Course.new.Goals as goal

pub returns-clause-start : goal.returns-clause-start
returns-clause-start c = λ noted. record { stands = c.in_ok-new.ensures.start noted; violations = c.new-2.ensures; voids = c.new-3.ensures }
