use Rattle.std.proofs.Common.{rules}
use Rattle.sy_domain.specs.Failures.{fault_of}
use Rattle.sy_terms.proofs.checks.values_fault.Goals as goal

pub returns-in-Some : goal.returns-in-Some
unfolding fault_of
returns-in-Some c = search rules

pub returns-in-Some-2 : goal.returns-in-Some-2
unfolding fault_of
returns-in-Some-2 c = search rules

pub returns-in-Some-3 : goal.returns-in-Some-3
unfolding fault_of
returns-in-Some-3 c = search rules

pub returns : goal.returns
unfolding fault_of
returns c = search rules
