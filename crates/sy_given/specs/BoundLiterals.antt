-- The dates and the numbers of a binding.
use Rattle.std.specs.Prelude.{is_some, List, [], ◌++◌}
use Rattle.std.specs.List.{flat_map}
use Rattle.sy_base.specs.declared.time.TimeUnit.{TimeUnit}
use Rattle.sy_lex.specs.declared.written.Written.{Written}
use Rattle.sy_binding.specs.declared.tree.BindTree.{BindTree}
use Rattle.sy_binding.specs.declared.tree.ValueTree.{ValueTree}
use Rattle.sy_binding.specs.declared.tree.ValueTree.TheVariants as Value
use Rattle.sy_domain.specs.declared.failure.Failure.{Failure}
use Rattle.sy_domain.specs.Failures.{unless}
use Rattle.sy_literal.specs.Calendar.{bad_date}
use Rattle.sy_literal.specs.Values.{number_in_range}
use Rattle.sy_given.specs.Givens.{all_values}

-- a value that is a date, where it has a fault in the unit
abbrev pub bad_date_in : TimeUnit → ValueTree → List Failure
bad_date_in unit (Value.Date t) = bad_date unit t
bad_date_in unit _ = []

-- the dates that have a fault in the unit, the start among them
abbrev pub bad_dates : TimeUnit → BindTree → List Failure
bad_dates unit tree = bad_date unit tree.start ++ flat_map (bad_date_in unit) (all_values tree)

-- a number that is above 10^15
abbrev pub great_number : Written → List Failure
great_number n = unless (is_some (number_in_range n.text)) n

-- the same of a value; a sign before a number is no part of it
abbrev pub great_number_in : ValueTree → List Failure
great_number_in (Value.Number n) = great_number n
great_number_in (Value.Negative place n) = great_number n
great_number_in _ = []

-- the numbers that are above 10^15
abbrev pub great_numbers : BindTree → List Failure
great_numbers tree = flat_map great_number_in (all_values tree)
