-- The numbers of a specification that are too great.
use Rattle.std.specs.Prelude.{ℕ, ◌^◌, nat_le, List, []}
use Rattle.sy_base.specs.declared.refusal.FaultName.TheVariants as Fault
use Rattle.sy_base.specs.declared.time.Measure.{Measure}
use Rattle.sy_base.specs.Measures.{greatest_count}
use Rattle.sy_lex.specs.declared.written.Written.{Written}
use Rattle.sy_tree.specs.declared.term.SingleTree.{SingleTree}
use Rattle.sy_tree.specs.declared.term.SingleTree.TheVariants as Single
use Rattle.sy_tree.specs.declared.date.DurationTree.{DurationTree}
use Rattle.sy_tree.specs.declared.date.CountTree.{CountTree}
use Rattle.sy_tree.specs.declared.date.CountTree.TheVariants as Count
use Rattle.sy_spec.specs.declared.contract.SpecTree.{SpecTree}
use Rattle.sy_domain.specs.declared.failure.Failure.{Failure}
use Rattle.sy_domain.specs.Failures.{Check, of_spec, unless}
use Rattle.sy_literal.specs.Literals.{Literals, spec_literals}
use Rattle.sy_literal.specs.Values.{number_value}

-- a number, where it is above a limit
abbrev pub too_great : ℕ → Written → List Failure
too_great limit number = unless (nat_le (number_value number.text) limit) number

-- a number in a term, where it is above 10^15; the sign before it is no part of it
abbrev pub great_single : SingleTree → List Failure
great_single (Single.Number number) = too_great (10 ^ 15) number
great_single (Single.Negative place number) = too_great (10 ^ 15) number
great_single _ = []

-- a number that a measure follows, where it is above the greatest count of that measure, and so also where it is above 10^15
abbrev pub great_count : Measure → CountTree → List Failure
great_count measure (Count.Number number) = too_great (greatest_count measure) number
great_count measure (Count.Path path) = []

abbrev pub great_duration : DurationTree → List Failure
great_duration d = great_count d.measure.measure d.count

abbrev pub great_literals : Literals
great_literals = record { single = great_single; fixed = λ date. []; duration = great_duration }

-- the numbers of a specification that are too great
abbrev pub great_numbers : SpecTree → List Failure
great_numbers = spec_literals great_literals

-- a number is too great: at that number
abbrev pub numbers_in_range : SpecTree → Check
numbers_in_range spec = of_spec Fault.NumberOutOfRange (great_numbers spec)
