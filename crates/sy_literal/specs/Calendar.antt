-- The dates and the measures of a specification that don't fit its unit. They are one check with two names: the one that stands first in the
-- source is the fault.
use Rattle.std.specs.Prelude.{not, is_some, if◌then◌else◌, List, [], Option, Some, None}
use Rattle.sy_base.specs.declared.refusal.FaultName.TheVariants as Fault
use Rattle.sy_base.specs.declared.refusal.Refusal.{Refusal}
use Rattle.sy_base.specs.declared.time.TimeUnit.{TimeUnit}
use Rattle.sy_base.specs.Measures.{is_finer}
use Rattle.sy_lex.specs.declared.written.Written.{Written}
use Rattle.sy_tree.specs.declared.term.SingleTree.{SingleTree}
use Rattle.sy_tree.specs.declared.term.SingleTree.TheVariants as Single
use Rattle.sy_tree.specs.declared.date.DurationTree.{DurationTree}
use Rattle.sy_spec.specs.declared.contract.SpecTree.{SpecTree}
use Rattle.sy_domain.specs.declared.failure.Failure.{Failure}
use Rattle.sy_domain.specs.Failures.{Check, of_spec, refusal_of, stands_before, unless}
use Rattle.sy_literal.specs.Literals.{Literals, spec_literals}
use Rattle.sy_literal.specs.Values.{date_point}

-- a date that has a fault in the unit
abbrev pub bad_date : TimeUnit → Written → List Failure
bad_date unit date = unless (is_some (date_point unit date.text)) date

abbrev pub bad_single : TimeUnit → SingleTree → List Failure
bad_single unit (Single.Date date) = bad_date unit date
bad_single unit _ = []

abbrev pub date_literals : TimeUnit → Literals
date_literals unit = record { single = bad_single unit; fixed = bad_date unit; duration = λ duration. [] }

-- the dates of a specification that have a fault in its unit
abbrev pub bad_dates : SpecTree → List Failure
bad_dates spec = spec_literals (date_literals spec.contract.unit.unit) spec

-- the word of a measure that is finer than the unit
abbrev pub fine_measure : TimeUnit → DurationTree → List Failure
fine_measure unit d = unless (not (is_finer d.measure.measure unit)) d.measure.word

abbrev pub measure_literals : TimeUnit → Literals
measure_literals unit =
    record { single = λ single. []; fixed = λ date. []; duration = fine_measure unit }

-- the measures of a specification that are finer than its unit
abbrev pub fine_measures : SpecTree → List Failure
fine_measures spec = spec_literals (measure_literals spec.contract.unit.unit) spec

-- a date has a fault in the unit: at that date
abbrev pub dates_fit : SpecTree → Check
dates_fit spec = of_spec Fault.BadDate (bad_dates spec)

-- a measure is finer than the unit: at its word
abbrev pub measures_fit : SpecTree → Check
measures_fit spec = of_spec Fault.BadUnit (fine_measures spec)

-- the one of two refusals whose cause stands first in the source
abbrev pub earlier : Option Refusal → Option Refusal → Option Refusal
earlier None other = other
earlier (Some refusal) None = Some refusal
earlier (Some refusal) (Some other) = if stands_before other.place refusal.place then Some other else Some refusal

-- the refusal that the check makes, if it fails
abbrev pub calendar_refusal : SpecTree → Option Refusal
calendar_refusal spec = earlier (refusal_of (dates_fit spec)) (refusal_of (measures_fit spec))
