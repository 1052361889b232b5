-- Date terms as those of a deed. One that breaks a rule of names, types or ranges is none.
use Rattle.std.specs.Prelude.{ℕ, ℤ, nat_le, Bool, List, length, map, Option, Some, None, option_map, option_and_then}
use Rattle.sy_base.specs.declared.time.TimeUnit.{TimeUnit}
use Rattle.sy_base.specs.declared.time.Duration.{Duration}
use Rattle.sy_core.specs.declared.date_term.Base.{Base}
use Rattle.sy_core.specs.declared.date_term.Base.TheVariants.{Fixed, First}
use Rattle.sy_core.specs.declared.date_term.DateTerm.{DateTerm}
use Rattle.sy_core.specs.Soundness.{is_duration_of}
use Rattle.sy_core.specs.Values.{is_dated}
use Rattle.sy_tree.specs.declared.date.DateTree.{DateTree}
use Rattle.sy_tree.specs.declared.date.DurationTree.{DurationTree}
use Rattle.sy_tree.specs.declared.date.MomentTree.{MomentTree}
use Rattle.sy_tree.specs.declared.date.MomentTree.TheVariants as Moment
use Rattle.sy_scope.specs.Scopes.{Things}
use Rattle.sy_literal.specs.Values.{date_point}
use Rattle.sy_given.specs.declared.known.Known.TheVariants as K
use Rattle.sy_terms.specs.declared.item.Item.{Item}
use Rattle.sy_terms.specs.declared.item.Item.TheVariants as I
use Rattle.sy_terms.specs.Items.{Environment, path_item}
use Rattle.sy_terms.specs.Counts.{count_of}
use Rattle.sy_lower.specs.Basis.{Basis}
use Rattle.sy_lower.specs.Events.{event_of}
use Rattle.sy_lower.specs.Parts.{all_there, that_passes}

-- the date that an item is
abbrev pub date_of : Option Item → Option ℤ
date_of (Some (I.Value (K.Date point))) = Some point
date_of _ = None

-- a date within the range of dates begins a date term
abbrev pub fixed : TimeUnit → Option ℤ → Option Base
fixed unit point = option_map (λ p. Fixed p) (option_and_then (that_passes (is_dated unit)) point)

-- so many of a measure, where a duration of the unit may be so
abbrev pub lasting : TimeUnit → Option Duration → Option Duration
lasting unit duration = option_and_then (that_passes (is_duration_of unit)) duration

-- a duration
abbrev pub duration_of : Things → Environment → DurationTree → Option Duration
duration_of s e tree =
    lasting e.unit
    (option_map (λ n. record { count = n; measure = tree.measure.measure }) (count_of s e tree.measure.measure tree.count))

-- there are at most eight durations
abbrev pub are_few : List Duration → Bool
are_few durations = nat_le (length durations) 8

-- the durations of a date term
abbrev pub durations_of : Things → Environment → List DurationTree → Option (List Duration)
durations_of s e trees = option_and_then (that_passes are_few) (all_there (map (duration_of s e) trees))

module _ (b : Basis) where
  -- what a date term begins with
  abbrev pub base_of : MomentTree → Option Base
  base_of (Moment.Fixed date) = fixed b.environment.unit (date_point b.environment.unit date.text)
  base_of (Moment.Path path) = fixed b.environment.unit (date_of (path_item b.things b.environment path))
  base_of (Moment.Time place event) = option_map (λ ev. First ev) (event_of b event)

  -- a beginning, with durations behind it
  abbrev pub lengthened : List DurationTree → Base → Option DateTerm
  lengthened trees base = option_map (λ plus. record { base = base; plus = plus }) (durations_of b.things b.environment trees)

  -- a date term
  abbrev pub date_term : DateTree → Option DateTerm
  date_term tree = option_and_then (lengthened tree.plus) (base_of tree.moment)
