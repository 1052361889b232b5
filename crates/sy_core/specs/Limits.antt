-- The limits of a deed: at most 500 positions, 500 declared events and 4,000 atoms, and fewer than 2^32 propositions, guards, date terms,
-- postconditions, attributes of an event, enumerations and constants of one.
-- An atom is an event that is named, in time too, an occurs or a holds, in a position or a postcondition.
use Rattle.std.specs.Prelude.{ℕ, ◌+◌, ◌^◌, ◌<◌, ◌≤◌, Bool, List, length, nat_lt, IsTrue}
use Rattle.std.specs.List.{sum, sum_by, list_all}
use Rattle.sy_core.specs.declared.event.Ev.{Ev}
use Rattle.sy_core.specs.declared.event.Ev.TheVariants.{Outer, Inner}
use Rattle.sy_core.specs.declared.date_term.Base.{Base}
use Rattle.sy_core.specs.declared.date_term.Base.TheVariants.{Fixed, First}
use Rattle.sy_core.specs.declared.date_term.DateTerm.{DateTerm}
use Rattle.sy_core.specs.declared.proposition.Prop.{Prop}
use Rattle.sy_core.specs.declared.proposition.Prop.TheOpen.{Prop-F}
use Rattle.sy_core.specs.declared.proposition.Prop.TheOpen as P
use Rattle.sy_core.specs.declared.proposition.Prop.TheFolds.{fold-Prop}
use Rattle.sy_core.specs.declared.position.Goal.{Goal}
use Rattle.sy_core.specs.declared.position.Goal.TheVariants as G
use Rattle.sy_core.specs.declared.position.Position.{Position}
use Rattle.sy_core.specs.declared.deed.Deed.{Deed}
use Rattle.sy_core.specs.Wakes.{dates_of_deed}

-- there are fewer than 2^32 of something
abbrev pub is_few : ℕ → Bool
is_few count = nat_lt count (2 ^ 32)

-- the atoms of what a date term begins with
abbrev pub atoms_of_base : Base → ℕ
atoms_of_base (Fixed point) = 0
atoms_of_base (First e) = 1

-- the atoms of a date term
abbrev pub atoms_of_date : DateTerm → ℕ
atoms_of_date term = atoms_of_base term.base

-- the atoms of one proposition, with those of each part in its place
abbrev pub atoms_step : Prop-F ℕ → ℕ
atoms_step (P.Const b) = 0
atoms_step (P.Not n) = n
atoms_step (P.All ns) = sum ns
atoms_step (P.Any ns) = sum ns
atoms_step (P.Happens e) = 1
atoms_step (P.Before e to) = 1 + atoms_of_date to
atoms_step (P.After e from) = 1 + atoms_of_date from
atoms_step (P.Within e from to) = 1 + atoms_of_date from + atoms_of_date to
atoms_step (P.Occurs s from to) = 1 + atoms_of_date from + atoms_of_date to
atoms_step (P.Holds s) = 1

-- the atoms of a proposition
abbrev pub atoms_of : Prop → ℕ
atoms_of = fold-Prop ℕ atoms_step

-- the guards of an event
abbrev pub guards_of_event : Ev → ℕ
guards_of_event (Outer event guards) = length guards
guards_of_event (Inner kind target) = 0

-- the guards of what a date term begins with
abbrev pub guards_of_base : Base → ℕ
guards_of_base (Fixed point) = 0
guards_of_base (First e) = guards_of_event e

-- the guards of a date term
abbrev pub guards_of_date : DateTerm → ℕ
guards_of_date term = guards_of_base term.base

-- the guards of one proposition, with those of each part in its place
abbrev pub guards_step : Prop-F ℕ → ℕ
guards_step (P.Const b) = 0
guards_step (P.Not n) = n
guards_step (P.All ns) = sum ns
guards_step (P.Any ns) = sum ns
guards_step (P.Happens e) = guards_of_event e
guards_step (P.Before e to) = guards_of_event e + guards_of_date to
guards_step (P.After e from) = guards_of_event e + guards_of_date from
guards_step (P.Within e from to) = guards_of_event e + guards_of_date from + guards_of_date to
guards_step (P.Occurs s from to) = guards_of_date from + guards_of_date to
guards_step (P.Holds s) = 0

-- the guards of a proposition
abbrev pub guards_of : Prop → ℕ
guards_of = fold-Prop ℕ guards_step

-- how many one proposition is, with those of each part in its place
abbrev pub size_step : Prop-F ℕ → ℕ
size_step (P.Const b) = 1
size_step (P.Not n) = 1 + n
size_step (P.All ns) = 1 + sum ns
size_step (P.Any ns) = 1 + sum ns
size_step (P.Happens e) = 1
size_step (P.Before e to) = 1
size_step (P.After e from) = 1
size_step (P.Within e from to) = 1
size_step (P.Occurs s from to) = 1
size_step (P.Holds s) = 1

-- how many propositions a proposition is, with its parts and theirs
abbrev pub size_of : Prop → ℕ
size_of = fold-Prop ℕ size_step

-- what is counted of a duty; an act has none
abbrev pub of_duty : (Prop → ℕ) → Goal → ℕ
of_duty count (G.Duty consequent) = count consequent
of_duty count (G.Act act) = 0

-- what is counted of a position's propositions
abbrev pub of_position : (Prop → ℕ) → Position → ℕ
of_position count p = count p.trigger + count p.antecedent + of_duty count p.goal

-- what is counted of all propositions of a deed
abbrev pub of_deed : (Prop → ℕ) → Deed → ℕ
of_deed count deed = sum_by (of_position count) deed.positions + sum_by count deed.posts

-- the deed's limits hold
pub record KeepsLimits (deed : Deed) : Type 0 where
  pub positions : length deed.positions ≤ 500
  pub events : length deed.events ≤ 500
  pub atoms : of_deed atoms_of deed ≤ 4000
  pub propositions : of_deed size_of deed < 2 ^ 32
  pub guards : of_deed guards_of deed < 2 ^ 32
  pub dates : length (dates_of_deed deed) < 2 ^ 32
  pub posts : length deed.posts < 2 ^ 32
  pub attributes : IsTrue (list_all (λ event. is_few (length event.attrs)) deed.events)
  pub enumerations : length deed.choices < 2 ^ 32
  pub constants : IsTrue (list_all (λ choices. is_few (length choices.names)) deed.choices)
