-- What is kept for each sort of atom, what each step makes of it, and the verdict that it gives.
use Rattle.std.specs.Prelude.{ℤ, Bool, true, false, not, ◌&&◌, ◌||◌, Option, int_le}
use Rattle.std.specs.List.{list_any}
use Rattle.sy_base.specs.declared.time.TimeUnit.{TimeUnit}
use Rattle.sy_core.specs.declared.event.Ev.{Ev}
use Rattle.sy_core.specs.declared.date_term.DateTerm.{DateTerm}
use Rattle.sy_core.specs.declared.proposition.Situation.{Situation}
use Rattle.sy_core.specs.declared.table.Verdict.{Verdict}
use Rattle.sy_core.specs.Moments.{date_value}
use Rattle.sy_core.specs.Propositions.{situation_holds, verdict_by, with_date}
use Rattle.sy_atoms.specs.declared.sight.Sight.{Sight}
use Rattle.sy_atoms.specs.declared.atom.Atom.{Atom}
use Rattle.sy_atoms.specs.declared.atom.Atom.TheVariants as A
use Rattle.sy_atoms.specs.declared.update.Update.{Update}
use Rattle.sy_quiet.specs.Histories.{History, moments}
use Rattle.sy_atoms.specs.Machine.Windows.{always, before_date, after_date, between, overlaps}
use Rattle.sy_atoms.specs.Machine.Kept.{sight_of, noted_sight, passed_sight, due_of, learned_due, look_of, set_look, passed_look}

module _ (unit : TimeUnit) (h : History) where
  abbrev pub value_of : DateTerm → Option ℤ
  value_of term = date_value unit term (moments h)

  abbrev pub happens_of : Ev → Atom
  happens_of e = A.Happens (sight_of always e h)

  abbrev pub before_of : Ev → DateTerm → Atom
  before_of e to = A.Before (sight_of (before_date (value_of to)) e h) (due_of unit to h)

  abbrev pub after_of : Ev → DateTerm → Atom
  after_of e from = A.After (sight_of (after_date (value_of from)) e h) (due_of unit from h)

  abbrev pub within_of : Ev → DateTerm → DateTerm → Atom
  within_of e from to = A.Within (sight_of (between (value_of from) (value_of to)) e h) (due_of unit from h) (due_of unit to h)

  -- the situation failed at a point gone by that counts
  abbrev pub failed_before : (ℤ → Bool) → Situation → Bool
  failed_before counts s = list_any (λ m. not (situation_holds s m) && counts m.point) h.before

  abbrev pub occurs_of : Situation → DateTerm → DateTerm → Atom
  occurs_of s from to = A.Occurs (look_of s h) (failed_before (between (value_of from) (value_of to)) s) (due_of unit from h) (due_of unit to h)

  abbrev pub holds_of : Situation → Atom
  holds_of s = A.Holds (look_of s h)

-- something is told now
abbrev pub told_atom : Update → Atom → Atom
told_atom u (A.Happens s) = A.Happens (noted_sight u.happens s)
told_atom u (A.Before s to) = A.Before (noted_sight u.happens s) (learned_due u.to to)
told_atom u (A.After s from) = A.After (noted_sight u.happens s) (learned_due u.from from)
told_atom u (A.Within s from to) = A.Within (noted_sight u.happens s) (learned_due u.from from) (learned_due u.to to)
told_atom u (A.Occurs l failed from to) = A.Occurs (set_look u.holds l) failed (learned_due u.from from) (learned_due u.to to)
told_atom u (A.Holds l) = A.Holds (set_look u.holds l)

-- the present point goes by
abbrev pub passed_atom : ℤ → Atom → Atom
passed_atom point (A.Happens s) = A.Happens (passed_sight true s)
passed_atom point (A.Before s to) = A.Before (passed_sight (before_date to.value point) s) to
passed_atom point (A.After s from) = A.After (passed_sight (after_date from.value point) s) from
passed_atom point (A.Within s from to) = A.Within (passed_sight (between from.value to.value point) s) from to
passed_atom point (A.Occurs l failed from to) = A.Occurs (passed_look l) (failed || (not l.here && between from.value to.value point)) from to
passed_atom point (A.Holds l) = A.Holds (passed_look l)

-- the present point goes by, and those from the first on and before the last, at which nothing happens
abbrev pub passed_to : ℤ → ℤ → ℤ → Atom → Atom
passed_to point first last (A.Occurs l failed from to) =
    A.Occurs (passed_look l) ((failed || (not l.here && between from.value to.value point)) || (not l.later && overlaps from.value to.value first last)) from to
passed_to point first last (A.Happens s) = passed_atom point (A.Happens s)
passed_to point first last (A.Before s to) = passed_atom point (A.Before s to)
passed_to point first last (A.After s from) = passed_atom point (A.After s from)
passed_to point first last (A.Within s from to) = passed_atom point (A.Within s from to)
passed_to point first last (A.Holds l) = passed_atom point (A.Holds l)

-- it happened at a point that counts, the present one included
abbrev pub seen_by : Sight → Bool → Bool
seen_by s inside = s.past || (s.here && inside)

-- the verdict
abbrev pub atom_verdict : ℤ → Atom → Verdict
atom_verdict point (A.Happens s) = verdict_by (seen_by s true) false
atom_verdict point (A.Before s to) = with_date to.value (λ d. verdict_by (seen_by s (before_date to.value point)) (int_le d point))
atom_verdict point (A.After s from) = with_date from.value (λ d. verdict_by (seen_by s (after_date from.value point)) false)
atom_verdict point (A.Within s from to) =
    with_date from.value (λ d.
    with_date to.value (λ d'. verdict_by (seen_by s (between from.value to.value point)) (int_le d' point)))
atom_verdict point (A.Occurs l failed from to) =
    let fails = failed || (not l.here && between from.value to.value point) in
    with_date from.value (λ d. with_date to.value (λ d'. verdict_by (int_le d' point && not fails) fails))
atom_verdict point (A.Holds l) = verdict_by l.here (not l.here)
