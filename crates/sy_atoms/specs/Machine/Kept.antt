-- What is kept of a history for an event, a date and a situation, and what each step makes of it.
use Rattle.std.specs.Prelude.{ℤ, Bool, false, ◌&&◌, ◌||◌, Option, Some, None}
use Rattle.std.specs.List.{list_any}
use Rattle.sy_base.specs.declared.time.TimeUnit.{TimeUnit}
use Rattle.sy_core.specs.declared.kind.Target.{Target}
use Rattle.sy_core.specs.declared.state.StateOf.{StateOf}
use Rattle.sy_core.specs.declared.event.Ev.{Ev}
use Rattle.sy_core.specs.declared.date_term.DateTerm.{DateTerm}
use Rattle.sy_core.specs.declared.proposition.Situation.{Situation}
use Rattle.sy_core.specs.States.{same_state}
use Rattle.sy_core.specs.Moments.{date_value}
use Rattle.sy_core.specs.Propositions.{as_said}
use Rattle.sy_atoms.specs.declared.sight.Sight.{Sight}
use Rattle.sy_atoms.specs.declared.due.Due.{Due}
use Rattle.sy_atoms.specs.declared.look.Look.{Look}
use Rattle.sy_atoms.specs.Machine.Windows.{known}
use Rattle.sy_quiet.specs.Histories.{History, moments}

-- of an event, where some points count
abbrev pub sight_of : (ℤ → Bool) → Ev → History → Sight
sight_of counts e h = record { past = list_any (λ m. m.seen e && counts m.point) h.before; here = h.now.seen e }

abbrev pub noted_sight : Bool → Sight → Sight
noted_sight happens s = record { past = s.past; here = s.here || happens }

abbrev pub passed_sight : Bool → Sight → Sight
passed_sight inside s = record { past = s.past || (s.here && inside); here = false }

-- of a date term
abbrev pub due_of : TimeUnit → DateTerm → History → Due
due_of unit term h = record { value = date_value unit term (moments h) }

abbrev pub learned_due : Option ℤ → Due → Due
learned_due told d = record { value = known d.value told }

-- the situation holds of this state of its target
abbrev pub said_of : Situation → StateOf → Bool
said_of s state = as_said s.equal (same_state state s.state)

-- of a situation, by the states now and from the next point on
abbrev pub look_at : Situation → (Target → StateOf) → (Target → StateOf) → Look
look_at s now next = record { here = said_of s (now s.target); later = said_of s (next s.target) }

abbrev pub look_of : Situation → History → Look
look_of s h = look_at s h.now.state h.next

abbrev pub set_look : Option Bool → Look → Look
set_look None l = l
set_look (Some holds) l = record { here = l.here; later = holds }

abbrev pub passed_look : Look → Look
passed_look l = record { here = l.later; later = l.later }
