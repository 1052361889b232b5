-- What is done to each sort of atom, and that this takes what is kept of one history to what is kept of another.
use Rattle.std.specs.Prelude.{◌≡◌, ℤ}
use Rattle.sy_base.specs.declared.time.TimeUnit.{TimeUnit}
use Rattle.sy_core.specs.declared.event.Ev.{Ev}
use Rattle.sy_core.specs.declared.date_term.DateTerm.{DateTerm}
use Rattle.sy_core.specs.declared.proposition.Situation.{Situation}
use Rattle.sy_atoms.specs.declared.atom.Atom.{Atom}
use Rattle.sy_atoms.specs.declared.news.News.{News}
use Rattle.sy_quiet.specs.Histories.{History}
use Rattle.sy_atoms.specs.Machine.Told.{update_of_happens, update_of_before, update_of_after, update_of_within, update_of_occurs, update_of_holds}
use Rattle.sy_atoms.specs.Machine.Atoms.{happens_of, before_of, after_of, within_of, occurs_of, holds_of, told_atom}

pub record Step : Type 0 where
  pub happens : Ev → Atom → Atom
  pub before : Ev → DateTerm → Atom → Atom
  pub after : Ev → DateTerm → Atom → Atom
  pub within : Ev → DateTerm → DateTerm → Atom → Atom
  pub occurs : Situation → DateTerm → DateTerm → Atom → Atom
  pub holds : Situation → Atom → Atom

-- news are told
abbrev pub news_step : TimeUnit → ℤ → News → Step
news_step unit point news = record {
  happens = λ e. told_atom (update_of_happens news e);
  before = λ e to. told_atom (update_of_before unit point news e to);
  after = λ e from. told_atom (update_of_after unit point news e from);
  within = λ e from to. told_atom (update_of_within unit point news e from to);
  occurs = λ s from to. told_atom (update_of_occurs unit point news s from to);
  holds = λ s. told_atom (update_of_holds news s);
}

-- the same is done to all
abbrev pub same_step : (Atom → Atom) → Step
same_step f = record {
  happens = λ e. f;
  before = λ e to. f;
  after = λ e from. f;
  within = λ e from to. f;
  occurs = λ s from to. f;
  holds = λ s. f;
}

-- each sort of atom goes on so from the one history to the other
pub record Leads (unit : TimeUnit) (h k : History) (step : Step) : Type 0 where
  pub happens : (e : Ev) → step.happens e (happens_of unit h e) ≡ happens_of unit k e
  pub before : (e : Ev) (to : DateTerm) → step.before e to (before_of unit h e to) ≡ before_of unit k e to
  pub after : (e : Ev) (from : DateTerm) → step.after e from (after_of unit h e from) ≡ after_of unit k e from
  pub within : (e : Ev) (from to : DateTerm) → step.within e from to (within_of unit h e from to) ≡ within_of unit k e from to
  pub occurs : (s : Situation) (from to : DateTerm) → step.occurs s from to (occurs_of unit h s from to) ≡ occurs_of unit k s from to
  pub holds : (s : Situation) → step.holds s (holds_of unit h s) ≡ holds_of unit k s
