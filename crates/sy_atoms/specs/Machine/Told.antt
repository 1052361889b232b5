-- What news tell of each sort of atom, and what they make of a history.
use Rattle.std.specs.Prelude.{ℤ, Bool, false, Option, Some, None, if◌then◌else◌}
use Rattle.sy_base.specs.declared.time.TimeUnit.{TimeUnit}
use Rattle.sy_core.specs.declared.event.Ev.{Ev}
use Rattle.sy_core.specs.declared.date_term.Base.{Base}
use Rattle.sy_core.specs.declared.date_term.Base.TheVariants.{Fixed, First}
use Rattle.sy_core.specs.declared.date_term.DateTerm.{DateTerm}
use Rattle.sy_core.specs.declared.proposition.Situation.{Situation}
use Rattle.sy_core.specs.Matching.{matches}
use Rattle.sy_core.specs.Mentions.{same_target}
use Rattle.sy_core.specs.Moments.{all_added}
use Rattle.sy_atoms.specs.declared.news.News.{News}
use Rattle.sy_atoms.specs.declared.news.News.TheVariants as N
use Rattle.sy_atoms.specs.declared.update.Update.{Update}
use Rattle.sy_quiet.specs.Histories.{History, seeing, firing, setting, is_inner}
use Rattle.sy_atoms.specs.Machine.Windows.{learned}
use Rattle.sy_atoms.specs.Machine.Kept.{said_of}

-- the event happens by the news
abbrev pub hits_of : News → Ev → Bool
hits_of (N.Seen what) e = matches e what.now
hits_of (N.Fired kind target) e = is_inner kind target e
hits_of (N.Set target state) e = false

-- the history with the news
abbrev pub telling : News → History → History
telling (N.Seen what) h = seeing what.now h
telling (N.Fired kind target) h = firing kind target h
telling (N.Set target state) h = setting target state h

-- what a date term begins with happens, where these events do
abbrev pub begins : (Ev → Bool) → Base → Bool
begins hits (Fixed point) = false
begins hits (First e) = hits e

-- the value that a date term comes to have at a point, where these events happen
abbrev pub news_of_date : TimeUnit → ℤ → (Ev → Bool) → DateTerm → Option ℤ
news_of_date unit point hits term = learned (begins hits term.base) (all_added unit point term.plus)

-- whether a situation holds from the next point on, where the news are of its target
abbrev pub news_of_situation : News → Situation → Option Bool
news_of_situation (N.Seen what) s = None
news_of_situation (N.Fired kind target) s = None
news_of_situation (N.Set target state) s = if same_target target s.target then Some (said_of s state) else None

-- what is told of each sort of atom
abbrev pub update_of_happens : News → Ev → Update
update_of_happens news e = record { happens = hits_of news e; from = None; to = None; holds = None }

abbrev pub update_of_holds : News → Situation → Update
update_of_holds news s = record { happens = false; from = None; to = None; holds = news_of_situation news s }

module _ (unit : TimeUnit) (point : ℤ) (news : News) where
  abbrev date : DateTerm → Option ℤ
  date term = news_of_date unit point (hits_of news) term

  abbrev pub update_of_before : Ev → DateTerm → Update
  update_of_before e to = record { happens = hits_of news e; from = None; to = date to; holds = None }

  abbrev pub update_of_after : Ev → DateTerm → Update
  update_of_after e from = record { happens = hits_of news e; from = date from; to = None; holds = None }

  abbrev pub update_of_within : Ev → DateTerm → DateTerm → Update
  update_of_within e from to = record { happens = hits_of news e; from = date from; to = date to; holds = None }

  abbrev pub update_of_occurs : Situation → DateTerm → DateTerm → Update
  update_of_occurs s from to = record { happens = false; from = date from; to = date to; holds = news_of_situation news s }
