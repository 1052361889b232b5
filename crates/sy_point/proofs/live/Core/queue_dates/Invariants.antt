use Rattle.std.proofs.Common.{◌≡◌, ◌≤◌, ℕ, List, length}
use Rattle.sy_core.specs.declared.deed.Deed.{Deed}
use Rattle.sy_core.specs.declared.happening.Happening.{Happening}
use Rattle.sy_core.specs.Wakes.{dates_of_deed}
use Rattle.sy_present.specs.Standing.{StandsFor}
use Rattle.sy_point.specs.Machine.Known.{HasSameButDates, HasSpare, KnowsFirst, date_values}
use Rattle.sy_point.proofs.live.Core.queue_dates.Given as goal

abbrev pub invariant-loop-term : goal.invariant-loop-term
invariant-loop-term l = record {
  same : HasSameButDates l.fn.self l.self;
  spare : HasSpare l.self;
  end : l.term-end ≡ length l.fn.self.queued.items;
  within : l.term ≤ l.term-end;
  known : (deed : Deed) (narrative : List Happening) (n : ℕ)
      → StandsFor l.fn.self.present deed narrative n
      → length l.fn.self.queued.items ≡ length (dates_of_deed deed)
      → KnowsFirst l.fn.self (date_values deed narrative n) 0
      → KnowsFirst l.self (date_values deed narrative n) l.term;
}
