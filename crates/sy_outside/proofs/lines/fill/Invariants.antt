use Rattle.std.proofs.Common.{◌≡◌, ◌⊎◌, ◌+◌, ◌*◌, ◌-◌, ◌≤◌, length, vec_len, IsTrue, false, if◌then◌else◌}
use Rattle.std.specs.Option.{is_some}
use Rattle.std.specs.Io.{StartsWith, appended_bytes}
use Rattle.std.specs.Io.KnownBytes.{Consumes, IsAtEnd}
use Rattle.sy_outside.specs.LineReading.{ReadsAsNeeded}
use Rattle.sy_outside.specs.Lines.{has_newline}
use Rattle.sy_outside.specs.declared.lines.TheConstants.{LINE_LIMIT}
use Rattle.sy_outside.proofs.lines.fill.Given as goal

abbrev pub invariant-reads : goal.invariant-reads
invariant-reads g l = record {
  none : has_newline l.held.items ≡ false;
  starts : StartsWith l.held.items l.initial.held.items;
  bytes : Consumes (g.S.Source.left l.initial.source) (g.S.Source.left l.source) (appended_bytes l.initial.held.items l.held.items);
  ended : IsTrue l.ended → IsTrue l.initial.ended ⊎ IsAtEnd (g.S.Source.left l.source);
  stays : IsTrue l.initial.ended → IsTrue l.ended;
  idle : IsTrue l.initial.ended → l.held.items ≡ l.initial.held.items;
  needed : (l.held.items ≡ l.initial.held.items) ⊎ ReadsAsNeeded l.held.items;
  few : length l.initial.held.items ≤ 4096 + 65536 → length l.held.items ≤ 4096 + 65536;
  faults : g.S.Source.faults l.source ≡ g.S.Source.faults l.initial.source;
  told : is_some (g.S.Source.left l.source) ≡ is_some (g.S.Source.left l.initial.source);
}

-- each read holds more, or tells the end; where the reads stop is for the clauses to say, so the number is generous
abbrev pub decreases-reads : goal.decreases-reads
decreases-reads g l = (2 * LINE_LIMIT + 1 - vec_len l.held) + (if l.ended then 0 else 1)
