-- One line further: what was found and cut off makes what `next` answers.
use Rattle.std.proofs.Common.{◌≡◌, ◌≤◌, ◌+◌, ℕ, ◌⊎◌, inl, inr, ◌<◌, List, [], ◌++◌, length, drop, Bool, IsTrue, IsNone, is_none, ap, refl, subst, ◌∙◌, arith, None, Some, Ok, Err, Result}
use Rattle.std.proofs.KnownBytes.{starts_with_rest}
use Rattle.std.proofs.Math.ListN.{drop_of_length-le}
use Rattle.std.specs.declared.option.Option.{Option}
use Rattle.std.specs.Io.{StartsWith}
use Rattle.std.specs.Io.KnownBytes.{Consumes, IsAtEnd}
use Rattle.sy_outside.specs.Lines.{has_newline}
use Rattle.sy_outside.specs.LineReaderState.{LineReaderState}
use Rattle.sy_outside.specs.LineReading.{Cuts, Goes, Next, ReadsAsNeeded}
use Rattle.sy_outside.specs.Machine.Filling.{CutsHeld}
use Rattle.sy_outside.specs.declared.lines.Cut.{Cut}
use Rattle.sy_outside.specs.declared.lines.Line.{Line}
use Rattle.sy_outside.specs.declared.lines.LineFault.{LineFault}
use Rattle.sy_outside.specs.declared.lines.LineFault.TheVariants.{ReadFault, TooLong, TooManyLines, Memory}

-- what a search for the next newline found, which holds these bytes now
pub record Found (old new : LineReaderState) (left_old left_new : Option (List ℕ)) (held : List ℕ) : Type 0 where
  pub starts : StartsWith held old.held
  pub bytes : Consumes left_old left_new (drop (length old.held) held)
  pub ended : IsTrue new.ended → IsTrue old.ended ⊎ IsAtEnd left_new
  pub stays : IsTrue old.ended → IsTrue new.ended
  pub idle : (IsTrue (has_newline old.held) ⊎ IsTrue old.ended) → held ≡ old.held
  pub needed : (held ≡ old.held) ⊎ ReadsAsNeeded held

pub next_of : (old new : LineReaderState) (left_old left_new : Option (List ℕ)) (held : List ℕ) (result : Result (Option Line) LineFault)
    → Found old new left_old left_new held → Cuts held new.held new.ended old.given result → Goes old new result → Next old new left_old left_new result
next_of old new left_old left_new held result found cuts goes =
    let whole : held ≡ old.held ++ drop (length old.held) held = starts_with_rest held old.held found.starts in
    let none : held ≡ old.held → drop (length old.held) held ≡ [] = λ same. drop_of_length-le held (omega (arith, ap length same)) in
    record {
      taken = drop (length old.held) held;
      consumed = found.bytes;
      cuts = subst (λ l. Cuts l new.held new.ended old.given result) whole cuts;
      goes = goes;
      ended = found.ended;
      stays = found.stays;
      needed = elim found.needed [ inl same ↦ inl (none same) | inr needed ↦ inr (subst ReadsAsNeeded whole needed) ];
      idle = λ why. none (found.idle why);
    }

-- nothing was cut off
pub cuts_fault : (held : List ℕ) (newline : Option ℕ) (ended : Bool) (given : ℕ) (fault : LineFault) → length held ≤ 4096 + 65536 → CutsHeld held newline given (Err fault) → Cuts held held ended given (Err fault)
cuts_fault held newline ended given ReadFault few cuts = absurd cuts
cuts_fault held newline ended given TooLong few cuts = (cuts.0, cuts.1, cuts.2, few)
cuts_fault held newline ended given TooManyLines few cuts = cuts
cuts_fault held newline ended given Memory few cuts = tt

none_is : (newline : Option ℕ) → IsTrue (is_none newline) → IsNone newline
none_is None t = refl
none_is (Some place) t = absurd (cc)

-- a line was cut off: its newline was held, or the input had ended
pub cuts_line : (held rest : List ℕ) (newline : Option ℕ) (ended : Bool) (given : ℕ) (cut : Cut)
    → (IsNone newline → IsTrue ended ⊎ (4096 < length held)) → rest ≡ drop cut.size held
    → CutsHeld held newline given (Ok (Some cut)) → Cuts held rest ended given (Ok (Some cut.line))
cuts_line held rest newline ended given cut whole same cuts = record {
  splits = elim cuts.1.splits [
    | inl line ↦ inl (rw same line)
    | inr last ↦ inr (last.0, same ∙ last.1, last.2, elim (whole (none_is newline last.3)) [ inl over ↦ over | inr long ↦ absurd (omega (arith, ap length last.0, cuts.1.short)) ])
  ];
  one = cuts.1.one;
  short = cuts.1.short;
  number = cuts.1.number;
  below = cuts.1.below;
}
