-- The next line of an input that is told, and what is answered to it.
use Rattle.std.proofs.Common.{◌≡◌, ℕ, ◌+◌, inl, inr, List, [], ◌∷◌, ◌++◌, Bool, true, false, refl, sym, ap, subst, ◌∙◌, append_assoc, arith, None, Some, Ok, Err, IsTrue}
use Rattle.std.specs.declared.option.Option.{Option}
use Rattle.std.specs.Option.{is_some}
use Rattle.sy_outside.specs.Lines.{lines_of}
use Rattle.sy_outside.specs.LineReaderState.{LineReaderState}
use Rattle.sy_outside.specs.LineReading.{Next, CutsLines}
use Rattle.sy_outside.specs.declared.lines.Line.{Line}
use Rattle.sy_outside.specs.declared.lines.LineFault.{LineFault}
use Rattle.sy_outside.specs.declared.lines.LineFault.TheVariants as F
use Rattle.sy_base.specs.declared.refusal.FaultName.TheVariants.{TooLong, TooManyLines}
use Rattle.sy_outside.proofs.ToldLines.{taken_from, next-synced}
use Rattle.sy_core.specs.declared.deed.Deed.{Deed}
use Rattle.sy_core.specs.declared.happening.Happening.{Happening}
use Rattle.sy_base.specs.declared.refusal.FileKind.TheVariants.{Log}
use Rattle.sy_report.specs.RefusalText.{of_line, refusal_text}
use Rattle.sy_monitor.specs.Following.{Followed}
use Rattle.sy_run.specs.Output as o
use Rattle.sy_run.specs.Output.{IsAnswered, Stops}
use Rattle.sy_run.specs.Machine.Replies.{IsTextOf, Replies, Answers, RepliesNext, stop_at}
use Rattle.sy_run.specs.declared.stop.Stop.{Stop}
use Rattle.sy_run.specs.declared.stop.Stop.TheVariants.{ReadFault, Refused, Memory}

-- an object that told its bytes still does
pub after_of : (left : Option (List ℕ)) → is_some left ≡ true → (after : List ℕ) × (left ≡ Some after)
after_of None t = absurd (cc)
after_of (Some after) t = (after, refl)

pub not_both : (b : Bool) → b ≡ false → IsTrue b → ⊥
not_both b f t = cc

pub false_of : (b : Bool) → (IsTrue b → ⊥) → b ≡ false
false_of b never = elim b as (λ d. (IsTrue d → ⊥) → d ≡ false) [ true ↦ λ n. absurd (n refl) | false ↦ λ n. refl ] never

module _ (deed : Deed) (noted : List Happening) where
  module _ (monitor : Followed) (old new : LineReaderState) (rest after : List ℕ) (left : Option (List ℕ)) (tells : left ≡ Some after) (synced : IsTrue old.ended → rest ≡ []) where
    -- the log goes no further
    pub fault_told : (lines : ℕ) (fault : LineFault) → lines ≡ old.given → Next old new (Some rest) left (Err fault) → CutsLines old new rest after (Err fault) → RepliesNext deed noted monitor old new rest left (Err (stop_at lines fault))
    fault_told lines F.ReadFault count next cuts =
        let taken : rest ≡ next.taken ++ after = taken_from rest after next.taken left tells next.consumed in record {
          part = old.held ++ next.taken;
          after = after;
          tells = tells;
          split = ap (λ l. old.held ++ l) taken ∙ sym (append_assoc old.held next.taken after);
          none = next.cuts.0;
          open_end = false_of old.ended (λ t. not_both new.ended next.cuts.2 (next.stays t));
        }
    fault_told lines F.TooLong count next cuts = record {
      line = cuts.0;
      others = cuts.1;
      cut = cuts.2;
      stops = subst (λ (t : List ℕ). IsAnswered deed noted (old.given + 1) cuts.0 (Stops t)) (ap (λ n. refusal_text (of_line Log (n + 1) TooLong)) (sym count))
          (Err TooLong, o.too_long (omega (arith, next.cuts.2)) cuts.3, o.fault TooLong);
    }
    fault_told lines F.TooManyLines count next cuts = record {
      line = cuts.0;
      others = cuts.1;
      cut = cuts.2;
      stops = subst (λ (t : List ℕ). IsAnswered deed noted (old.given + 1) cuts.0 (Stops t)) (ap (λ n. refusal_text (of_line Log (n + 1) TooManyLines)) (sym count))
          (Err TooManyLines, o.too_many_lines (omega (arith, next.cuts.1)), o.fault TooManyLines);
    }
    fault_told lines F.Memory count next cuts = tt

    -- a line was answered by a text
    pub text_told : (line : Line) (text : List ℕ) → Next old new (Some rest) left (Ok (Some line)) → CutsLines old new rest after (Ok (Some line))
        → IsTextOf monitor deed (IsAnswered deed noted line.number line.bytes) text → Answers deed noted monitor old new rest left text
    text_told line text next cuts is =
        let taken : rest ≡ next.taken ++ after = taken_from rest after next.taken left tells next.consumed in record {
          line = line.bytes;
          after = after;
          tells = tells;
          synced = next-synced old new rest after left tells synced (Ok (Some line)) next;
          stays = next.stays;
          cut = cuts;
          reply = subst (λ (n : ℕ). IsTextOf monitor deed (IsAnswered deed noted n line.bytes) text) next.cuts.number is;
          whole = λ going. elim next.cuts.splits [
            | inl cut ↦
                ap (λ l. old.held ++ l) taken ∙ sym (append_assoc old.held next.taken after) ∙ ap (λ l. l ++ after) cut ∙ append_assoc line.bytes (10 ∷ new.held) after
            | inr last ↦ absurd (not_both new.ended going last.3)
          ];
          one = next.cuts.one;
        }

    -- a line was refused
    pub stop_told : (line : Line) (why : Stop) → Next old new (Some rest) left (Ok (Some line)) → CutsLines old new rest after (Ok (Some line))
        → Replies monitor deed (IsAnswered deed noted line.number line.bytes) (Err why) → RepliesNext deed noted monitor old new rest left (Err why)
    stop_told line ReadFault next cuts replies = absurd replies
    stop_told line (Refused refusal) next cuts replies = record {
      line = line.bytes;
      others = lines_of (new.held ++ after);
      cut = cuts;
      stops = subst (λ (n : ℕ). IsAnswered deed noted n line.bytes (Stops (refusal_text refusal))) next.cuts.number replies;
    }
    stop_told line Memory next cuts replies = tt
