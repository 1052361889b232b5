-- What a run answers to a line of its log, and to the next line of its input.
use Rattle.std.specs.Prelude.{◌≡◌, ◌↔◌, ℕ, ⊤, false, length, List, [], ◌∷◌, ◌++◌, ◌+◌, ◌^◌, ◌≤◌, Option, None, Some, Result, Ok, Err, IsTrue}
use Rattle.std.specs.List.{Contains}
use Rattle.sy_outside.specs.Lines.{lines_of, has_newline}
use Rattle.sy_outside.specs.LineReaderState.{LineReaderState}
use Rattle.sy_outside.specs.declared.lines.LineFault.{LineFault}
use Rattle.sy_outside.specs.declared.lines.LineFault.TheVariants as F
use Rattle.sy_base.specs.declared.refusal.FileKind.TheVariants.{Log}
use Rattle.sy_base.specs.declared.refusal.FaultName.TheVariants.{TooLong, TooManyLines}
use Rattle.sy_core.specs.declared.deed.Deed.{Deed}
use Rattle.sy_core.specs.declared.happening.Happening.{Happening}
use Rattle.sy_monitor.specs.Following.{Followed}
use Rattle.sy_run.specs.Output.{Goes, IsAnswered, Reply, Stops}
use Rattle.sy_report.specs.RefusalText.{refusal_text, of_line}
use Rattle.sy_run.specs.declared.stop.Stop.{Stop}
use Rattle.sy_run.specs.declared.stop.Stop.TheVariants.{ReadFault, Refused, Memory}

-- a monitor follows this deed, and holds just the happenings that were noted, each once
pub record Follows (monitor : Followed) (deed : Deed) (noted : List Happening) : Type 0 where
  pub keeps : monitor.deed ≡ deed
  pub same : (h : Happening) → Contains monitor.happened h ↔ Contains noted h
  pub counted : length monitor.happened ≡ length noted

-- a text is that of a reply which passes a test and goes on, and the monitor then holds what is noted
pub record IsTextOf (monitor : Followed) (deed : Deed) (IsGiven : Reply → Type 0) (text : List ℕ) : Type 0 where
  pub noted : List Happening
  pub given : IsGiven (Goes text noted)
  pub follows : Follows monitor deed noted

-- what is answered is a reply that passes a test
abbrev pub Replies : Followed → Deed → (Reply → Type 0) → Result (List ℕ) Stop → Type 0
Replies monitor deed IsGiven (Ok text) = IsTextOf monitor deed IsGiven text
Replies monitor deed IsGiven (Err (Refused refusal)) = IsGiven (Stops (refusal_text refusal))
Replies monitor deed IsGiven (Err ReadFault) = ⊥
Replies monitor deed IsGiven (Err Memory) = ⊤

-- why a log goes no further after so many lines
abbrev pub stop_at : ℕ → LineFault → Stop
stop_at lines F.ReadFault = ReadFault
stop_at lines F.TooLong = Refused (of_line Log (lines + 1) TooLong)
stop_at lines F.TooManyLines = Refused (of_line Log (lines + 1) TooManyLines)
stop_at lines F.Memory = Memory

-- the next line was answered by this text
pub record Answers (deed : Deed) (noted : List Happening) (monitor : Followed) (old new : LineReaderState) (rest : List ℕ) (left : Option (List ℕ)) (text : List ℕ) : Type 0 where
  pub line : List ℕ
  pub after : List ℕ
  pub tells : left ≡ Some after
  pub synced : IsTrue new.ended → after ≡ []
  pub stays : IsTrue old.ended → IsTrue new.ended
  pub cut : lines_of (old.held ++ rest) ≡ line ∷ lines_of (new.held ++ after)
  pub reply : IsTextOf monitor deed (IsAnswered deed noted (old.given + 1) line) text
  -- until the end is told, the line had its newline
  pub whole : new.ended ≡ false → old.held ++ rest ≡ line ++ 10 ∷ (new.held ++ after)
  pub one : has_newline line ≡ false

-- the next line is refused
pub record Refuses (deed : Deed) (noted : List Happening) (old : LineReaderState) (rest text : List ℕ) : Type 0 where
  pub line : List ℕ
  pub others : List (List ℕ)
  pub cut : lines_of (old.held ++ rest) ≡ line ∷ others
  pub stops : IsAnswered deed noted (old.given + 1) line (Stops text)

-- a read failed, after some bytes that end no line
pub record BreaksOff (old : LineReaderState) (rest : List ℕ) (left : Option (List ℕ)) : Type 0 where
  pub part : List ℕ
  pub after : List ℕ
  pub tells : left ≡ Some after
  pub split : old.held ++ rest ≡ part ++ after
  pub none : has_newline part ≡ false
  pub open_end : old.ended ≡ false

-- what is answered to the next line of an input that is told, after these happenings
abbrev pub RepliesNext : Deed → List Happening → Followed → LineReaderState → LineReaderState → List ℕ → Option (List ℕ) → Result (Option (List ℕ)) Stop → Type 0
RepliesNext deed noted monitor old new rest left (Ok (Some text)) = Answers deed noted monitor old new rest left text
RepliesNext deed noted monitor old new rest left (Ok None) = old.held ++ rest ≡ []
RepliesNext deed noted monitor old new rest left (Err (Refused refusal)) = Refuses deed noted old rest (refusal_text refusal)
RepliesNext deed noted monitor old new rest left (Err ReadFault) = BreaksOff old rest left
RepliesNext deed noted monitor old new rest left (Err Memory) = ⊤

-- after a text the reader goes on, and the count of lines is its
abbrev pub GoesOn : LineReaderState → LineReaderState → ℕ → Result (Option (List ℕ)) Stop → Type 0
GoesOn old new lines (Ok (Some text)) = IsTrue new.live × (new.given ≡ old.given + 1) × (lines ≡ new.given) × (lines ≤ 2 ^ 32)
GoesOn old new lines (Ok None) = ⊤
GoesOn old new lines (Err e) = ⊤
