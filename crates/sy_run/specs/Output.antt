-- What a run of `monitor` writes for the lines of its log.
-- Each line says one thing, or is refused for the first of its faults. A happening that a line tells is noted, where it isn't noted yet. A line
-- that asks for a report writes the table as of its date, over what the lines before it noted. The first refusal is written, and ends the output.
use Rattle.std.specs.Prelude.{ℕ, ◌+◌, ◌^◌, ◌<◌, ◌≤◌, Bool, true, false, ℤ, List, [], ◌∷◌, ◌++◌, length, Result, Ok, Err}
use Rattle.std.specs.List.{Contains}
use Rattle.sy_base.specs.declared.refusal.FileKind.TheVariants.{Log}
use Rattle.sy_base.specs.declared.refusal.FaultName.{FaultName}
use Rattle.sy_base.specs.declared.refusal.FaultName.TheVariants.{TooLong, TooMany, TooManyLines}
use Rattle.sy_core.specs.declared.deed.Deed.{Deed}
use Rattle.sy_core.specs.declared.happening.Happening.{Happening}
use Rattle.sy_core.specs.Tables.{table_as_of}
use Rattle.sy_log.specs.declared.read.Entry.{Entry}
use Rattle.sy_log.specs.declared.read.Entry.TheVariants.{Blank, Noted, Report}
use Rattle.sy_log.specs.Entries.{IsEntry}
use Rattle.sy_report.specs.ReportText.{report_text}
use Rattle.sy_report.specs.RefusalText.{refusal_text, of_line}

-- what the line with a number says, or the first of its faults: the limits of a log are looked at first
pub data Says (deed : Deed) (number : ℕ) (line : List ℕ) : Result Entry FaultName → Type 0 where
  too_many_lines : 2 ^ 32 < number → Says deed number line (Err TooManyLines)
  too_long : number ≤ 2 ^ 32 → 4096 < length line → Says deed number line (Err TooLong)
  says : (said : Result Entry FaultName) → number ≤ 2 ^ 32 → length line ≤ 4096 → IsEntry deed line said → Says deed number line said

-- what a line does
pub data Reply : Type 0 where
  -- these bytes are written, and these happenings are noted from then on
  Goes : List ℕ → List Happening → Reply
  -- these bytes are written, and the output ends
  Stops : List ℕ → Reply

-- the line with a number is refused
abbrev pub refused : ℕ → FaultName → Reply
refused number name = Stops (refusal_text (of_line Log number name))

-- the reply to what the line with a number says, where these happenings are noted
pub data IsReply (deed : Deed) (noted : List Happening) (number : ℕ) : Result Entry FaultName → Reply → Type 0 where
  blank : IsReply deed noted number (Ok Blank) (Goes [] noted)
  known : (h : Happening) → Contains noted h → IsReply deed noted number (Ok (Noted h)) (Goes [] noted)
  new : (h : Happening) → (Contains noted h → ⊥) → length noted < 200000
      → IsReply deed noted number (Ok (Noted h)) (Goes [] (noted ++ h ∷ []))
  too_many : (h : Happening) → (Contains noted h → ⊥) → 200000 ≤ length noted
      → IsReply deed noted number (Ok (Noted h)) (refused number TooMany)
  report : (date : ℤ) → IsReply deed noted number (Ok (Report date)) (Goes (report_text deed (table_as_of deed noted date)) noted)
  fault : (name : FaultName) → IsReply deed noted number (Err name) (refused number name)

-- the reply to a line
abbrev pub IsAnswered : Deed → List Happening → ℕ → List ℕ → Reply → Type 0
IsAnswered deed noted number line reply = (said : Result Entry FaultName) × Says deed number line said × IsReply deed noted number said reply

-- what some lines write, the first of which has this number, where these happenings are noted; and whether one of them is refused
pub data IsOutput (deed : Deed) : List Happening → ℕ → List (List ℕ) → List ℕ → Bool → Type 0 where
  ends : (noted : List Happening) (number : ℕ) → IsOutput deed noted number [] [] false
  goes_on : (noted more : List Happening) (number : ℕ) (line : List ℕ) (lines : List (List ℕ)) (text later : List ℕ) (is_refused : Bool)
      → IsAnswered deed noted number line (Goes text more) → IsOutput deed more (number + 1) lines later is_refused
      → IsOutput deed noted number (line ∷ lines) (text ++ later) is_refused
  stops : (noted : List Happening) (number : ℕ) (line : List ℕ) (lines : List (List ℕ)) (text : List ℕ)
      → IsAnswered deed noted number line (Stops text) → IsOutput deed noted number (line ∷ lines) text true

-- what the lines of a log write under a deed
abbrev pub IsOutputOf : Deed → List (List ℕ) → List ℕ → Bool → Type 0
IsOutputOf deed lines text is_refused = IsOutput deed [] 1 lines text is_refused
