-- How a run goes from line to line, where its input is told.
use Rattle.std.specs.Prelude.{◌≡◌, ℕ, ◌+◌, ◌^◌, ◌≤◌, Bool, false, List, [], ◌++◌, Option, None, Some, Ok, IsTrue, ⊤, Result}
use Rattle.std.specs.Io.KnownBytes.{Appends}
use Rattle.sy_outside.specs.Lines.{lines_of, whole_lines_of}
use Rattle.sy_outside.specs.Outside.{RoseSince}
use Rattle.sy_outside.specs.LineReaderState.{LineReaderState}
use Rattle.sy_outside.specs.Writing.{AppendsProperPrefix}
use Rattle.sy_base.specs.declared.refusal.Refusal.{Refusal}
use Rattle.sy_core.specs.declared.deed.Deed.{Deed}
use Rattle.sy_core.specs.declared.happening.Happening.{Happening}
use Rattle.sy_monitor.specs.Following.{Followed}
use Rattle.sy_run.specs.Machine.Replies.{Follows}
use Rattle.sy_run.specs.Output.{IsOutput, IsOutputOf}
use Rattle.sy_run.specs.Outcomes.{IsAskedByLines, IsMonitored, Outcome}
use Rattle.sy_run.specs.Run.{Ends}
use Rattle.sy_report.specs.RefusalText.{refusal_text}
use Rattle.sy_run.specs.declared.stop.Stop.{Stop}
use Rattle.sy_run.specs.declared.stop.Stop.TheVariants as stop
use Rattle.sy_run.specs.declared.status.Status.{Status}
use Rattle.sy_run.specs.declared.status.Status.TheVariants.{Done, Found, Refused, Usage, ReadFault, WriteFault, Memory, Undecided}

-- how a run ends that goes no further: a refusal is written, and after a failed read and on want of memory nothing more
abbrev pub StopsWith : Option (List ℕ) → Option (List ℕ) → Stop → Status → Type 0
StopsWith old new (stop.Refused refusal) Refused = Appends old new (refusal_text refusal)
StopsWith old new (stop.Refused refusal) WriteFault = AppendsProperPrefix old new (refusal_text refusal)
StopsWith old new (stop.Refused refusal) Memory = Appends old new []
StopsWith old new (stop.Refused refusal) _ = ⊥
StopsWith old new stop.ReadFault ReadFault = Appends old new []
StopsWith old new stop.ReadFault _ = ⊥
StopsWith old new stop.Memory Memory = Appends old new []
StopsWith old new stop.Memory _ = ⊥

-- a failed write comes only where the count of the output rose, and all else leaves it
abbrev pub WriteCaused : ℕ → ℕ → Status → Type 0
WriteCaused write_old write_new WriteFault = RoseSince write_old write_new
WriteCaused write_old write_new status = write_new ≡ write_old

-- the statuses of a command that reads its files
abbrev pub IsReadingStatus : Status → Type 0
IsReadingStatus Found = ⊥
IsReadingStatus Usage = ⊥
IsReadingStatus Undecided = ⊥
IsReadingStatus status = ⊤

-- the statuses where the usage line is written
abbrev pub IsUsageStatus : Status → Type 0
IsUsageStatus Usage = ⊤
IsUsageStatus WriteFault = ⊤
IsUsageStatus status = ⊥

-- the statuses of a text that is made and written
abbrev pub IsWritingStatus : Status → Type 0
IsWritingStatus Done = ⊤
IsWritingStatus WriteFault = ⊤
IsWritingStatus Memory = ⊤
IsWritingStatus status = ⊥

-- what is answered to a line was written, or on a fault a front of it
abbrev pub WritesReply : Option (List ℕ) → Option (List ℕ) → List ℕ → Option Status → Type 0
WritesReply old new text None = Appends old new text
WritesReply old new text (Some WriteFault) = AppendsProperPrefix old new text
WritesReply old new text (Some status) = ⊥

-- what was written so far and what is to come are what all the bytes give
pub record SoFar (deed : Deed) (monitor : Followed) (reader : LineReaderState) (bytes : List ℕ) (left first held : Option (List ℕ)) : Type 0 where
  pub rest : List ℕ
  pub tells : left ≡ Some rest
  pub synced : IsTrue reader.ended → rest ≡ []
  -- the happenings that were noted
  pub noted : List Happening
  pub follows : Follows monitor deed noted
  -- the lines that were read
  pub lines : List (List ℕ)
  pub cut : lines_of bytes ≡ lines ++ lines_of (reader.held ++ rest)
  -- the bytes that were written for them
  pub piece : List ℕ
  pub appended : Appends first held piece
  pub says : (more : List (List ℕ)) (text : List ℕ) (is_refused : Bool) → IsOutput deed noted (reader.given + 1) more text is_refused
      → IsOutputOf deed (lines ++ more) (piece ++ text) is_refused
  -- until the end is told, these are the bytes of those lines, newlines and all
  pub front : List ℕ
  pub split : reader.ended ≡ false → bytes ≡ front ++ (reader.held ++ rest)
  pub whole : reader.ended ≡ false → (more : List ℕ) → whole_lines_of (front ++ more) ≡ lines ++ whole_lines_of more

-- where a read failed, all that the whole lines of the bytes that were taken ask for was written
abbrev pub WroteAllRead : Option (List ℕ) → Option (List ℕ) → Result Deed Stop → List ℕ → Status → Type 0
WroteAllRead old new files taken ReadFault = (text : List ℕ) × IsAskedByLines files taken text × Appends old new text
WroteAllRead old new files taken status = ⊤

-- how a stream ends whose bytes are told: as its outcome says, and after a failed read all that was read was answered
pub record StreamEnds (deed : Deed) (bytes : List ℕ) (left first held : Option (List ℕ)) (status : Status) : Type 0 where
  pub ends : (outcome : Outcome) × IsMonitored (Ok deed) bytes outcome × Ends first held outcome status
  pub all_read : (taken rest : List ℕ) → left ≡ Some rest → bytes ≡ taken ++ rest → WroteAllRead first held (Ok deed) taken status

-- a stream goes on, or ends
abbrev pub AfterLine : Deed → Followed → LineReaderState → List ℕ → Option (List ℕ) → Option (List ℕ) → Option (List ℕ) → Option Status → Type 0
AfterLine deed monitor reader bytes left first held None = SoFar deed monitor reader bytes left first held
AfterLine deed monitor reader bytes left first held (Some status) = StreamEnds deed bytes left first held status

-- the causes of how a stream ends
abbrev pub StreamCaused : ℕ → ℕ → ℕ → ℕ → Status → Type 0
StreamCaused read_old read_new write_old write_new ReadFault = RoseSince read_old read_new × (write_new ≡ write_old)
StreamCaused read_old read_new write_old write_new WriteFault = (read_new ≡ read_old) × RoseSince write_old write_new
StreamCaused read_old read_new write_old write_new status = (read_new ≡ read_old) × (write_new ≡ write_old)

-- a stream that goes on leaves both counts
abbrev pub CausedIf : ℕ → ℕ → ℕ → ℕ → Option Status → Type 0
CausedIf read_old read_new write_old write_new None = (read_new ≡ read_old) × (write_new ≡ write_old)
CausedIf read_old read_new write_old write_new (Some status) = StreamCaused read_old read_new write_old write_new status

-- the reader goes on after a line, and the count of lines is its
pub record IsReady (reader : LineReaderState) (lines : ℕ) : Type 0 where
  pub live : IsTrue reader.live
  pub counted : lines ≡ reader.given
  pub few : lines ≤ 2 ^ 32

-- the same, case by case
pub data HowStopped (old new : Option (List ℕ)) : Stop → Status → Type 0 where
  refused : (refusal : Refusal) → Appends old new (refusal_text refusal) → HowStopped old new (stop.Refused refusal) Refused
  half_refused : (refusal : Refusal) → AppendsProperPrefix old new (refusal_text refusal) → HowStopped old new (stop.Refused refusal) WriteFault
  not_refused : (refusal : Refusal) → Appends old new [] → HowStopped old new (stop.Refused refusal) Memory
  not_read : Appends old new [] → HowStopped old new stop.ReadFault ReadFault
  no_memory : Appends old new [] → HowStopped old new stop.Memory Memory
