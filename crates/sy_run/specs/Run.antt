-- What a run of the program does. Where the bytes are known of all that a command reads, it has one outcome in the world before it. What
-- the run writes and the status that it returns are that outcome's, unless a call outside fails or memory is wanting.
use Rattle.std.specs.Prelude.{◌≡◌, ◌⊎◌, ℕ, List, [], ◌++◌, Option, Some, Ok, ⊤}
use Rattle.std.specs.Io.KnownBytes.{Appends}
use Rattle.sy_outside.specs.Writing.{AppendsPrefix, AppendsProperPrefix}
use Rattle.sy_core.specs.declared.deed.Deed.{Deed}
use Rattle.sy_run.specs.Commands.{Command, Compile, Monitor, Unknown, ReadsInput}
use Rattle.sy_run.specs.Outcomes.{End, Finished, Stopped, Missing, Misused, GivesDeed, IsAskedFor, IsOutcome, Outcome}
use Rattle.sy_run.specs.World.{World, FilesFailed, InputFailed, OutputFailed, ReadsSteady, WritesSteady, NoneFailed, InputStays}
use Rattle.sy_run.specs.declared.status.Status.{Status}
use Rattle.sy_run.specs.declared.status.Status.TheVariants.{Done, Found, Refused, Usage, ReadFault, WriteFault, Memory, Undecided}

-- the bytes are known of all that a command reads
abbrev pub IsKnown : {A : Type 0} → Option A → Type 0
IsKnown {A = A} x = (a : A) × (x ≡ Some a)

abbrev pub KnowsFor : Command → World → Type 0
KnowsFor (Compile spec) world = IsKnown (world.file spec)
KnowsFor (Monitor spec bind) world = IsKnown (world.file spec) × IsKnown (world.file bind) × IsKnown world.left
KnowsFor Unknown world = ⊤

-- the output before and after a run with this outcome and status. After a failed write something was still to be written; a
-- failed read and want of memory may come at any point
abbrev pub Ends : Option (List ℕ) → Option (List ℕ) → Outcome → Status → Type 0
Ends old new outcome Done = Appends old new outcome.text × (outcome.end ≡ Finished)
Ends old new outcome Refused = Appends old new outcome.text × (outcome.end ≡ Stopped)
Ends old new outcome Usage = Appends old new outcome.text × (outcome.end ≡ Misused)
Ends old new outcome WriteFault = AppendsProperPrefix old new outcome.text
Ends old new outcome ReadFault = AppendsPrefix old new outcome.text
Ends old new outcome Memory = AppendsPrefix old new outcome.text
Ends old new outcome Found = ⊥
Ends old new outcome Undecided = ⊥

-- the status of an end, or want of memory; a missing file is a failed read
abbrev pub IsStatusOf : End → Status → Type 0
IsStatusOf Finished status = (status ≡ Done) ⊎ (status ≡ Memory)
IsStatusOf Stopped status = (status ≡ Refused) ⊎ (status ≡ Memory)
IsStatusOf Misused status = (status ≡ Usage) ⊎ (status ≡ Memory)
IsStatusOf Missing status = ⊤

-- a fault comes only where a call failed that the command makes, and with every other status no call failed
abbrev pub Caused : Command → World → World → Status → Type 0
Caused command before after ReadFault =
    (FilesFailed before after ⊎ (ReadsInput command × InputFailed before after)) × WritesSteady before after
Caused command before after WriteFault = ReadsSteady before after × OutputFailed before after
Caused command before after status = ReadsSteady before after × WritesSteady before after

-- the input isn't needed: the command doesn't read it, or its files are known and give no deed
abbrev pub LeavesInput : Command → World → Type 0
LeavesInput (Monitor spec bind) world =
    IsKnown (world.file spec) × IsKnown (world.file bind) × ((deed : Deed) → GivesDeed world spec bind (Ok deed) → ⊥)
LeavesInput command world = ⊤

-- the statuses of a command, whatever is known
abbrev pub IsStatusFor : Command → Status → Type 0
IsStatusFor Unknown Usage = ⊤
IsStatusFor Unknown WriteFault = ⊤
IsStatusFor Unknown status = ⊥
IsStatusFor command Found = ⊥
IsStatusFor command Usage = ⊥
IsStatusFor command Undecided = ⊥
IsStatusFor command status = ⊤

-- a run of a command, from the world before to the world after it
pub record IsRun (command : Command) (before after : World) (status : Status) : Type 0 where
  -- what was written and the status are the outcome's
  pub outcome : (outcome : Outcome) → IsOutcome command before outcome → Ends before.held after.held outcome status
  -- where a read failed, all that was asked for up to there was written
  pub answered : status ≡ ReadFault → (taken rest text : List ℕ) → before.left ≡ Some (taken ++ rest) → after.left ≡ Some rest
      → IsAskedFor command before taken text → Appends before.held after.held text
  -- where no call failed, the status is the outcome's, or memory was wanting
  pub complete : (outcome : Outcome) → IsOutcome command before outcome → NoneFailed before after → IsStatusOf outcome.end status
  -- a fault has its cause, and none is passed over
  pub cause : Caused command before after status
  -- an input that isn't needed isn't read
  pub input : LeavesInput command before → InputStays before after
  -- a status of the command
  pub allowed : IsStatusFor command status
