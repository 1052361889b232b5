-- The outcome of a command in a world: the text that it writes, and how it ends.
use Rattle.std.specs.Prelude.{◌≡◌, ℕ, Bool, true, false, List, [], ◌++◌, Option, Some, Result, Ok, Err}
use Rattle.sy_outside.specs.Lines.{lines_of, whole_lines_of}
use Rattle.sy_core.specs.declared.deed.Deed.{Deed}
use Rattle.sy_print.specs.CanonicalText.{canonical_text}
use Rattle.sy_spec.specs.declared.contract.SpecTree.{SpecTree}
use Rattle.sy_typing.specs.Plans.{order_text}
use Rattle.sy_run.specs.Commands.{Command, Compile, Monitor, Unknown, usage_line}
use Rattle.sy_run.specs.Output.{IsOutputOf}
use Rattle.sy_report.specs.RefusalText.{refusal_text}
use Rattle.sy_run.specs.Texts.{IsDeedIn, IsSoundSpecIn}
use Rattle.sy_run.specs.World.{World}
use Rattle.sy_run.specs.declared.stop.Stop.{Stop}
use Rattle.sy_run.specs.declared.stop.Stop.TheVariants as stop

-- how a run ends that isn't cut short
pub data End : Type 0 where
  -- its work is done
  Finished : End
  -- a text is refused
  Stopped : End
  -- a file is missing
  Missing : End
  -- the words are no command
  Misused : End

pub record Outcome : Type 0 where
  pub text : List ℕ
  pub end : End

-- the outcome where the files give nothing to work on
abbrev pub stopped : Stop → Outcome
stopped (stop.Refused refusal) = record { text = refusal_text refusal; end = Stopped }
stopped why = record { text = []; end = Missing }

-- the outcome of a specification that is compiled: its canonical text, and behind it the order of evaluation, a line for each node
abbrev pub compiled : Result SpecTree Stop → Outcome
compiled (Ok tree) = record { text = canonical_text tree ++ order_text tree; end = Finished }
compiled (Err why) = stopped why

-- the end of a log, one of whose lines may be refused
abbrev pub end_of : Bool → End
end_of true = Stopped
end_of false = Finished

-- the outcome of a log, where the files give this
abbrev pub IsMonitored : Result Deed Stop → List ℕ → Outcome → Type 0
IsMonitored (Ok deed) log outcome =
    (text : List ℕ) × (is_refused : Bool) × IsOutputOf deed (lines_of log) text is_refused
    × (outcome ≡ record { text = text; end = end_of is_refused })
IsMonitored (Err why) log outcome = outcome ≡ stopped why

-- the outcome of words that are no command
abbrev pub usage : Outcome
usage = record { text = usage_line; end = Misused }

-- what a file gives, where its bytes are known: a specification without a fault; and what two files give
abbrev pub GivesSpec : World → List ℕ → Result SpecTree Stop → Type 0
GivesSpec world spec tree = (text : Option (List ℕ)) × (world.file spec ≡ Some text) × IsSoundSpecIn text tree

abbrev pub GivesDeed : World → List ℕ → List ℕ → Result Deed Stop → Type 0
GivesDeed world spec bind deed =
    (s : Option (List ℕ)) × (b : Option (List ℕ)) × (world.file spec ≡ Some s) × (world.file bind ≡ Some b) × IsDeedIn s b deed

-- the outcome of a command in a world
abbrev pub IsOutcome : Command → World → Outcome → Type 0
IsOutcome (Compile spec) world outcome = (tree : Result SpecTree Stop) × GivesSpec world spec tree × (outcome ≡ compiled tree)
IsOutcome (Monitor spec bind) world outcome =
    (deed : Result Deed Stop) × GivesDeed world spec bind deed
    × ((log : List ℕ) × (world.left ≡ Some log) × IsMonitored deed log outcome)
IsOutcome Unknown world outcome = outcome ≡ usage

-- all that the whole lines of a log ask for, where the files give this
abbrev pub IsAskedByLines : Result Deed Stop → List ℕ → List ℕ → Type 0
IsAskedByLines (Ok deed) taken text = (is_refused : Bool) × IsOutputOf deed (whole_lines_of taken) text is_refused
IsAskedByLines (Err why) taken text = text ≡ []

-- all that the bytes ask for that a command has taken from the input
abbrev pub IsAskedFor : Command → World → List ℕ → List ℕ → Type 0
IsAskedFor (Monitor spec bind) world taken text = (deed : Result Deed Stop) × GivesDeed world spec bind deed × IsAskedByLines deed taken text
IsAskedFor command world taken text = text ≡ []
