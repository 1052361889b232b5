-- What objects in memory with planned failures hold, and which of their calls fail.
use Rattle.std.specs.Prelude.{ℕ, ◌+◌, ◌-◌, ◌^◌, min, Bool, ◌||◌, ◌&&◌, ◌==◌, nat_lt, if◌then◌else◌, unwrap_or, List, [], length}
use Rattle.std.specs.List.{list_any}
use Rattle.std.specs.Option.{is_none}
use Rattle.sy_outside.specs.declared.sure.Named.{Named}
use Rattle.sy_outside.specs.Sure.{file_of}

-- which calls on an object are to fail, and what it has counted
pub record Plan : Type 0 where
  -- the numbers of the calls that are to fail, counted from 1
  pub failing : List ℕ
  -- how many calls there were
  pub calls : ℕ
  -- how many of them failed
  pub faults : ℕ

-- one more, up to the last value of a count
abbrev pub next_count : ℕ → ℕ
next_count count = min (count + 1) (2 ^ 64 - 1)

-- the next call is to fail
abbrev pub is_planned : Plan → Bool
is_planned plan = list_any (λ n. n == next_count plan.calls) plan.failing

-- the plan after one more call, which failed or not
abbrev pub after_call : Plan → Bool → Plan
after_call plan failed = record plan {
  calls = next_count plan.calls;
  faults = if failed then next_count plan.faults else plan.faults;
}

-- a plan before the first call
abbrev pub new_plan : List ℕ → Plan
new_plan failing = record { failing = failing; calls = 0; faults = 0 }

-- files in memory
pub record PlannedFiles : Type 0 where
  pub files : List Named
  pub plan : Plan

-- these files before the first read
abbrev pub new_files : List Named → List ℕ → PlannedFiles
new_files files failing = record { files = files; plan = new_plan failing }

-- how many bytes a file has from there on
abbrev pub length_from : PlannedFiles → List ℕ → ℕ → ℕ
length_from files name start = length (unwrap_or (file_of files.files name) []) - start

-- the next read of this name fails: as planned, or since there is no such file
abbrev pub read_fails : PlannedFiles → List ℕ → Bool
read_fails files name = is_none (file_of files.files name) || is_planned files.plan

-- a source in memory
pub record PlannedSource : Type 0 where
  -- the bytes that are left
  pub left : List ℕ
  -- the most that a read gives
  pub most : ℕ
  pub plan : Plan

-- a source of these bytes before the first read
abbrev pub new_source : List ℕ → ℕ → List ℕ → PlannedSource
new_source bytes most failing = record { left = bytes; most = most; plan = new_plan failing }

-- a sink in memory
pub record PlannedSink : Type 0 where
  -- the bytes that it holds
  pub held : List ℕ
  -- the most that it can hold
  pub room : ℕ
  pub plan : Plan

-- an empty sink before the first write
abbrev pub new_sink : ℕ → List ℕ → PlannedSink
new_sink room failing = record { held = []; room = room; plan = new_plan failing }

-- how many bytes it can take
abbrev pub room_left : PlannedSink → ℕ
room_left sink = sink.room - length sink.held

-- the next write of these bytes fails: as planned, or since there is no room for the first of them
abbrev pub write_fails : PlannedSink → List ℕ → Bool
write_fails sink bytes = (room_left sink == 0) && nat_lt 0 (length bytes) || is_planned sink.plan
