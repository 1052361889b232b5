-- What a line of a log says under a deed. A line that says nothing is refused for the first of its faults: BadToken, UnknownName, WrongValues,
-- BadDate, TooEarly.
use Rattle.std.specs.Prelude.{◌≡◌, ◌<◌, ◌^◌, ℕ, ℤ, ◌≤ℤ◌, Bool, int_lt, ◌&&◌, if◌then◌else◌, List, [], length, slice_get, Option, Some, None, Result, Ok, Err, IsTrue}
use Rattle.std.specs.List.{list_all, position_from}
use Rattle.sy_base.specs.Points.{IsDated}
use Rattle.sy_base.specs.declared.refusal.FaultName.{FaultName}
use Rattle.sy_base.specs.declared.refusal.FaultName.TheVariants.{BadToken, UnknownName, WrongValues, BadDate, TooEarly}
use Rattle.sy_base.specs.declared.refusal.FileKind.TheVariants.{Log}
use Rattle.sy_base.specs.declared.refusal.Refused.{Refused}
use Rattle.sy_base.specs.declared.refusal.Refused.TheVariants as R
use Rattle.sy_core.specs.declared.happening.What.{What}
use Rattle.sy_core.specs.declared.happening.What.TheVariants as W
use Rattle.sy_core.specs.declared.value.Value.{Value}
use Rattle.sy_core.specs.declared.deed.AttrDecl.{AttrDecl}
use Rattle.sy_core.specs.declared.deed.EventDecl.{EventDecl}
use Rattle.sy_core.specs.declared.deed.Deed.{Deed}
use Rattle.sy_core.specs.declared.position.Position.{Position}
use Rattle.sy_core.specs.Conditions.{is_power}
use Rattle.sy_core.specs.Limits.{is_few}
use Rattle.sy_binding.specs.declared.tree.FieldTree.{FieldTree}
use Rattle.sy_literal.specs.Values.{date_point}
use Rattle.sy_report.specs.RefusalText.{of_line}
use Rattle.sy_log.specs.declared.read.Entry.{Entry}
use Rattle.sy_log.specs.declared.read.Entry.TheVariants as E
use Rattle.sy_log.specs.declared.tree.WhatTree.{WhatTree}
use Rattle.sy_log.specs.declared.tree.WhatTree.TheVariants as T
use Rattle.sy_log.specs.declared.tree.LineTree.{LineTree}
use Rattle.sy_log.specs.declared.tree.LineTree.TheVariants as L
use Rattle.sy_log.specs.Happenings.{IsOfDeed}
use Rattle.sy_log.specs.Lines.{Writes, IsBlank}
use Rattle.sy_log.specs.Values.{same, values_given}

-- fewer than 2^32 events, positions, and constants of each enumeration
pub record HasFewNames (deed : Deed) : Type 0 where
  pub events : length deed.events < 2 ^ 32
  pub positions : length deed.positions < 2 ^ 32
  pub constants : IsTrue (list_all (λ choices. is_few (length choices.names)) deed.choices)

-- the event has the name
abbrev pub event_has_name : List ℕ → EventDecl → Bool
event_has_name name event = same name event.name

-- the position is a power and has the name
abbrev pub power_has_name : List ℕ → Position → Bool
power_has_name name p = is_power p.form && same name p.name

-- the place of the event with a name
abbrev pub event_named : List ℕ → List EventDecl → Option ℕ
event_named name events = position_from (event_has_name name) 0 events

-- the place of the power with a name
abbrev pub power_named : List ℕ → List Position → Option ℕ
power_named name positions = position_from (power_has_name name) 0 positions

-- the attributes of the event that is there
abbrev pub attributes_of : Option EventDecl → List AttrDecl
attributes_of None = []
attributes_of (Some event) = event.attrs

-- the event with these values
abbrev pub with_values : ℕ → Option (List Value) → Result What FaultName
with_values event None = Err WrongValues
with_values event (Some values) = Ok (W.Event event values)

-- the event at a place, with the values that are given to its attributes
abbrev pub event_told : Deed → List FieldTree → Option ℕ → Result What FaultName
event_told deed fields None = Err UnknownName
event_told deed fields (Some event) =
    with_values event (values_given deed (attributes_of (slice_get deed.events event)) fields)

-- the exertion of the power at a place
abbrev pub exertion_told : Option ℕ → Result What FaultName
exertion_told None = Err UnknownName
exertion_told (Some power) = Ok (W.Exert power)

-- what is told to happen
abbrev pub what_told : Deed → WhatTree → Result What FaultName
what_told deed (T.Happens name fields) = event_told deed fields (event_named name.text deed.events)
what_told deed (T.Exert name) = exertion_told (power_named name.text deed.positions)

-- a date without a fault
abbrev pub date_told : Option ℤ → Result ℤ FaultName
date_told None = Err BadDate
date_told (Some point) = Ok point

-- a date that isn't before start
abbrev pub from_start : ℤ → Result ℤ FaultName → Result ℤ FaultName
from_start start (Err name) = Err name
from_start start (Ok point) = if int_lt point start then Err TooEarly else Ok point

-- what happens at a point; the faults of what is told come first
abbrev pub noted : Result What FaultName → Result ℤ FaultName → Result Entry FaultName
noted (Err name) point = Err name
noted (Ok what) (Err name) = Err name
noted (Ok what) (Ok point) = Ok (E.Noted (record { point = point; what = what }))

-- a report is asked for
abbrev pub reported : Result ℤ FaultName → Result Entry FaultName
reported (Err name) = Err name
reported (Ok point) = Ok (E.Report point)

-- what a line says, or its first fault. A report may be of a date before start
abbrev pub entry_of : Deed → LineTree → Result Entry FaultName
entry_of deed (L.At date what) =
    noted (what_told deed what) (from_start deed.start (date_told (date_point deed.unit date.text)))
entry_of deed (L.Report date) = reported (date_told (date_point deed.unit date.text))

-- what the bytes of a line say, or their first fault
pub data IsEntry (deed : Deed) (bytes : List ℕ) : Result Entry FaultName → Type 0 where
  blank : IsBlank bytes → IsEntry deed bytes (Ok E.Blank)
  written : (tree : LineTree) → Writes bytes tree → IsEntry deed bytes (entry_of deed tree)
  neither : (IsBlank bytes → ⊥) → ((tree : LineTree) → Writes bytes tree → ⊥) → IsEntry deed bytes (Err BadToken)

-- what is answered to a line: what it says, its refusal, or want of memory
abbrev pub IsAnswer : Deed → ℕ → List ℕ → Result Entry Refused → Type 0
IsAnswer deed number bytes (Ok entry) = IsEntry deed bytes (Ok entry)
IsAnswer deed number bytes (Err R.Memory) = Unit {0}
IsAnswer deed number bytes (Err (R.Refusal refusal)) =
    (name : FaultName) × IsEntry deed bytes (Err name) × (refusal ≡ of_line Log number name)

-- an entry is of the deed: what is noted is one of its happenings, from start on, and a report is of a date
abbrev pub IsEntryOf : Deed → Entry → Type 0
IsEntryOf deed E.Blank = Unit {0}
IsEntryOf deed (E.Noted happening) = IsOfDeed deed happening × (deed.start ≤ℤ happening.point)
IsEntryOf deed (E.Report point) = IsDated deed.unit point
