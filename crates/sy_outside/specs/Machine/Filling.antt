-- The steps of a reader of lines: finding a newline, reading on until a line is whole, and cutting it off.
use Rattle.std.specs.Prelude.{◌≡◌, ℕ, ◌+◌, ◌^◌, ◌<◌, ◌≤◌, ⊤, Bool, false, List, [], ◌∷◌, ◌++◌, length, is_none, None, Some, Ok, Err, Result, take, drop}
use Rattle.std.specs.declared.option.Option.{Option}
use Rattle.sy_outside.specs.Lines.{has_newline}
use Rattle.sy_outside.specs.LineReading.{IsFirst}
use Rattle.sy_outside.specs.declared.lines.Cut.{Cut}
use Rattle.sy_outside.specs.declared.lines.LineFault.{LineFault}
use Rattle.sy_outside.specs.declared.lines.LineFault.TheVariants.{ReadFault, TooLong, TooManyLines, Memory}

-- the newline at a place, and none before it
pub record StandsFirst (bytes : List ℕ) (place : ℕ) : Type 0 where
  pub within : place < length bytes
  pub splits : bytes ≡ take place bytes ++ 10 ∷ drop (place + 1) bytes
  pub none_before : has_newline (take place bytes) ≡ false

-- the place of the first newline, where there is one
abbrev pub IsFirstNewline : List ℕ → Option ℕ → Type 0
IsFirstNewline bytes None = has_newline bytes ≡ false
IsFirstNewline bytes (Some place) = StandsFirst bytes place

-- the faults that reading on may end with
abbrev pub IsReadingFault : LineFault → Type 0
IsReadingFault ReadFault = ⊤
IsReadingFault TooLong = ⊥
IsReadingFault TooManyLines = ⊥
IsReadingFault Memory = ⊤

-- reading on ended with this fault: no newline is held, the line may go on, and the input hadn't ended
abbrev pub LeavesOff : List ℕ → Bool → LineFault → Type 0
LeavesOff held ended ReadFault = (has_newline held ≡ false) × (length held ≤ 4096) × (ended ≡ false)
LeavesOff held ended TooLong = ⊥
LeavesOff held ended TooManyLines = ⊥
LeavesOff held ended Memory = ⊤

-- what is cut off the bytes that are held, whose first newline is this one
abbrev pub CutsHeld : List ℕ → Option ℕ → ℕ → Result (Option Cut) LineFault → Type 0
CutsHeld held newline given (Ok (Some cut)) =
    (cut.size ≤ length held) × IsFirst held (drop cut.size held) (is_none newline) given cut.line
CutsHeld held newline given (Ok None) = held ≡ []
CutsHeld held newline given (Err ReadFault) = ⊥
CutsHeld held newline given (Err TooLong) = (4096 < length held) × (has_newline (take 4097 held) ≡ false) × (given < 2 ^ 32)
CutsHeld held newline given (Err TooManyLines) = (0 < length held) × (given ≡ 2 ^ 32)
CutsHeld held newline given (Err Memory) = ⊤
