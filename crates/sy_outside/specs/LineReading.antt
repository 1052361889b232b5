-- What a reader of lines gives.
use Rattle.std.specs.Prelude.{◌≡◌, ℕ, ◌+◌, ◌^◌, ◌<◌, ◌≤◌, ◌⊎◌, ⊤, Bool, true, false, List, [], ◌∷◌, ◌++◌, length, IsTrue, None, Some, Ok, Err, Result, take}
use Rattle.std.specs.declared.option.Option.{Option}
use Rattle.std.specs.Io.KnownBytes.{Consumes, IsAtEnd}
use Rattle.sy_outside.specs.Lines.{has_newline, lines_of}
use Rattle.sy_outside.specs.LineReaderState.{LineReaderState}
use Rattle.sy_outside.specs.declared.lines.Line.{Line}
use Rattle.sy_outside.specs.declared.lines.LineFault.{LineFault}
use Rattle.sy_outside.specs.declared.lines.LineFault.TheVariants.{ReadFault, TooLong, TooManyLines, Memory}

-- a fault that a call outside made
abbrev pub is_read_fault : LineFault → Bool
is_read_fault ReadFault = true
is_read_fault TooLong = false
is_read_fault TooManyLines = false
is_read_fault Memory = false

-- these bytes are the line, its newline and the rest; or the last line, with nothing after it
abbrev pub SplitsLine : List ℕ → List ℕ → List ℕ → Bool → Type 0
SplitsLine bytes line rest ended =
    (bytes ≡ line ++ 10 ∷ rest) ⊎ ((bytes ≡ line) × (rest ≡ []) × (0 < length line) × IsTrue ended)

-- the line is the first of these bytes
pub record IsFirst (bytes rest : List ℕ) (ended : Bool) (given : ℕ) (line : Line) : Type 0 where
  pub splits : SplitsLine bytes line.bytes rest ended
  pub one : has_newline line.bytes ≡ false
  pub short : length line.bytes ≤ 4096
  pub number : line.number ≡ given + 1
  pub below : given < 2 ^ 32

-- the answer for the bytes at hand, of which the rest stays
abbrev pub Cuts : List ℕ → List ℕ → Bool → ℕ → Result (Option Line) LineFault → Type 0
Cuts bytes rest ended given (Ok (Some line)) = IsFirst bytes rest ended given line
Cuts bytes rest ended given (Ok None) = (bytes ≡ []) × (rest ≡ []) × IsTrue ended
Cuts bytes rest ended given (Err ReadFault) =
    (has_newline bytes ≡ false) × (rest ≡ bytes) × (ended ≡ false) × (length bytes ≤ 4096)
Cuts bytes rest ended given (Err TooLong) =
    (4096 < length bytes) × (has_newline (take 4097 bytes) ≡ false) × (given < 2 ^ 32) × (length bytes ≤ 4096 + 65536)
Cuts bytes rest ended given (Err TooManyLines) = (0 < length bytes) × (given ≡ 2 ^ 32)
Cuts bytes rest ended given (Err Memory) = ⊤

-- what the reader is after an answer
abbrev pub Goes : LineReaderState → LineReaderState → Result (Option Line) LineFault → Type 0
Goes old new (Ok (Some line)) = (new.given ≡ old.given + 1) × IsTrue new.live
Goes old new (Ok None) = (new.given ≡ old.given) × IsTrue new.live
Goes old new (Err e) = (new.given ≡ old.given) × (new.live ≡ false)

-- before the last read, of at most 65,536 bytes, no newline was held, and at most 4,096 bytes
pub record ReadsAsNeeded (bytes : List ℕ) : Type 0 where
  pub before : ℕ
  pub none : has_newline (take before bytes) ≡ false
  pub few : before ≤ 4096
  pub last : length bytes ≤ before + 65536

-- it took these bytes from the source, and answered for what it then had
pub record Next (old new : LineReaderState) (left_old left_new : Option (List ℕ)) (result : Result (Option Line) LineFault) : Type 0 where
  pub taken : List ℕ
  pub consumed : Consumes left_old left_new taken
  pub cuts : Cuts (old.held ++ taken) new.held new.ended old.given result
  pub goes : Goes old new result
  pub ended : IsTrue new.ended → IsTrue old.ended ⊎ IsAtEnd left_new
  pub stays : IsTrue old.ended → IsTrue new.ended
  -- it reads on only while it has no whole line, and no more than a line may have
  pub needed : (taken ≡ []) ⊎ ReadsAsNeeded (old.held ++ taken)
  -- it doesn't read where it has a whole line or was told the end
  pub idle : (IsTrue (has_newline old.held) ⊎ IsTrue old.ended) → taken ≡ []

-- what was given is the first of the lines of all bytes that were held or left
abbrev pub CutsLines : LineReaderState → LineReaderState → List ℕ → List ℕ → Result (Option Line) LineFault → Type 0
CutsLines old new bytes rest (Ok (Some line)) = lines_of (old.held ++ bytes) ≡ line.bytes ∷ lines_of (new.held ++ rest)
CutsLines old new bytes rest (Ok None) = old.held ++ bytes ≡ []
CutsLines old new bytes rest (Err TooLong) =
    (line : List ℕ) × (lines : List (List ℕ)) × (lines_of (old.held ++ bytes) ≡ line ∷ lines) × (4096 < length line)
CutsLines old new bytes rest (Err TooManyLines) =
    (line : List ℕ) × (lines : List (List ℕ)) × (lines_of (old.held ++ bytes) ≡ line ∷ lines)
CutsLines old new bytes rest (Err e) = ⊤
