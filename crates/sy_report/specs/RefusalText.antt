-- The text of a refusal.
use Rattle.std.specs.Prelude.{ℕ, List, [], ◌∷◌, ◌++◌, Option, Some, None, codes, if◌then◌else◌, nat_eq}
use Rattle.std.specs.Fmt.{decimal}
use Rattle.sy_base.specs.Refusals.{file_word, fault_word}
use Rattle.sy_base.specs.declared.refusal.FileKind.{FileKind}
use Rattle.sy_base.specs.declared.refusal.FaultName.{FaultName}
use Rattle.sy_base.specs.declared.refusal.Place.{Place}
use Rattle.sy_base.specs.declared.refusal.Refusal.{Refusal}

-- a line and a column with a blank behind them; column 0 means the whole line, and stands for nothing
abbrev pub line_and_column : ℕ → ℕ → List ℕ
line_and_column line column =
    if nat_eq column 0 then decimal line ++ codes " " else decimal line ++ (codes ":" ++ (decimal column ++ codes " "))

-- a place with a blank behind it, where there is one
abbrev pub place_text : Option Place → List ℕ
place_text None = []
place_text (Some place) = line_and_column place.line place.column

-- a blank and the words, where there are some
abbrev pub words_text : List ℕ → List ℕ
words_text [] = []
words_text (b ∷ words) = 32 ∷ b ∷ words

-- what a refusal says before its words
abbrev pub head_text : FileKind → List ℕ → FaultName → List ℕ
head_text file place name = codes "refused " ++ file_word file ++ codes " " ++ place ++ fault_word name

-- the line of a refusal
abbrev pub refusal_text : Refusal → List ℕ
refusal_text refusal =
    head_text refusal.file (place_text refusal.place) refusal.name ++ words_text refusal.words ++ codes "\n"

-- a refusal of a whole file, without a place
abbrev pub whole : FileKind → FaultName → Refusal
whole file name = record { file = file; place = None; name = name; words = [] }

-- a refusal of a line of a file
abbrev pub of_line : FileKind → ℕ → FaultName → Refusal
of_line file number name = record { file = file; place = Some (record { line = number; column = 0 }); name = name; words = [] }
