-- The text of a report: what it prints of a table.
use Rattle.std.specs.Prelude.{ℕ, ◌+◌, List, [], ◌∷◌, ◌++◌, Option, Some, None, slice_get, codes}
use Rattle.std.specs.List.{flat_map}
use Rattle.std.specs.Fmt.{decimal}
use Rattle.sy_base.specs.Dates.{date_text}
use Rattle.sy_core.specs.declared.deed.Deed.{Deed}
use Rattle.sy_core.specs.declared.position.Position.{Position}
use Rattle.sy_words.specs.declared.form.Form.{Form}
use Rattle.sy_words.specs.declared.form.Form.TheVariants as F
use Rattle.sy_core.specs.declared.state.StateOf.{StateOf}
use Rattle.sy_core.specs.StateWords.{state_word}
use Rattle.sy_core.specs.declared.table.Verdict.{Verdict}
use Rattle.sy_core.specs.declared.table.Verdict.TheVariants as V
use Rattle.sy_core.specs.declared.table.Mark.{Mark}
use Rattle.sy_core.specs.declared.table.Table.{Table}

-- the word of a position's form
abbrev pub form_word : Form → List ℕ
form_word F.Obligation = codes "obligation"
form_word F.Surviving = codes "surviving"
form_word F.Power = codes "power"

-- the word of a verdict
abbrev pub verdict_word : Verdict → List ℕ
verdict_word V.False = codes "False"
verdict_word V.Open = codes "Open"
verdict_word V.True = codes "True"

-- a line of words, with a blank between them
abbrev pub line : List (List ℕ) → List ℕ
line [] = 10 ∷ []
line (word ∷ []) = word ++ 10 ∷ []
line (word ∷ next ∷ more) = word ++ 32 ∷ line (next ∷ more)

-- the name of the position that is there
abbrev pub name_of : Option Position → List ℕ
name_of None = []
name_of (Some p) = p.name

-- a line for each position, with its form, its name and its state
abbrev pub position_lines : List Position → List StateOf → List ℕ
position_lines (p ∷ ps) (state ∷ states) =
    line (form_word p.form ∷ p.name ∷ state_word state ∷ []) ++ position_lines ps states
position_lines _ _ = []

-- a line for a mark: its date and its position's name
abbrev pub mark_line : Deed → List ℕ → Mark → List ℕ
mark_line deed word mark =
    line (word ∷ date_text deed.unit mark.point ∷ name_of (slice_get deed.positions mark.position) ∷ [])

-- a line for each postcondition, by its number from 1 on, with its verdict
abbrev pub post_lines : ℕ → List Verdict → List ℕ
post_lines number [] = []
post_lines number (verdict ∷ more) =
    line (codes "post" ∷ decimal number ∷ verdict_word verdict ∷ []) ++ post_lines (number + 1) more

-- the report of a table
abbrev pub report_text : Deed → Table → List ℕ
report_text deed table =
    line (codes "report" ∷ date_text deed.unit table.at ∷ [])
    ++ line (codes "contract" ∷ state_word table.contract ∷ [])
    ++ position_lines deed.positions table.states
    ++ flat_map (mark_line deed (codes "violation")) table.violations
    ++ flat_map (mark_line deed (codes "void")) table.voids
    ++ post_lines 1 table.posts
    ++ line (codes "end" ∷ [])
