-- The words of the states, as a specification names them and a report tells them.
use Rattle.std.specs.Prelude.{ℕ, Bool, List, [], ◌∷◌, Option, codes, find, nat_eq}
use Rattle.std.specs.Cmp.Lexicographic.{pointwise}
use Rattle.sy_core.specs.declared.state.StateOf.{StateOf}
use Rattle.sy_core.specs.declared.state.StateOf.TheVariants as S

-- the word of a state
abbrev pub state_word : StateOf → List ℕ
state_word S.Null = codes "Null"
state_word S.Create = codes "Create"
state_word S.InEffect = codes "InEffect"
state_word S.Suspension = codes "Suspension"
state_word S.Fulfillment = codes "Fulfillment"
state_word S.Violation = codes "Violation"
state_word S.Discharge = codes "Discharge"
state_word S.SuccessfulTermination = codes "SuccessfulTermination"
state_word S.UnsuccessfulTermination = codes "UnsuccessfulTermination"
state_word S.Form = codes "Form"

-- all states
abbrev pub all_states : List StateOf
all_states =
    S.Null ∷ S.Create ∷ S.InEffect ∷ S.Suspension ∷ S.Fulfillment ∷ S.Violation ∷ S.Discharge ∷ S.SuccessfulTermination
    ∷ S.UnsuccessfulTermination ∷ S.Form ∷ []

-- the state has the word
abbrev pub has_word : List ℕ → StateOf → Bool
has_word word state = pointwise nat_eq (state_word state) word

-- the state with a word, if there is one
abbrev pub state_named : List ℕ → Option StateOf
state_named word = find (has_word word) all_states
