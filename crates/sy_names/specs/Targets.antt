-- The names of targets and of their states that aren't declared for their place.
use Rattle.std.specs.Prelude.{ℕ, Bool, false, is_some, List, [], ◌++◌, Option, Some, None}
use Rattle.sy_words.specs.declared.form.Form.{Form}
use Rattle.sy_lex.specs.declared.written.Written.{Written}
use Rattle.sy_core.specs.declared.state.StateOf.{StateOf}
use Rattle.sy_core.specs.Soundness.{is_state_of, is_contract_state}
use Rattle.sy_tree.specs.declared.target.TargetTree.{TargetTree}
use Rattle.sy_tree.specs.declared.target.TargetTree.TheVariants as Target
use Rattle.sy_tree.specs.declared.proposition.SituationTree.{SituationTree}
use Rattle.sy_domain.specs.declared.failure.Failure.{Failure}
use Rattle.sy_domain.specs.Failures.{unless}
use Rattle.sy_scope.specs.Scopes.{Things, form_named}
use Rattle.sy_core.specs.StateWords.{state_named}

-- a name where a target is named, that is no position
abbrev pub unknown_target : Things → TargetTree → List Failure
unknown_target s (Target.Named name) = unless (is_some (form_named s name.text)) name
unknown_target s (Target.Contract place) = []

-- a test of the state that is there
abbrev pub state_passes : (StateOf → Bool) → Option StateOf → Bool
state_passes test None = false
state_passes test (Some state) = test state

-- a position of the form can be in the state with the name
abbrev pub names_state_of : Form → List ℕ → Bool
names_state_of form name = state_passes (is_state_of form) (state_named name)

-- the name is that of a state of the contract that may be named
abbrev pub names_contract_state : List ℕ → Bool
names_contract_state name = state_passes is_contract_state (state_named name)

-- a name that is no state of a position of the form. Of a position that isn't known nothing is said: its name stands before
abbrev pub unknown_position_state : Option Form → Written → List Failure
unknown_position_state None name = []
unknown_position_state (Some form) name = unless (names_state_of form name.text) name

-- a name that is no state of the target
abbrev pub unknown_state : Things → TargetTree → Written → List Failure
unknown_state s (Target.Named target) name = unknown_position_state (form_named s target.text) name
unknown_state s (Target.Contract place) name = unless (names_contract_state name.text) name

-- in what is said of a state
abbrev pub unknown_in_situation : Things → SituationTree → List Failure
unknown_in_situation s situation =
    unknown_target s situation.target
    ++ unknown_state s situation.target situation.state
