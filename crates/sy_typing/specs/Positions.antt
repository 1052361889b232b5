-- The positions of a contract by their numbers: its obligations, then its surviving obligations, then its powers, each in the order of the text;
-- and the targets, internal events and acts that name them.
use Rattle.std.specs.Prelude.{ℕ, ◌+◌, ◌≤◌, Bool, ◌&&◌, nat_lt, if◌then◌else◌, length, Option, Some, None}
use Rattle.sy_words.specs.declared.form.Form.{Form}
use Rattle.sy_words.specs.declared.form.Form.TheVariants as Form
use Rattle.sy_words.specs.declared.kind.Kind.{Kind}
use Rattle.sy_words.specs.declared.verb.Verb.{Verb}
use Rattle.sy_words.specs.declared.verb.Verb.TheVariants as Verb
use Rattle.sy_core.specs.declared.kind.Target.{Target}
use Rattle.sy_core.specs.declared.kind.Target.TheVariants as T
use Rattle.sy_core.specs.declared.position.Act.{Act}
use Rattle.sy_core.specs.Mentions.{InternalEvent}
use Rattle.sy_core.specs.Soundness.{is_act_on, is_contract_act, is_contract_kind, is_kind_of}
use Rattle.sy_tree.specs.declared.target.TargetTree.{TargetTree}
use Rattle.sy_tree.specs.declared.target.TargetTree.TheVariants as Trees
use Rattle.sy_spec.specs.declared.contract.ContractTree.{ContractTree}
use Rattle.sy_spec.specs.declared.contract.SpecTree.{SpecTree}
use Rattle.sy_domain.specs.declared.meaning.Meaning.{Meaning}
use Rattle.sy_domain.specs.declared.meaning.Meaning.TheVariants as M
use Rattle.sy_domain.specs.Names.{Table, meaning_in}

-- the contract has at most 500 positions
abbrev pub HasFewPositions : ContractTree → Type 0
HasFewPositions contract = length contract.obligations + length contract.surviving + length contract.powers ≤ 500

-- how many positions of a form a contract has
abbrev pub count_of : ContractTree → Form → ℕ
count_of contract Form.Obligation = length contract.obligations
count_of contract Form.Surviving = length contract.surviving
count_of contract Form.Power = length contract.powers

-- how many positions stand before those of a form
abbrev pub before_form : ContractTree → Form → ℕ
before_form contract Form.Obligation = 0
before_form contract Form.Surviving = length contract.obligations
before_form contract Form.Power = length contract.obligations + length contract.surviving

-- the number of a position among all, by its form and its number among those of its form
abbrev pub number_of : ContractTree → Form → ℕ → ℕ
number_of contract form i = before_form contract form + i

-- the position with this number among those of its form, where there is one and its form passes a test
abbrev pub position_if : ContractTree → Bool → Form → ℕ → Option Target
position_if contract passes form i =
    if nat_lt i (count_of contract form) && passes then Some (T.Position (number_of contract form i)) else None

-- the contract, if it may stand there
abbrev pub contract_if : Bool → Option Target
contract_if allowed = if allowed then Some T.Contract else None

-- the position that a name stands for, where it has internal events of a kind
abbrev pub position_with : ContractTree → Kind → Option Meaning → Option Target
position_with contract kind (Some (M.Position form i)) = position_if contract (is_kind_of form kind) form i
position_with contract kind _ = None

-- the target of an internal event of a kind: one that has such events
abbrev pub event_target : Table → ContractTree → Kind → TargetTree → Option Target
event_target table contract kind (Trees.Named name) = position_with contract kind (meaning_in table name.text)
event_target table contract kind (Trees.Contract place) = contract_if (is_contract_kind kind)

-- the position that a name stands for, where an act can be done to it
abbrev pub position_under : ContractTree → Verb → Option Meaning → Option Target
position_under contract verb (Some (M.Position form i)) = position_if contract (is_act_on form verb) form i
position_under contract verb _ = None

-- the target of an act: one to which it can be done
abbrev pub act_target : Table → ContractTree → Verb → TargetTree → Option Target
act_target table contract verb (Trees.Named name) = position_under contract verb (meaning_in table name.text)
act_target table contract verb (Trees.Contract place) = contract_if (is_contract_act verb)
