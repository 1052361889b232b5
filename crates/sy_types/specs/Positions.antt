-- Which parts of positions break the rules of types, and which internal events: the parties, acts and kinds that don't fit.
use Rattle.std.specs.Prelude.{ℕ, Bool, true, false, List, [], ◌++◌, Option, Some, None}
use Rattle.std.specs.List.{flat_map}
use Rattle.sy_base.specs.declared.refusal.Place.{Place}
use Rattle.sy_words.specs.declared.form.Form.{Form}
use Rattle.sy_words.specs.declared.kind.Kind.{Kind}
use Rattle.sy_words.specs.declared.verb.Verb.{Verb}
use Rattle.sy_lex.specs.declared.written.Written.{Written}
use Rattle.sy_lex.specs.Keywords.{keyword_text}
use Rattle.sy_tree.specs.declared.target.TargetTree.{TargetTree}
use Rattle.sy_tree.specs.declared.target.TargetTree.TheVariants as Target
use Rattle.sy_tree.specs.Terms.{kind_word}
use Rattle.sy_spec.specs.declared.position.ObligTree.{ObligTree}
use Rattle.sy_spec.specs.declared.position.PowerTree.{PowerTree}
use Rattle.sy_spec.specs.declared.position.ActTree.{ActTree}
use Rattle.sy_spec.specs.declared.contract.ContractTree.{ContractTree}
use Rattle.sy_spec.specs.Specifications.{verb_word}
use Rattle.sy_core.specs.Soundness.{is_kind_of, is_contract_kind, is_act_on, is_contract_act}
use Rattle.sy_domain.specs.declared.failure.Failure.{Failure}
use Rattle.sy_domain.specs.declared.meaning.Sort.{Sort}
use Rattle.sy_domain.specs.Failures.{unless}
use Rattle.sy_scope.specs.Scopes.{Things, is_role, kind_of_sort, thing_sort, form_named}
use Rattle.sy_scope.specs.Tokens.{written}

-- the kind of internal event is one of the position that is there
abbrev pub is_kind_there : Kind → Option Form → Bool
is_kind_there kind (Some form) = is_kind_of form kind
is_kind_there kind None = false

-- a target has events of the kind
abbrev pub takes_kind : Things → Kind → TargetTree → Bool
takes_kind s kind (Target.Named name) = is_kind_there kind (form_named s name.text)
takes_kind s kind (Target.Contract place) = is_contract_kind kind

-- an internal event, whose kind's word stands at a place
abbrev pub wrong_internal : Things → Kind → Place → TargetTree → List Failure
wrong_internal s kind place target = unless (takes_kind s kind target) (written (keyword_text (kind_word kind)) place)

-- the verb can be done to the position that is there
abbrev pub is_act_there : Verb → Option Form → Bool
is_act_there verb (Some form) = is_act_on form verb
is_act_there verb None = false

-- the verb can be done to a target
abbrev pub takes_act : Things → Verb → TargetTree → Bool
takes_act s verb (Target.Named name) = is_act_there verb (form_named s name.text)
takes_act s verb (Target.Contract place) = is_contract_act verb

abbrev pub wrong_act : Things → ActTree → List Failure
wrong_act s act =
    unless (takes_act s act.verb.verb act.target) (written (keyword_text (verb_word act.verb.verb)) act.verb.place)

-- the thing that is there is a role
abbrev pub is_role_there : Things → Option Sort → Bool
is_role_there s (Some sort) = is_role (kind_of_sort s sort)
is_role_there s None = false

-- a debtor, a creditor, a holder or an other party, where so many first declarations may be named
abbrev pub wrong_party : Things → ℕ → Written → List Failure
wrong_party s visible name = unless (is_role_there s (thing_sort s visible name.text)) name

abbrev pub wrong_obligation : Things → ℕ → ObligTree → List Failure
wrong_obligation s visible o = wrong_party s visible o.debtor ++ wrong_party s visible o.creditor

abbrev pub wrong_power : Things → ℕ → PowerTree → List Failure
wrong_power s visible p = wrong_party s visible p.holder ++ wrong_party s visible p.other_party ++ wrong_act s p.act

-- the obligations, the surviving ones and the powers
abbrev pub wrong_positions : Things → ℕ → ContractTree → List Failure
wrong_positions s visible contract =
    flat_map (wrong_obligation s visible) contract.obligations
    ++ flat_map (wrong_obligation s visible) contract.surviving
    ++ flat_map (wrong_power s visible) contract.powers
