-- The names that are used in a specification and aren't declared for their place. Whether the type or the form of a name fits its place is
-- another check's matter.
use Rattle.std.specs.Prelude.{ℕ, length, List, [], ◌++◌}
use Rattle.std.specs.List.{flat_map, enumerate_from}
use Rattle.sy_base.specs.declared.refusal.Place.{Place}
use Rattle.sy_base.specs.declared.refusal.FaultName.TheVariants as Fault
use Rattle.sy_words.specs.declared.kind.Kind.{Kind}
use Rattle.sy_lex.specs.declared.written.Written.{Written}
use Rattle.sy_tree.specs.declared.term.TermTree.{TermTree}
use Rattle.sy_tree.specs.declared.term.RhsTree.{RhsTree}
use Rattle.sy_tree.specs.declared.target.TargetTree.{TargetTree}
use Rattle.sy_tree.specs.declared.proposition.CmpTree.{CmpTree}
use Rattle.sy_spec.specs.declared.position.ObligTree.{ObligTree}
use Rattle.sy_spec.specs.declared.position.PowerTree.{PowerTree}
use Rattle.sy_spec.specs.declared.contract.ContractTree.{ContractTree}
use Rattle.sy_spec.specs.declared.contract.SpecTree.{SpecTree}
use Rattle.sy_domain.specs.declared.failure.Failure.{Failure}
use Rattle.sy_domain.specs.Failures.{Check, of_spec}
use Rattle.sy_scope.specs.Scopes.{Things, things_of}
use Rattle.sy_scope.specs.Walks.{Finds, found_in}
use Rattle.sy_names.specs.Paths.{unknown_thing, unknown_in_path, unknown_in_term, unknown_in_rhs, unknown_in_duration}
use Rattle.sy_names.specs.Events.{unknown_event, unknown_in_guard}
use Rattle.sy_names.specs.Targets.{unknown_target, unknown_in_situation}
use Rattle.sy_names.specs.Declarations.{unknown_in_declaration}

-- in the two sides of a comparison
abbrev pub unknown_in_comparison : Things → ℕ → TermTree → CmpTree → RhsTree → List Failure
unknown_in_comparison s visible left cmp right = unknown_in_term s visible left ++ unknown_in_rhs s visible right

-- in an internal event
abbrev pub unknown_in_internal : Things → Kind → Place → TargetTree → List Failure
unknown_in_internal s kind place target = unknown_target s target

-- in each part of a proposition
abbrev pub unknown_in_parts : Things → ℕ → Finds
unknown_in_parts s visible = record {
  comparison = unknown_in_comparison s visible;
  happening = unknown_event s;
  guard = unknown_in_guard s visible;
  internal = unknown_in_internal s;
  situation = unknown_in_situation s;
  fixed = λ date. [];
  path = unknown_in_path s visible;
  duration = unknown_in_duration s visible;
}

-- the debtor or the creditor of an obligation
abbrev pub unknown_in_obligation : Things → ℕ → ObligTree → List Failure
unknown_in_obligation s visible o = unknown_thing s visible o.debtor ++ unknown_thing s visible o.creditor

-- the holder or the other party of a power, or the target of its act
abbrev pub unknown_in_power : Things → ℕ → PowerTree → List Failure
unknown_in_power s visible p =
    unknown_thing s visible p.holder
    ++ unknown_thing s visible p.other_party
    ++ unknown_target s p.act.target

-- in the positions and the propositions of a contract, where so many first declarations may be named
abbrev pub unknown_in_contract : Things → ℕ → ContractTree → List Failure
unknown_in_contract s visible contract =
    flat_map (unknown_in_obligation s visible) contract.obligations
    ++ flat_map (unknown_in_obligation s visible) contract.surviving
    ++ flat_map (unknown_in_power s visible) contract.powers
    ++ found_in (unknown_in_parts s visible) contract

-- in a whole specification. Outside of the declarations each of them may be named
abbrev pub unknown_names : Things → SpecTree → List Failure
unknown_names s spec =
    flat_map (unknown_in_declaration s) (enumerate_from 0 spec.contract.declarations)
    ++ unknown_in_contract s (length s.declarations) spec.contract

-- each name that is used is declared for its place: else the fault stands at that name
abbrev pub names_known : SpecTree → Check
names_known spec = of_spec Fault.UnknownName (unknown_names (things_of spec) spec)
