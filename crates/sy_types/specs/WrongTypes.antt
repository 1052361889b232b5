-- The check that no phrase of a specification breaks the rules of types.
use Rattle.std.specs.Prelude.{ℕ, List, [], ◌++◌, length}
use Rattle.std.specs.List.{flat_map, enumerate_from}
use Rattle.sy_base.specs.declared.refusal.FaultName.TheVariants as Fault
use Rattle.sy_spec.specs.declared.contract.SpecTree.{SpecTree}
use Rattle.sy_domain.specs.declared.failure.Failure.{Failure}
use Rattle.sy_domain.specs.Failures.{Check, of_spec}
use Rattle.sy_scope.specs.Scopes.{Things, things_of}
use Rattle.sy_scope.specs.Walks.{Finds, found_in}
use Rattle.sy_types.specs.Attributes.{wrong_type}
use Rattle.sy_types.specs.Comparisons.{wrong_comparison, wrong_guard}
use Rattle.sy_types.specs.Conditions.{wrong_conditions}
use Rattle.sy_types.specs.Dates.{wrong_moment, wrong_duration}
use Rattle.sy_types.specs.Declarations.{wrong_parameter, wrong_declaration}
use Rattle.sy_types.specs.Positions.{wrong_internal, wrong_positions}

-- the phrases of propositions, where so many first declarations may be named. What names an event or speaks of a state breaks no rule
abbrev pub wrong_phrases : Things → ℕ → Finds
wrong_phrases s visible =
    record {
      comparison = wrong_comparison s visible;
      happening = λ name. [];
      guard = wrong_guard s visible;
      internal = wrong_internal s;
      situation = λ situation. [];
      fixed = λ date. [];
      path = wrong_moment s visible;
      duration = wrong_duration s visible;
    }

-- the types, the parameters and the declarations
abbrev pub wrong_things : Things → SpecTree → List Failure
wrong_things s spec =
    flat_map (wrong_type s) (enumerate_from 0 spec.domain.types)
    ++ flat_map (wrong_parameter s) spec.contract.parameters
    ++ flat_map (wrong_declaration s) (enumerate_from 0 spec.contract.declarations)

-- where phrases of a specification break the rules of types. Behind the declarations, all of them may be named
abbrev pub wrong_types : Things → SpecTree → List Failure
wrong_types s spec =
    let all = length s.declarations in
    wrong_things s spec
    ++ wrong_conditions spec.contract
    ++ wrong_positions s all spec.contract
    ++ found_in (wrong_phrases s all) spec.contract

-- no phrase breaks the rules of types: at its first token, and at the declaration's name for an attribute that it doesn't give
abbrev pub types_right : SpecTree → Check
types_right spec = of_spec Fault.WrongType (wrong_types (things_of spec) spec)
