-- The limits of a specification: at most 500 positions, 500 declared events and 4,000 atoms.
-- An atom is an event that is named, in time too, an occurs or a holds, in a position or a postcondition.
use Rattle.std.specs.Prelude.{ℕ, ◌+◌, Bool, nat_le, if◌then◌else◌, codes, List, [], ◌∷◌, ◌++◌, length, None}
use Rattle.std.specs.List.{flat_map, sum, sum_by, count_by}
use Rattle.sy_base.specs.declared.refusal.FaultName.TheVariants as Fault
use Rattle.sy_tree.specs.declared.date.DateTree.{DateTree}
use Rattle.sy_tree.specs.declared.date.MomentTree.{MomentTree}
use Rattle.sy_tree.specs.declared.date.MomentTree.TheVariants as Moment
use Rattle.sy_tree.specs.declared.proposition.PropTree.{PropTree}
use Rattle.sy_tree.specs.declared.proposition.PropTree.TheOpen.{PropTree-F}
use Rattle.sy_tree.specs.declared.proposition.PropTree.TheOpen as P
use Rattle.sy_tree.specs.declared.proposition.PropTree.TheFolds.{fold-PropTree}
use Rattle.sy_spec.specs.declared.contract.ContractTree.{ContractTree}
use Rattle.sy_spec.specs.declared.contract.SpecTree.{SpecTree}
use Rattle.sy_domain.specs.declared.failure.Failure.{Failure}
use Rattle.sy_domain.specs.declared.meaning.Sort.{Sort}
use Rattle.sy_domain.specs.Failures.{Check, of_spec}
use Rattle.sy_scope.specs.Scopes.{Things, is_event, kind_of_sort, things_of}
use Rattle.sy_scope.specs.Walks.{obligation_propositions, power_propositions}

-- how many positions a contract has
abbrev pub position_count : ContractTree → ℕ
position_count contract = length contract.obligations + length contract.surviving + length contract.powers

-- things of the sort are events
abbrev pub is_event_sort : Things → Sort → Bool
is_event_sort s sort = is_event (kind_of_sort s sort)

-- how many events are declared
abbrev pub event_count : Things → ℕ
event_count s = count_by (is_event_sort s) s.declarations

-- the atoms of what a date term begins with
abbrev pub moment_atoms : MomentTree → ℕ
moment_atoms (Moment.Fixed date) = 0
moment_atoms (Moment.Path path) = 0
moment_atoms (Moment.Time place event) = 1

-- the atoms of a date term
abbrev pub date_atoms : DateTree → ℕ
date_atoms date = moment_atoms date.moment

-- the atoms of one proposition, with those of each part in its place
abbrev pub atoms_step : PropTree-F ℕ → ℕ
atoms_step (P.Const value first) = 0
atoms_step (P.Not n first) = n
atoms_step (P.All ns first) = sum ns
atoms_step (P.Any ns first) = sum ns
atoms_step (P.Compare left cmp right first) = 0
atoms_step (P.Happens event first) = 1
atoms_step (P.Before event to first) = 1 + date_atoms to
atoms_step (P.After event from first) = 1 + date_atoms from
atoms_step (P.Within event from to first) = 1 + date_atoms from + date_atoms to
atoms_step (P.Occurs situation from to first) = 1 + date_atoms from + date_atoms to
atoms_step (P.Holds situation first) = 1

-- how many atoms a proposition has
abbrev pub atoms : PropTree → ℕ
atoms = fold-PropTree ℕ atoms_step

-- the propositions of a contract's positions, and its postconditions
abbrev pub counted_propositions : ContractTree → List PropTree
counted_propositions contract =
    contract.postconditions
    ++ flat_map obligation_propositions contract.obligations
    ++ flat_map obligation_propositions contract.surviving
    ++ flat_map power_propositions contract.powers

-- how many atoms a contract has
abbrev pub atom_count : ContractTree → ℕ
atom_count contract = sum_by atoms (counted_propositions contract)

-- the failure of a count that is above its limit: it stands at no place, and has the word of what is counted
abbrev pub too_many : List ℕ → ℕ → ℕ → List Failure
too_many word limit count = if nat_le count limit then [] else record { place = None; words = word } ∷ []

-- the limits that are passed
abbrev pub passed : Things → ContractTree → List Failure
passed s contract =
    too_many (codes "positions") 500 (position_count contract)
    ++ too_many (codes "events") 500 (event_count s)
    ++ too_many (codes "atoms") 4000 (atom_count contract)

-- there are too many positions, events or atoms: the first of these, in this order
abbrev pub limits_kept : SpecTree → Check
limits_kept spec = of_spec Fault.TooMany (passed (things_of spec) spec.contract)
