-- Preconditions and constraints are decided before the contract begins: they use only `true`, `false`, comparisons, `and`, `or` and `not`.
use Rattle.std.specs.Prelude.{List, [], ◌∷◌, ◌++◌}
use Rattle.std.specs.List.{flat_map}
use Rattle.sy_tree.specs.declared.proposition.PropTree.{PropTree}
use Rattle.sy_tree.specs.declared.proposition.PropTree.TheOpen.{PropTree-F}
use Rattle.sy_tree.specs.declared.proposition.PropTree.TheOpen as P
use Rattle.sy_tree.specs.declared.proposition.PropTree.TheFolds.{fold-PropTree}
use Rattle.sy_spec.specs.declared.contract.ContractTree.{ContractTree}
use Rattle.sy_domain.specs.declared.failure.Failure.{Failure}
use Rattle.sy_domain.specs.Failures.{at}

-- the other atoms of one proposition, with those of each part of it in its place
abbrev pub other_atoms_step : PropTree-F (List Failure) → List Failure
other_atoms_step (P.Const value first) = []
other_atoms_step (P.Not part first) = part
other_atoms_step (P.All parts first) = flat_map (λ part. part) parts
other_atoms_step (P.Any parts first) = flat_map (λ part. part) parts
other_atoms_step (P.Compare left cmp right first) = []
other_atoms_step (P.Happens event first) = at first.token ∷ []
other_atoms_step (P.Before event date first) = at first.token ∷ []
other_atoms_step (P.After event date first) = at first.token ∷ []
other_atoms_step (P.Within event from to first) = at first.token ∷ []
other_atoms_step (P.Occurs situation from to first) = at first.token ∷ []
other_atoms_step (P.Holds situation first) = at first.token ∷ []

-- the atoms of a precondition or a constraint that are neither constants nor comparisons
abbrev pub other_atoms : PropTree → List Failure
other_atoms = fold-PropTree (List Failure) other_atoms_step

-- the preconditions and the constraints
abbrev pub wrong_conditions : ContractTree → List Failure
wrong_conditions contract = flat_map other_atoms contract.preconditions ++ flat_map other_atoms contract.constraints
