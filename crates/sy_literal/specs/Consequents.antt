-- The words `holds` in the consequents of obligations, where none may stand.
use Rattle.std.specs.Prelude.{List, [], ◌∷◌, ◌++◌}
use Rattle.std.specs.List.{flat_map}
use Rattle.sy_base.specs.declared.refusal.FaultName.TheVariants as Fault
use Rattle.sy_tree.specs.declared.proposition.PropTree.{PropTree}
use Rattle.sy_tree.specs.declared.proposition.PropTree.TheOpen.{PropTree-F}
use Rattle.sy_tree.specs.declared.proposition.PropTree.TheOpen as P
use Rattle.sy_tree.specs.declared.proposition.PropTree.TheFolds.{fold-PropTree}
use Rattle.sy_spec.specs.declared.contract.SpecTree.{SpecTree}
use Rattle.sy_spec.specs.declared.position.ObligTree.{ObligTree}
use Rattle.sy_domain.specs.declared.failure.Failure.{Failure}
use Rattle.sy_domain.specs.Failures.{Check, at, of_spec}

-- each `holds` of one proposition, with those of each part in its place: the word is the first token of its atom
abbrev pub holds_step : PropTree-F (List Failure) → List Failure
holds_step (P.Not part first) = part
holds_step (P.All parts first) = flat_map (λ part. part) parts
holds_step (P.Any parts first) = flat_map (λ part. part) parts
holds_step (P.Holds situation first) = at first.token ∷ []
holds_step _ = []

-- each `holds` of a proposition
abbrev pub each_holds : PropTree → List Failure
each_holds = fold-PropTree (List Failure) holds_step

-- each `holds` of an obligation's consequent
abbrev pub consequent_holds : ObligTree → List Failure
consequent_holds o = each_holds o.consequent

-- each `holds` of the consequents of a specification
abbrev pub situations : SpecTree → List Failure
situations spec =
    flat_map consequent_holds spec.contract.obligations ++ flat_map consequent_holds spec.contract.surviving

-- a consequent has `holds`: at that word
abbrev pub consequents_without_situations : SpecTree → Check
consequents_without_situations spec = of_spec Fault.SituationInConsequent (situations spec)
