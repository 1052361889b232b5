use Rattle.std.proofs.Common.{◌≡◌, List, [], ◌++◌, length, ap, ◌∙◌}
use Rattle.sy_spec.specs.declared.contract.SpecTree.{SpecTree}
use Rattle.sy_domain.specs.declared.failure.Failure.{Failure}
use Rattle.sy_domain.specs.declared.meaning.Sort.{Sort}
use Rattle.sy_scope.specs.Scopes.{Things}
use Rattle.sy_scope.specs.Walks.{found_in}
use Rattle.sy_types.specs.Conditions.{wrong_conditions}
use Rattle.sy_types.specs.Positions.{wrong_positions}
use Rattle.sy_types.specs.WrongTypes.{wrong_things, wrong_phrases, wrong_types}
use Rattle.sy_types.proofs.wrong.wrong_types.Goals as goal

-- four steps, each of which puts what it finds behind the others
in_turn : (s : Things) (spec : SpecTree) (sorts : List Sort) (none things conditions positions phrases : List Failure)
    → sorts ≡ s.declarations
    → none ≡ []
    → things ≡ none ++ wrong_things s spec
    → conditions ≡ things ++ wrong_conditions spec.contract
    → positions ≡ conditions ++ wrong_positions s (length sorts) spec.contract
    → phrases ≡ positions ++ found_in (wrong_phrases s (length sorts)) spec.contract
    → phrases ≡ wrong_types s spec
in_turn s spec sorts none things conditions positions phrases all a b c d e =
    e
    ∙ ap (λ l. l ++ found_in (wrong_phrases s (length sorts)) spec.contract)
    (d
    ∙ ap (λ l. l ++ wrong_positions s (length sorts) spec.contract)
    (c ∙ ap (λ l. l ++ wrong_conditions spec.contract) (b ∙ ap (λ l. l ++ wrong_things s spec) a)))
    ∙ ap
    (λ sorts. wrong_things s spec ++ wrong_conditions spec.contract
    ++ wrong_positions s (length sorts) spec.contract
    ++ found_in (wrong_phrases s (length sorts)) spec.contract)
    all

pub returns : goal.returns
returns c =
    in_turn c.args.scope.now c.args.tree.now c.declarations-visible.result.now _ _ _ _ _
    c.declarations-visible.ensures c.new-out.ensures c.in_ok-check_things.ensures c.in_ok-check_conditions.ensures
    c.in_ok-check_positions.ensures c.in_ok-check_phrases.ensures
