use Rattle.std.proofs.Common.{◌≡◌, List, ◌++◌, length, flat_map, ap, ◌∙◌}
use Rattle.std.specs.List.{enumerate_from}
use Rattle.sy_spec.specs.declared.contract.DeclTree.{DeclTree}
use Rattle.sy_names.specs.Declarations.{unknown_in_declaration}
use Rattle.sy_names.specs.UnknownNames.{unknown_in_contract}
use Rattle.sy_names.proofs.unknown.unknown_names.Goals as goal

pub returns : goal.returns
returns c =
    let s = c.args.scope.now in
    let contract = c.args.tree.now.contract in
    let of_declarations = λ (ds : List DeclTree). flat_map (unknown_in_declaration s) (enumerate_from 0 ds) in
    c.in_ok-check_contract.ensures
    ∙ ap (λ found. found ++ unknown_in_contract s (length c.declarations.result.now) contract)
    (c.in_ok-check_declarations.ensures
    ∙ ap (λ found. found ++ of_declarations c.items.result.now) c.new-out.ensures
    ∙ ap of_declarations c.items.ensures)
    ∙ ap (λ all. of_declarations contract.declarations ++ unknown_in_contract s (length all) contract)
    c.declarations.ensures
