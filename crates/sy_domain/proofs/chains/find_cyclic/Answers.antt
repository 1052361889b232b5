use Rattle.std.proofs.Common.{◌≡◌, ◌∙◌, ◌++◌, length, map, flat_map, ap}
use Rattle.std.specs.List.{enumerate_from}
use Rattle.std.proofs.lemmas.List.{length-map}
use Rattle.sy_domain.specs.Chains.{base_number, cyclic_name}
use Rattle.sy_domain.specs.Machine.Marked.{marked_name}
use Rattle.sy_domain.proofs.Marked.{marked_are_cyclic}
use Rattle.sy_domain.proofs.chains.find_cyclic.Goals as goal

pub returns : goal.returns
returns c =
    let table = c.args.names.now.table in
    let types = c.items-types.result.now in
    let bases = c.items.result.now in
    let are : bases ≡ map (base_number table) types = c.items.ensures ∙ c.in_ok-bases.ensures in
    let same : length bases ≡ length types = ap length are ∙ length-map types (base_number table) in
    c.in_ok-check_all.ensures
    ∙ ap (λ out. out ++ flat_map (marked_name c.deref.result.now) (enumerate_from 0 types)) c.new-out.ensures
    ∙ ap (λ marks. flat_map (marked_name marks) (enumerate_from 0 types)) c.deref.ensures.value
    ∙ marked_are_cyclic bases c.in_ok-cyclic.cyclic.items types same c.in_ok-cyclic.ensures
    ∙ ap (λ b. flat_map (cyclic_name b) (enumerate_from 0 types)) are
    ∙ ap (λ t. flat_map (cyclic_name (map (base_number table) t)) (enumerate_from 0 t)) c.items-types.ensures
