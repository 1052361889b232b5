use Rattle.std.proofs.Common.{◌≡◌, ◌++◌, ℕ, List, flat_map, reverse, sym, ap, ◌∙◌}
use Rattle.std.specs.Map.{keys_of}
use Rattle.sy_chains.specs.Chains.{above}
use Rattle.sy_domain.specs.Ontologies.{owned_at}
use Rattle.sy_domain.proofs.Found.{keys_of_all}
use Rattle.sy_domain.proofs.types.Ontology.member_names.Goals as goal

pub returns : goal.returns
returns c =
    let domain = c.args.self.now in
    let n = c.args.number in
    let own = keys_of (owned_at domain n) in
    let all : List ℕ → List (List ℕ) = λ numbers. flat_map (λ m. keys_of (owned_at domain m)) (reverse numbers) in
    c.in_ok-copy_names.ensures
    ∙ ap (λ l. c.name_all.new.out ++ l) c.own_names.ensures
    ∙ ap (λ l. l ++ own) (c.in_ok-name_all.ensures ∙ ap (λ l. l ++ all c.items.result.now) c.new-names.ensures)
    ∙ ap (λ numbers. all numbers ++ own) (c.items.ensures ∙ c.in_ok-above.ensures)
    ∙ keys_of_all (owned_at domain) (reverse (above domain.bases n)) (owned_at domain n)
