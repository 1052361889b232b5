use Rattle.std.proofs.Common.{◌≡◌, ℕ, List, [], fold, flat_map, reverse, sym, ap, ◌∙◌}
use Rattle.std.proofs.lemmas.List.Sums.{fold-append}
use Rattle.sy_core.specs.declared.value.ValueKind.{ValueKind}
use Rattle.sy_chains.specs.Chains.{above}
use Rattle.sy_domain.specs.Ontologies.{owned_at}
use Rattle.sy_events.specs.Events.{put_member}
use Rattle.sy_events.specs.Machine.Owned.{put_owned}
use Rattle.sy_events.proofs.Turns.{fold_parts}
use Rattle.sy_events.proofs.events.attributes_at.Goals as goal

pub returns : goal.returns
returns c =
    let domain = c.args.ontology.now in
    let numbers = c.args.choice_numbers.now in
    let put = put_member numbers in
    let own = owned_at domain c.args.number in
    let up = reverse (above domain.bases c.args.number) in
    let all = put_owned domain numbers in
    let put_up =
    c.in_ok-put_all.ensures
    ∙ ap (λ kinds. fold all kinds (reverse c.items.result.now)) c.new-kinds.ensures.empty
    ∙ ap (λ above. fold all [] (reverse above)) (c.items.ensures ∙ c.in_ok-above.ensures)
    ∙ sym (fold_parts put (owned_at domain) [] up) in
    c.in_ok-put_own.ensures
    ∙ ap (λ kinds. fold put kinds own) put_up
    ∙ sym (fold-append put [] (flat_map (owned_at domain) up) own)
