use Rattle.std.proofs.Common.{◌≡◌, ℕ, List, ◌++◌, [], ◌∷◌, map, take, sym, ap, ◌∙◌}
use Rattle.sy_core.specs.declared.value.ValueKind.{ValueKind}
use Rattle.sy_core.specs.declared.deed.AttrDecl.{AttrDecl}
use Rattle.sy_events.specs.Events.{attribute}
use Rattle.sy_events.proofs.Turns.{ended, map_turn}
use Rattle.sy_events.proofs.events.attributes.Goals as goal
use Rattle.sy_events.proofs.events.attributes.Goals.{in-Some+in_ok-copy-in-Some+in_ok-push-in-Some, in-None}

pub attribute-preserved : goal.attribute-preserved
attribute-preserved c =
    let entries = c.args.kinds.now.entries in
    elim c.match-get_index.branch [
      | in-Some+in_ok-copy-in-Some+in_ok-push-in-Some w ↦
          let here : List ℕ × ValueKind = (w.in-Some.name.now, w.in-Some.kind.now) in
          ap (λ l. l) w.list-is
          ∙ w.in_ok-push-in-Some.ensures.ok
          ∙ ap (λ l. l ++ record { name = w.in_ok-copy-in-Some.field-0; kind = w.in-Some.kind.now } ∷ []) c.attribute.invariant
          ∙ ap (λ name. map attribute (take c.attribute.i entries) ++ record { name = name; kind = w.in-Some.kind.now } ∷ []) w.in_ok-copy-in-Some.ensures
          ∙ sym (map_turn attribute entries c.attribute.i here (sym w.in-Some.ensures.entry))
      | in-None w ↦
          w.list-is ∙ c.attribute.invariant
          ∙ ap (map attribute) (sym (ended entries c.attribute.i (sym w.in-None.ensures.entry)))
    ]
