use Rattle.std.proofs.Common.{◌≡◌, ℕ, List, fold, take, sym, ap, ◌∙◌}
use Rattle.sy_domain.specs.declared.types.Member.{Member}
use Rattle.sy_events.specs.Events.{put_member}
use Rattle.sy_events.proofs.Turns.{ended, fold_turn}
use Rattle.sy_events.proofs.events.put_members.Goals as goal
use Rattle.sy_events.proofs.events.put_members.Goals.{in-Some+in_ok-put_member-in-Some, in-None}

pub member-preserved : goal.member-preserved
member-preserved c =
    let put = put_member c.args.choice_numbers.now in
    let entries = c.args.members.now.entries in
    let first = c.args.kinds.now.entries in
    elim c.match-get_index.branch [
      | in-Some+in_ok-put_member-in-Some w ↦
          let here : List ℕ × Member = (w.in-Some.name.now, w.in-Some.member.now) in
          ap (λ k. k.entries) w.kinds-is
          ∙ w.in_ok-put_member-in-Some.ensures
          ∙ ap (λ es. put es here) c.member.invariant
          ∙ sym (fold_turn put first entries c.member.i here (sym w.in-Some.ensures.entry))
      | in-None w ↦
          ap (λ k. k.entries) w.kinds-is
          ∙ c.member.invariant
          ∙ ap (fold put first) (sym (ended entries c.member.i (sym w.in-None.ensures.entry)))
    ]
