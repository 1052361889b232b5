use Rattle.std.proofs.Common.{◌≡◌, ◌+◌, length, ◌∙◌, ap, arith, length-append}
use Rattle.sy_prop.specs.Machine.Changes.{changed, changed_from}
use Rattle.sy_prop.specs.Machine.Deeds.{changes_of_positions, changes_of_posts}
use Rattle.sy_prop.specs.Machine.Tellings.{step_of}
use Rattle.sy_prop.proofs.Changing.{changed_on}
use Rattle.sy_prop.proofs.deed.tell_deed.Goals as goal

pub returns : goal.returns
returns c =
    let step = step_of c.args.telling.now in
    let deed = c.args.telling.now.deed.now in
    let fs = changes_of_positions step deed in
    let gs = changes_of_posts step deed in
    let size = length-append fs gs in
    let z : length fs ≡ 0 + length fs = omega arith in
    let at = c.tell_positions-posts.ensures.count in
    let first = c.tell_positions-posts.ensures.nodes in
    c.tell_posts.ensures
    ∙ ((λ j. changed_from (at j) gs (first j))
    ∙ (ap (λ n. changed_from n gs (changed fs c.args.nodes.now)) z
    ∙ changed_on 0 fs gs c.args.nodes.now (omega (arith, c.requires.room, size))))
