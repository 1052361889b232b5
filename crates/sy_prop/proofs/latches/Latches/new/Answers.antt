use Rattle.std.proofs.Common.{sym, ◌∙◌, ap, subst}
use Rattle.std.specs.List.{flat_map}
use Rattle.sy_base.specs.Points.{IsDated}
use Rattle.sy_atoms.specs.Histories.{first_history}
use Rattle.sy_atoms.proofs.Dates.{dated_is_passed}
use Rattle.sy_prop.specs.Machine.Roots.{posts_from}
use Rattle.sy_prop.specs.Machine.Terms.{places_from}
use Rattle.sy_prop.specs.Standing.{position_props}
use Rattle.sy_prop.proofs.Adding.{all_added, first_post}
use Rattle.sy_prop.proofs.latches.Latches.new.Goals as goal

pub returns-clause-stands : goal.returns-clause-stands
returns-clause-stands c =
    let deed = c.args.deed.now in
    let h = first_history deed.start in
    let a = c.in_ok-add_positions.ensures in
    let b = c.in_ok-add_posts.ensures in
    let at = dated_is_passed deed.unit deed.start c.requires.start_dated in
    let kept = all_added deed.unit h (flat_map position_props deed.positions) deed.posts c.add_positions.new.nodes.items c.add_posts.new.nodes.items a.nodes b.nodes in
    record {
      orderly = tt;
      at_point = at;
      kept = kept;
      roots = a.roots;
      posts = b.posts ∙ ap (λ n. posts_from n deed.posts) (first_post deed.unit h deed.positions c.add_positions.new.nodes.items a.nodes);
      places = c.in_ok-places.ensures ∙ ap (places_from 0) (c.as_slice.ensures.value ∙ kept);
    }

pub returns-clause-made : goal.returns-clause-made
returns-clause-made c =
    let deed = c.args.deed.now in
    let h = first_history deed.start in
    let a = c.in_ok-add_positions.ensures in
    let b = c.in_ok-add_posts.ensures in
    let at = dated_is_passed deed.unit deed.start c.requires.start_dated in
    let kept = all_added deed.unit h (flat_map position_props deed.positions) deed.posts c.add_positions.new.nodes.items c.add_posts.new.nodes.items a.nodes b.nodes in
    record {
      told = h;
      stands = record {
        orderly = tt;
        at_point = at;
        kept = kept;
        roots = a.roots;
        posts = b.posts ∙ ap (λ n. posts_from n deed.posts) (first_post deed.unit h deed.positions c.add_positions.new.nodes.items a.nodes);
        places = c.in_ok-places.ensures ∙ ap (places_from 0) (c.as_slice.ensures.value ∙ kept);
      };
      dated = subst (IsDated deed.unit) (sym at) c.requires.start_dated;
    }
