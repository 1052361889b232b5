use Rattle.std.proofs.Common.{◌≡◌, ◌+◌, ◌-◌, ◌<◌, ◌≤◌, ℕ, cond, drop, length, Some, ap, ◌∙◌, arith}
use Rattle.std.specs.List.{find}
use Rattle.std.specs.Map.{lookup}
use Rattle.sy_domain.specs.Names.{same}
use Rattle.sy_given.specs.Machine.Places.{is_named}
use Rattle.sy_given.proofs.Places.{index_turn}
use Rattle.sy_given.proofs.named.first_places.Goals as goal

pub left-preserved : goal.left-preserved
left-preserved g c =
    let own = g.T.Named.own_name in
    let things = c.args.things.now in
    let old = c.left.places.entries in
    let j = c.left.i - 1 in
    let within : j < length things = omega (arith, c.left.invariant.0, c.left-test.true) in
    let next : c.left.i ≡ j + 1 = omega (arith, c.left-test.true) in
    let fits : j ≤ length things = omega (arith, within) in (
      fits,
      λ name.
          index_turn own things j c.index-things-i.result name old c.insert.new.self.entries within c.index-things-i.is
          (c.in_ok-insert.ensures.updates.0 name
          ∙ ap (λ key. cond (same key name) (Some j) (lookup (same name) old))
          (c.in_ok-copy.ensures ∙ ap (λ token. token.text) c.name.ensures))
          (c.left.invariant.1 name ∙ ap (λ n. find (is_named own name) (drop n things)) next),
    )
