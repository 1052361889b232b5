use Rattle.std.proofs.Common.{to_z, of_z, w64, ◌≡◌, ◌∙◌, [], ◌∷◌, ap, sym, subst, rules, arith}
use Rattle.std.proofs.lemmas.Int.{ints, to_z-of_z}
use Rattle.std.specs.Prelude.{List, OnOk, OnErr}
use Rattle.sy_core.specs.declared.happening.Happening.{Happening}
use Rattle.sy_story.specs.Machine.ByPoint.{IsPutIn, listed}
use Rattle.sy_story.proofs.Putting.{pushed_through, opened_anew}
use Rattle.sy_story.proofs.moments.Moments.put.Goals as goal

pub invariant_of-self : goal.invariant_of-self
invariant_of-self c =
    let found = c.in-Some.ensures.value in
    let holds = c.get_mut.follows.holds c.push.new.self in
    (pushed_through c.args.happening.now c.in_ok-copy.copy c.self.inside.lists.entries (c.get_mut.follows.lender c.push.new.self).entries c.in-Some.list.now c.push.new.self c.push.result
    c.self.invariant c.in_ok-copy.ensures (sym found) holds.0 holds.4 c.push.ensures.ok c.push.ensures.err).by_point

pub returns-in-Some-clause-ok : goal.returns-in-Some-clause-ok
returns-in-Some-clause-ok c =
    let found = c.in-Some.ensures.value in
    let holds = c.get_mut.follows.holds c.push.new.self in
    let done = pushed_through c.args.happening.now c.in_ok-copy.copy c.self.inside.lists.entries (c.get_mut.follows.lender c.push.new.self).entries c.in-Some.list.now c.push.new.self c.push.result
    c.self.invariant c.in_ok-copy.ensures (sym found) holds.0 holds.4 c.push.ensures.ok c.push.ensures.err in
    subst (λ (xs : List Happening). OnOk c.push.result (IsPutIn xs c.args.happening.now (listed (c.get_mut.follows.lender c.push.new.self).entries))) c.self.view_is done.ok

pub returns-in-Some-clause-err : goal.returns-in-Some-clause-err
returns-in-Some-clause-err c =
    let found = c.in-Some.ensures.value in
    let holds = c.get_mut.follows.holds c.push.new.self in
    let done = pushed_through c.args.happening.now c.in_ok-copy.copy c.self.inside.lists.entries (c.get_mut.follows.lender c.push.new.self).entries c.in-Some.list.now c.push.new.self c.push.result
    c.self.invariant c.in_ok-copy.ensures (sym found) holds.0 holds.4 c.push.ensures.ok c.push.ensures.err in
    subst (λ (xs : List Happening). OnErr c.push.result (listed (c.get_mut.follows.lender c.push.new.self).entries ≡ xs)) c.self.view_is done.err

pub invariant_of-self-in-None : goal.invariant_of-self-in-None
invariant_of-self-in-None c =
    let missing = c.in-None.ensures.value in
    let none = c.get_mut.follows.holds-at-none in
    let same : to_z w64 (of_z w64 c.args.happening.now.point) ≡ c.args.happening.now.point = first_of (search rules, grind (arith, ints, to_z-of_z)) in
    let entries = simp (same, none) at c.in_ok-insert-in-None.ensures.entries in
    (opened_anew c.args.happening.now c.self.inside.lists.entries c.insert.new.self.entries c.in_ok-alone-in-None.field-0 c.self.invariant
    (c.in_ok-alone-in-None.ensures ∙ ap (λ (h : Happening). h ∷ []) c.in_ok-copy.ensures) (sym missing) entries c.in_ok-insert-in-None.ensures.ordered).0

pub returns-in_ok-insert-in-None-clause-ok : goal.returns-in_ok-insert-in-None-clause-ok
returns-in_ok-insert-in-None-clause-ok c =
    let missing = c.in-None.ensures.value in
    let none = c.get_mut.follows.holds-at-none in
    let same : to_z w64 (of_z w64 c.args.happening.now.point) ≡ c.args.happening.now.point = first_of (search rules, grind (arith, ints, to_z-of_z)) in
    let entries = simp (same, none) at c.in_ok-insert-in-None.ensures.entries in
    let done = opened_anew c.args.happening.now c.self.inside.lists.entries c.insert.new.self.entries c.in_ok-alone-in-None.field-0 c.self.invariant
    (c.in_ok-alone-in-None.ensures ∙ ap (λ (h : Happening). h ∷ []) c.in_ok-copy.ensures) (sym missing) entries c.in_ok-insert-in-None.ensures.ordered in
    subst (λ (xs : List Happening). IsPutIn xs c.args.happening.now (listed c.insert.new.self.entries)) c.self.view_is done.1
