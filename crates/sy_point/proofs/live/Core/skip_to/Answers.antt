use Rattle.std.proofs.Common.{rules, ◌≡◌, ◌+◌, ◌+ℤ◌, ℕ, zero, suc, pos, List, true, false, w64, ℤ, to_z, of_z, int_lt as lt_z, sym, ◌∙◌, subst, arith}
use Rattle.std.proofs.lemmas.Int.{ints, to_z-of_z}
use Rattle.sy_core.specs.declared.deed.Deed.{Deed}
use Rattle.sy_core.specs.declared.happening.Happening.{Happening}
use Rattle.sy_core.specs.Soundness.{IsOrdered}
use Rattle.sy_point.specs.Standing.{StandsFor, NoneWakes}
use Rattle.sy_present.proofs.Passing.{passed}
use Rattle.sy_point.proofs.Skipping.{skipped}
use Rattle.sy_point.proofs.live.Core.skip_to.Goals as goal

-- the number of the point isn't smaller
as_many : (start here there : ℤ) (n m : ℕ) → here ≡ start +ℤ pos n → there ≡ start +ℤ pos (n + m) → here ≡ there → n + m ≡ n
as_many start here there n m a b same = omega (arith, ints, a, b, same)

pub returns-then-self-point-clause-stands : goal.returns-then-self-point-clause-stands
returns-then-self-point-clause-stands c = λ deed narrative n m ordered stands at none. by_number deed narrative n m ordered stands at none
  where
    passes : to_z w64 (of_z w64 c.args.point) ≡ c.args.point
    passes = to_z-of_z w64 c.args.point c.ranges.point

    by_number : (deed : Deed) (narrative : List Happening) (n m : ℕ) → IsOrdered deed → StandsFor c.args.self.now deed narrative n → c.args.point ≡ deed.start +ℤ pos (n + m) → NoneWakes deed narrative n m
        → StandsFor (record { point = to_z w64 (of_z w64 c.args.point); present = c.args.self.now.present; fresh = false; queue = c.args.self.now.queue; queued = c.args.self.now.queued }) deed narrative (n + m)
    by_number deed narrative n zero ordered stands at none =
        let p = stands.at_point in
        let same : c.args.self.now.point ≡ c.args.point = omega (arith, ints, at, p) in
        let lt = subst (λ q. lt_z (to_z w64 (of_z w64 q)) (to_z w64 (of_z w64 c.args.point)) ≡ true) same c.if-self-point.true in
        absurd (omega (arith, ints, lt))
    by_number deed narrative n (suc m) ordered stands at none =
        skipped deed ordered.complete narrative c.args.self.now n m (to_z w64 (of_z w64 c.args.point)) none (passes ∙ at) (passed c.args.self.now.present deed narrative n (suc m) ordered.complete stands.present none) stands

pub returns-else-self-point-clause-stands : goal.returns-else-self-point-clause-stands
returns-else-self-point-clause-stands c = λ deed narrative n m ordered stands at none.
    let same : c.args.self.now.point ≡ c.args.point = search (rules, ints) in
    subst (StandsFor c.args.self.now deed narrative) (sym (as_many deed.start c.args.self.now.point c.args.point n m stands.at_point at same)) stands
