use Rattle.std.proofs.Common.{◌≡◌, ◌^◌, ◌<◌, arith, ap, subst, false}
use Rattle.sy_outside.specs.Lines.{has_newline}
use Rattle.sy_outside.specs.Machine.Filling.{IsFirstNewline, StandsFirst}
use Rattle.sy_outside.proofs.LineLemmas.{has_newline-shorter, has_newline-take}
use Rattle.sy_outside.proofs.lines.cut_line.Goals as goal
use Rattle.sy_outside.proofs.lines.cut_line.Goals.{in-Some, in-None}

pub returns-then-length-gt-LINE_LIMIT-clause-cuts :
    goal.returns-then-length-gt-LINE_LIMIT-clause-cuts
returns-then-length-gt-LINE_LIMIT-clause-cuts c =
    let few : c.args.given < 2 ^ 32 = omega (arith, c.if-given-eq-LINE_COUNT.false, c.requires.count) in
    elim c.match-newline.branch [
      | in-Some w ↦
          let first : StandsFirst c.args.held.now w.in-Some.place = subst (IsFirstNewline c.args.held.now) w.in-Some.is c.requires.place in
          let long : 4096 < w.in-Some.place = omega (arith, ap (λ p. p.0) w.length-is) in
          (omega (arith, first.within), has_newline-shorter 4097 w.in-Some.place c.args.held.now (omega arith) first.none_before, few)
      | in-None w ↦
          let none : has_newline c.args.held.now ≡ false = subst (IsFirstNewline c.args.held.now) w.in-None.is c.requires.place in
          (omega (arith, ap (λ p. p.0) w.length-is), has_newline-take 4097 c.args.held.now none, few)
    ]
