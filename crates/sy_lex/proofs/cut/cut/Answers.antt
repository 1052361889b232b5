use Rattle.std.proofs.Common.{◌≡◌, ◌+◌, ◌<◌, ◌≤◌, length, take, drop, refl, sym, subst, ◌∙◌, arith}
use Rattle.std.proofs.lemmas.List.{take_rest, length-take-le, length-drop}
use Rattle.std.proofs.lemmas.Bool.Decides.{nat_tests}
use Rattle.sy_lex.specs.declared.step.Step.TheVariants as S
use Rattle.sy_lex.specs.Machine.Room.{HasRoom}
use Rattle.sy_lex.specs.Tokens.{spot_after}
use Rattle.sy_lex.specs.Machine.Cutting.{cut_at, cut_of}
use Rattle.sy_lex.proofs.Steps.{with_front, turn, turn_token, cut_end}
use Rattle.sy_lex.proofs.cut.cut.Goals as goal
use Rattle.sy_lex.proofs.cut.cut.Goals.{in-Token+in_ok-push-in-Token, in-Skip}

pub returns-in-Bad : goal.returns-in-Bad
returns-in-Bad c =
    let some : 0 < length c.text.rest.now = grind (arith, nat_tests) in
    let moves = c.in-Bad.ensures.moves some in
    let next = turn (S.Bad c.in-Bad.length) _ c.text.rest.now c.text.tokens _ some c.in-Bad.ensures.value moves c.text.invariant.read in
    sym next ∙ rw c.after.ensures.value refl

pub text-preserved : goal.text-preserved
text-preserved c =
    let rest = c.text.rest.now in
    let n = c.match-next_step.length in
    let some : 0 < length rest = grind (arith, nat_tests) in
    let next : (n ≤ length rest) × (with_front c.match-next_step.tokens (cut_at 0 (spot_after c.text.spot (take n rest)) (drop n rest)) ≡ cut_of c.args.source.now) = elim c.match-next_step.branch [
      | in-Token+in_ok-push-in-Token w ↦
          let moves = w.in-Token.ensures.moves some in
          let step = w.in-Token.ensures.value in
          let read = turn_token _ w.in-Token.length c.text.spot rest c.text.tokens _ some step moves c.text.invariant.read in
          rw (w.length-is, w.tokens-is, w.in_ok-push-in-Token.ensures.ok, w.token.ensures) (moves.1, read)
      | in-Skip w ↦
          let moves = w.in-Skip.ensures.moves some in
          let step = w.in-Skip.ensures.value in
          let read = turn (S.Skip w.in-Skip.length) c.text.spot rest c.text.tokens _ some step moves c.text.invariant.read in
          rw (w.length-is, w.tokens-is) (moves.1, read)
    ] in
    let size : length rest ≡ length (take n rest) + length (drop n rest) =
    omega (arith, next.0, length-take-le n rest next.0, length-drop n rest) in
    let room = subst (HasRoom c.text.spot) size c.text.invariant.room in
    rw (take_rest rest n) (record { room = c.after-spot.ensures.room (length (drop n rest)) room; read = rw c.after-spot.ensures.value next.1 })

pub returns : goal.returns
returns c = sym c.text.invariant.read ∙ cut_end c.text.tokens c.text.spot c.text.rest.now (grind (arith, nat_tests))
