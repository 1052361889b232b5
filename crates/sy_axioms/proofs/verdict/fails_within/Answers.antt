use Rattle.std.proofs.Common.{◌≡◌, ℕ, ℤ, suc, ◌<◌, Bool, true, not, ◌&&◌, ◌||◌, int_lt, int_le, List, ◌∷◌, length, drop, get_or, sym, ◌∙◌, ap, subst, drop-cons, map, w64}
use Rattle.std.proofs.lemmas.Int.{to_z-of_z}
use Rattle.sy_core.specs.declared.proposition.Situation.{Situation}
use Rattle.sy_core.specs.Moments.{up_to}
use Rattle.sy_core.specs.Propositions.{situation_holds, fails_within}
use Rattle.sy_axioms.specs.declared.moment.Moment.{Moment as KeptMoment}
use Rattle.sy_axioms.specs.Machine.KeptMoments.{moment_of}
use Rattle.sy_axioms.proofs.verdict.fails_within.Goals as goal

found : (s : Situation) (from to : ℤ) (before : List KeptMoment) (i : ℕ) (kept now : KeptMoment) (whole : Bool) → i < length before → kept ≡ get_or before i kept → ((int_le from kept.point && int_lt kept.point to) && not (situation_holds s (moment_of kept))) ≡ true → fails_within s from to (up_to (moment_of now) (map moment_of (drop i before))) ≡ whole → true ≡ whole
found s from to before i kept now whole lt is fails h =
    let e : drop i before ≡ kept ∷ drop (suc i) before = drop-cons before i kept lt ∙ ap (λ x. x ∷ drop (suc i) before) (sym is) in
    sym (ap (λ b. b || fails_within s from to (up_to (moment_of now) (map moment_of (drop (suc i) before)))) fails)
    ∙ subst (λ xs. fails_within s from to (up_to (moment_of now) (map moment_of xs)) ≡ whole) e h

pub returns-then-fails_between : goal.returns-then-fails_between
returns-then-fails_between c =
    let from_is = to_z-of_z w64 c.args.from c.ranges.from in
    let to_is = to_z-of_z w64 c.args.to c.ranges.to in
    found c.args.situation c.args.from c.args.to c.args.present.now.before.now c.loop-moment.moment-index c.moment-item.result c.args.present.now.moment.now _ c.loop-moment-test.true c.moment-item.is (simp (from_is, to_is) at (sym c.fails_between.ensures ∙ c.if-fails_between.true)) (simp (from_is, to_is) at c.loop-moment.invariant)
