use Rattle.std.proofs.Common.{◌≡◌, ℕ, zero, suc, ◌<◌, get_or, List, [], ◌∷◌, ◌++◌, map, sym, ◌∙◌, subst, rules, arith}
use Rattle.std.specs.List.{All}
use Rattle.std.proofs.lemmas.List.Elements.{All-append}
use Rattle.sy_base.specs.declared.time.TimeUnit.{TimeUnit}
use Rattle.sy_base.specs.Points.{IsDated}
use Rattle.sy_core.specs.Chronicle.{assuming, internal_events}
use Rattle.sy_axioms.specs.declared.moment.Moment.{Moment as KeptMoment}
use Rattle.sy_axioms.specs.Machine.KeptMoments.{moment_of, state_in}
use Rattle.sy_axioms.proofs.Dates.{dated_is_passed, next_is_passed}
use Rattle.sy_axioms.proofs.GoesOn.{stands_on}
use Rattle.sy_axioms.proofs.plain.Plain.step.Goals as goal

pub returns-clause-next : goal.returns-clause-next
returns-clause-next c = λ narrative n stands exact.
    let deed = c.args.deed.now in
    let unit = deed.unit in
    let point = dated_is_passed unit c.args.self.now.point c.requires.dated in
    stands_on deed narrative n c.args.self.now _ c.in_ok-moment.moment c.args.at.now
    (record {
      moments = search rules;
      point = next_is_passed unit c.args.self.now.point c.requires.dated;
      moment =
          c.in_ok-moment.ensures.moment
          ∙ (λ j. assuming (point j) (c.in_ok-copy_happenings.ensures j) (state_in (c.in_ok-copy.ensures j)) (internal_events deed (point j) (c.in_ok-copy_happenings.ensures j) (state_in (c.in_ok-copy.ensures j)) (map moment_of (c.items.ensures j))));
      states = c.in_ok-states.ensures;
    })
    stands exact

-- the moments and one more
all_dated : (unit : TimeUnit) (moments after : List KeptMoment) (kept : KeptMoment) → All (λ d. IsDated unit d.point) moments → IsDated unit kept.point → after ≡ moments ++ kept ∷ [] → All (λ d. IsDated unit d.point) after
all_dated unit moments after kept dated now is = subst (All (λ d. IsDated unit d.point)) (sym is) (All-append (λ d. IsDated unit d.point) moments (kept ∷ []) dated one)
  where
    one : (k : ℕ) (d : KeptMoment) → k < 1 → IsDated unit (get_or (kept ∷ []) k d).point
    one zero d lt = now
    one (suc k) d lt = absurd (omega arith)

pub returns-clause-made : goal.returns-clause-made
returns-clause-made c =
    let unit = c.args.deed.now.unit in
    let e : c.in_ok-moment.moment.point ≡ c.args.self.now.point = c.in_ok-moment.ensures.point ∙ dated_is_passed unit c.args.self.now.point c.requires.dated in
    all_dated unit c.args.self.now.moments c.push.new.self c.in_ok-moment.moment c.requires.made (subst (IsDated unit) (sym e) c.requires.dated) c.in_ok-push.ensures.ok
