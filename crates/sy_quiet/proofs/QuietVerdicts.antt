-- At a point where nothing is seen, no state changes and no date falls, a proposition has the verdict that it had one point before.
use Rattle.std.proofs.Common.{◌≡◌, ℤ, pos, ◌+ℤ◌, Bool, true, false, not, ◌&&◌, ◌||◌, List, [], ◌∷◌, map, Option, Some, None, refl, sym, ◌∙◌, ap, subst, int_lt, int_le, arith}
use Rattle.std.proofs.lemmas.Int.{ints}
use Rattle.std.specs.List.{list_any, flat_map}
use Rattle.sy_base.specs.declared.time.TimeUnit.{TimeUnit}
use Rattle.sy_core.specs.declared.kind.Target.{Target}
use Rattle.sy_core.specs.declared.state.StateOf.{StateOf}
use Rattle.sy_core.specs.declared.event.Ev.{Ev}
use Rattle.sy_core.specs.declared.date_term.DateTerm.{DateTerm}
use Rattle.sy_core.specs.declared.proposition.Situation.{Situation}
use Rattle.sy_core.specs.declared.proposition.Prop.{Prop}
use Rattle.sy_core.specs.declared.proposition.Prop.TheOpen.{Prop-F}
use Rattle.sy_core.specs.declared.proposition.Prop.TheOpen as P
use Rattle.sy_core.specs.declared.proposition.Prop.TheViews.{roll-Prop}
use Rattle.sy_core.specs.declared.proposition.Prop.TheFolds.{fold-roll-Prop, map-Prop, ind-Prop}
use Rattle.sy_core.specs.declared.table.Verdict.{Verdict}
use Rattle.sy_core.specs.Moments.{Moment, up_to, date_value, seen_before, seen_after, seen_between}
use Rattle.sy_core.specs.States.{same_state}
use Rattle.sy_core.specs.Propositions.{opposite, lesser, greater, least, greatest, verdict_by, with_date, as_said, situation_holds, fails_within, verdict_step, verdict_at}
use Rattle.sy_core.specs.Mentions.{dates_step, dates_of}
use Rattle.sy_quiet.proofs.Falling.{NoneFalls, falls_left, falls_right}
use Rattle.sy_quiet.proofs.Unseen.{date_unseen}

-- a test that the last moment fails
any_but_last : (test : Moment → Bool) (ms : List Moment) (x : Moment) → test x ≡ false → list_any test (up_to x ms) ≡ list_any test ms
any_but_last test [] x e = ap (λ b. b || false) e
any_but_last test (y ∷ ms) x e = ap (λ b. test y || b) (any_but_last test ms x e)

-- a test that the last moment passes only where the one before it does
any_but_second : (test : Moment → Bool) (ms : List Moment) (x y : Moment) → (test y ≡ true → test x ≡ true) → list_any test (up_to y (up_to x ms)) ≡ list_any test (up_to x ms)
any_but_second test [] x y f = two (test x) (test y) f
  where
    two : (a b : Bool) → (b ≡ true → a ≡ true) → (a || (b || false)) ≡ (a || false)
    two true b f = refl
    two false true f = sym (f refl)
    two false false f = refl
any_but_second test (z ∷ ms) x y f = ap (λ b. test z || b) (any_but_second test ms x y f)

-- whether a date is reached changes only on the date
reached_same : (d past now : ℤ) → now ≡ past +ℤ pos 1 → (d ≡ now → ⊥) → int_le d now ≡ int_le d past
reached_same d past now e ne = grind (arith, ints)

-- a range that holds a point and doesn't begin there holds the point before it
in_range_before : (d d' past now : ℤ) (b : Bool) → now ≡ past +ℤ pos 1 → (d ≡ now → ⊥) → ((int_le d now && int_lt now d') && b) ≡ true → ((int_le d past && int_lt past d') && b) ≡ true
in_range_before d d' past now b e ne h = grind (arith, ints)

module _ (unit : TimeUnit) (before : List Moment) (m n : Moment) (after : n.point ≡ m.point +ℤ pos 1) (unseen : (e : Ev) → n.seen e ≡ false) (still : n.state ≡ m.state) where
  abbrev ms : List Moment
  ms = up_to m before

  abbrev ns : List Moment
  ns = up_to n ms

  date_same : (term : DateTerm) → date_value unit term ns ≡ date_value unit term ms
  date_same term = date_unseen unit term ms n unseen

  -- with a date that doesn't fall on the new point
  with_same : (o : Option ℤ) (f g : ℤ → Verdict) → (o ≡ Some n.point → ⊥) → ((d : ℤ) → (d ≡ n.point → ⊥) → f d ≡ g d) → with_date o f ≡ with_date o g
  with_same None f g ne h = refl
  with_same (Some d) f g ne h = h d (λ e. ne (ap Some e))

  reached : (d : ℤ) → (d ≡ n.point → ⊥) → int_le d n.point ≡ int_le d m.point
  reached d ne = reached_same d m.point n.point after ne

  fails_same : (s : Situation) (d d' : ℤ) → (d ≡ n.point → ⊥) → fails_within s d d' ns ≡ fails_within s d d' ms
  fails_same s d d' ne = any_but_second (λ x. (int_le d x.point && int_lt x.point d') && not (situation_holds s x)) before m n (λ h.
      in_range_before d d' m.point n.point (not (situation_holds s m)) after ne (subst (λ (st : Target → StateOf). ((int_le d n.point && int_lt n.point d') && not (as_said s.equal (same_state (st s.target) s.state))) ≡ true) still h))

  abbrev old : Prop → Verdict
  old = verdict_at unit m before

  abbrev new : Prop → Verdict
  new = verdict_at unit n ms

  abbrev NoneHere : List DateTerm → Type 0
  NoneHere = NoneFalls unit n.point ms

  abbrev Still : Prop → Type 0
  Still p = NoneHere (dates_of p) → new p ≡ old p

  abbrev parts_dates : List ((p : Prop) × Still p) → List DateTerm
  parts_dates ps = flat_map (λ part. part) (map dates_of (map (λ e. e.0) ps))

  all_still : (ps : List ((p : Prop) × Still p)) → NoneHere (parts_dates ps) → least (map new (map (λ e. e.0) ps)) ≡ least (map old (map (λ e. e.0) ps))
  all_still [] h = refl
  all_still (e ∷ ps) h =
      let a = e.1 (falls_left unit n.point ms (dates_of e.0) (parts_dates ps) h) in
      let b = all_still ps (falls_right unit n.point ms (dates_of e.0) (parts_dates ps) h) in
      λ j. lesser (a j) (b j)

  any_still : (ps : List ((p : Prop) × Still p)) → NoneHere (parts_dates ps) → greatest (map new (map (λ e. e.0) ps)) ≡ greatest (map old (map (λ e. e.0) ps))
  any_still [] h = refl
  any_still (e ∷ ps) h =
      let a = e.1 (falls_left unit n.point ms (dates_of e.0) (parts_dates ps) h) in
      let b = any_still ps (falls_right unit n.point ms (dates_of e.0) (parts_dates ps) h) in
      λ j. greater (a j) (b j)

  holds_same : (s : Situation) → situation_holds s n ≡ situation_holds s m
  holds_same s = ap (λ (st : Target → StateOf). as_said s.equal (same_state (st s.target) s.state)) still

  -- one layer, with the fact of each part beside it
  layer_still : (y : Prop-F ((p : Prop) × Still p)) → NoneHere (dates_step (map-Prop Prop (List DateTerm) dates_of (map-Prop ((p : Prop) × Still p) Prop (λ e. e.0) y))) → verdict_step unit n ms (map-Prop Prop Verdict new (map-Prop ((p : Prop) × Still p) Prop (λ e. e.0) y)) ≡ verdict_step unit m before (map-Prop Prop Verdict old (map-Prop ((p : Prop) × Still p) Prop (λ e. e.0) y))
  layer_still (P.Const b) h = refl
  layer_still (P.Not e) h = ap opposite (e.1 h)
  layer_still (P.All ps) h = all_still ps h
  layer_still (P.Any ps) h = any_still ps h
  layer_still (P.Happens e) h = ap (λ b. verdict_by b false) (any_but_last (λ x. x.seen e) ms n (unseen e))
  layer_still (P.Before e to) h =
      ap (λ o. with_date o (λ d. verdict_by (seen_before e d ns) (int_le d n.point))) (date_same to)
      ∙ with_same (date_value unit to ms) (λ d. verdict_by (seen_before e d ns) (int_le d n.point)) (λ d. verdict_by (seen_before e d ms) (int_le d m.point)) h.0
      (λ d ne. λ j. verdict_by (any_but_last (λ x. x.seen e && int_lt x.point d) ms n (ap (λ b. b && int_lt n.point d) (unseen e)) j) (reached d ne j))
  layer_still (P.After e from) h =
      ap (λ o. with_date o (λ d. verdict_by (seen_after e d ns) false)) (date_same from)
      ∙ with_same (date_value unit from ms) (λ d. verdict_by (seen_after e d ns) false) (λ d. verdict_by (seen_after e d ms) false) h.0
      (λ d ne. λ j. verdict_by (any_but_last (λ x. x.seen e && int_lt d x.point) ms n (ap (λ b. b && int_lt d n.point) (unseen e)) j) false)
  layer_still (P.Within e from to) h =
      (λ j. with_date (date_same from j) (λ d. with_date (date_same to j) (λ d'. verdict_by (seen_between e d d' ns) (int_le d' n.point))))
      ∙ with_same (date_value unit from ms) (λ d. with_date (date_value unit to ms) (λ d'. verdict_by (seen_between e d d' ns) (int_le d' n.point))) (λ d. with_date (date_value unit to ms) (λ d'. verdict_by (seen_between e d d' ms) (int_le d' m.point))) h.0
      (λ d ne. with_same (date_value unit to ms) (λ d'. verdict_by (seen_between e d d' ns) (int_le d' n.point)) (λ d'. verdict_by (seen_between e d d' ms) (int_le d' m.point)) h.1.0
      (λ d' ne'. λ j. verdict_by (any_but_last (λ x. x.seen e && (int_le d x.point && int_lt x.point d')) ms n (ap (λ b. b && (int_le d n.point && int_lt n.point d')) (unseen e)) j) (reached d' ne' j)))
  layer_still (P.Occurs s from to) h =
      (λ j. with_date (date_same from j) (λ d. with_date (date_same to j) (λ d'. verdict_by (int_le d' n.point && not (fails_within s d d' ns)) (fails_within s d d' ns))))
      ∙ with_same (date_value unit from ms) (λ d. with_date (date_value unit to ms) (λ d'. verdict_by (int_le d' n.point && not (fails_within s d d' ns)) (fails_within s d d' ns))) (λ d. with_date (date_value unit to ms) (λ d'. verdict_by (int_le d' m.point && not (fails_within s d d' ms)) (fails_within s d d' ms))) h.0
      (λ d ne. with_same (date_value unit to ms) (λ d'. verdict_by (int_le d' n.point && not (fails_within s d d' ns)) (fails_within s d d' ns)) (λ d'. verdict_by (int_le d' m.point && not (fails_within s d d' ms)) (fails_within s d d' ms)) h.1.0
      (λ d' ne'. let f = fails_same s d d' ne in let r = reached d' ne' in λ j. verdict_by (r j && not (f j)) (f j)))
  layer_still (P.Holds s) h = let same = holds_same s in λ j. verdict_by (same j) (not (same j))

  pub verdict_still : (p : Prop) → Still p
  verdict_still = ind-Prop Still (λ x y is.
      let parts = λ (z : Prop-F ((p : Prop) × Still p)). map-Prop ((p : Prop) × Still p) Prop (λ e. e.0) z in
      subst (λ (z : Prop-F Prop). Still (roll-Prop z)) is (λ h.
      fold-roll-Prop Verdict (verdict_step unit n ms) (parts y)
      ∙ (layer_still y (subst NoneHere (fold-roll-Prop (List DateTerm) dates_step (parts y)) h)
      ∙ sym (fold-roll-Prop Verdict (verdict_step unit m before) (parts y)))))
