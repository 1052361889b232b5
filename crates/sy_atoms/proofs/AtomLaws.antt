-- What is kept of an atom goes on with the history, and gives the verdict of its definition.
use Rattle.std.proofs.Common.{◌≡◌, ℕ, ℤ, pos, ◌+ℤ◌, ◌<ℤ◌, ◌≤ℤ◌, Bool, true, false, not, ◌&&◌, ◌||◌, List, [], ◌∷◌, Option, Some, None, refl, sym, ◌∙◌, ap, int_lt, int_le, if◌then◌else◌, arith}
use Rattle.std.proofs.lemmas.Int.{ints}
use Rattle.std.specs.List.{list_any}
use Rattle.sy_base.specs.declared.time.TimeUnit.{TimeUnit}
use Rattle.sy_core.specs.declared.kind.Target.{Target}
use Rattle.sy_core.specs.declared.state.StateOf.{StateOf}
use Rattle.sy_core.specs.declared.event.Ev.{Ev}
use Rattle.sy_core.specs.declared.date_term.Base.{Base}
use Rattle.sy_core.specs.declared.date_term.Base.TheVariants.{Fixed, First}
use Rattle.sy_core.specs.declared.date_term.DateTerm.{DateTerm}
use Rattle.sy_core.specs.declared.proposition.Situation.{Situation}
use Rattle.sy_core.specs.Mentions.{same_target}
use Rattle.sy_core.specs.Moments.{Moment, all_added, seen_ever, seen_before, seen_after, seen_between}
use Rattle.sy_core.specs.Propositions.{situation_holds, fails_within, verdict_by, with_date}
use Rattle.sy_atoms.specs.declared.sight.Sight.{Sight}
use Rattle.sy_atoms.specs.declared.atom.Atom.{Atom}
use Rattle.sy_atoms.specs.declared.atom.Atom.TheVariants as A
use Rattle.sy_quiet.specs.Histories.{History, moments, noting, setting, going_on}
use Rattle.sy_atoms.specs.Histories.{IsOrderly}
use Rattle.sy_atoms.specs.Machine.Windows.{always, from_on, before_date, after_date, between, overlaps, learned}
use Rattle.sy_atoms.specs.Machine.Kept.{sight_of, passed_sight, due_of, learned_due, said_of, look_of, passed_look}
use Rattle.sy_atoms.specs.Machine.Told.{begins, news_of_date}
use Rattle.sy_atoms.specs.Machine.Atoms.{value_of, happens_of, before_of, after_of, within_of, failed_before, occurs_of, holds_of, told_atom, passed_atom, passed_to, atom_verdict}
use Rattle.sy_atoms.proofs.Keeping.{any_alike, any_last, from_same, before_same, after_same, sum_is_not_before, date_more, date_quiet, due_noting, due_going, sight_noting, sight_going, look_setting, none_learned, none_noted}

module _ (unit : TimeUnit) (h : History) (o : IsOrderly h) (asks : ℕ → Bool) (hits : Ev → Bool) where
  abbrev k : History
  k = noting asks hits h

  abbrev p : ℤ
  p = h.now.point

  abbrev told : DateTerm → Option ℤ
  told term = news_of_date unit p hits term

  -- the points gone by count as before
  counts_from : (term : DateTerm) (u : ℤ) → u <ℤ p → from_on (value_of unit h term) u ≡ from_on (value_of unit k term) u
  counts_from term u lt = from_same (value_of unit h term) (begins hits term.base) (all_added unit p term.plus) p u (sum_is_not_before unit p term.plus) lt ∙ ap (λ v. from_on v u) (sym (date_more unit term asks hits h.before h.now))

  counts_before : (term : DateTerm) (u : ℤ) → u <ℤ p → before_date (value_of unit h term) u ≡ before_date (value_of unit k term) u
  counts_before term u lt = before_same (value_of unit h term) (begins hits term.base) (all_added unit p term.plus) p u (sum_is_not_before unit p term.plus) lt ∙ ap (λ v. before_date v u) (sym (date_more unit term asks hits h.before h.now))

  counts_after : (term : DateTerm) (u : ℤ) → u <ℤ p → after_date (value_of unit h term) u ≡ after_date (value_of unit k term) u
  counts_after term u lt = after_same (value_of unit h term) (begins hits term.base) (all_added unit p term.plus) p u (sum_is_not_before unit p term.plus) lt ∙ ap (λ v. after_date v u) (sym (date_more unit term asks hits h.before h.now))

  counts_between : (from to : DateTerm) (u : ℤ) → u <ℤ p → between (value_of unit h from) (value_of unit h to) u ≡ between (value_of unit k from) (value_of unit k to) u
  counts_between from to u lt = let a = counts_from from u lt in let b = counts_before to u lt in λ j. a j && b j

  pub happens_noting : (e : Ev) → told_atom (record { happens = hits e; from = None; to = None; holds = None }) (happens_of unit h e) ≡ happens_of unit k e
  happens_noting e = ap A.Happens (sight_noting unit h e asks hits always always o (λ u lt. refl))

  pub before_noting : (e : Ev) (to : DateTerm) → told_atom (record { happens = hits e; from = None; to = told to; holds = None }) (before_of unit h e to) ≡ before_of unit k e to
  before_noting e to =
      let s = sight_noting unit h e asks hits (before_date (value_of unit h to)) (before_date (value_of unit k to)) o (counts_before to) in
      let d = due_noting unit h to asks hits in
      λ j. A.Before (s j) (d j)

  pub after_noting : (e : Ev) (from : DateTerm) → told_atom (record { happens = hits e; from = told from; to = None; holds = None }) (after_of unit h e from) ≡ after_of unit k e from
  after_noting e from =
      let s = sight_noting unit h e asks hits (after_date (value_of unit h from)) (after_date (value_of unit k from)) o (counts_after from) in
      let d = due_noting unit h from asks hits in
      λ j. A.After (s j) (d j)

  pub within_noting : (e : Ev) (from to : DateTerm) → told_atom (record { happens = hits e; from = told from; to = told to; holds = None }) (within_of unit h e from to) ≡ within_of unit k e from to
  within_noting e from to =
      let s = sight_noting unit h e asks hits (between (value_of unit h from) (value_of unit h to)) (between (value_of unit k from) (value_of unit k to)) o (counts_between from to) in
      let d = due_noting unit h from asks hits in
      let d' = due_noting unit h to asks hits in
      λ j. A.Within (s j) (d j) (d' j)

  pub occurs_noting : (s : Situation) (from to : DateTerm) → told_atom (record { happens = false; from = told from; to = told to; holds = None }) (occurs_of unit h s from to) ≡ occurs_of unit k s from to
  occurs_noting s from to =
      let f = any_alike (λ m. not (situation_holds s m)) (between (value_of unit h from) (value_of unit h to)) (between (value_of unit k from) (value_of unit k to)) p h.before o (counts_between from to) in
      let d = due_noting unit h from asks hits in
      let d' = due_noting unit h to asks hits in
      λ j. A.Occurs (look_of s h) (f j) (d j) (d' j)

  pub holds_noting : (s : Situation) → told_atom (record { happens = false; from = None; to = None; holds = None }) (holds_of unit h s) ≡ holds_of unit k s
  holds_noting s = refl

module _ (unit : TimeUnit) (h : History) where
  abbrev next : History
  next = going_on h

  still : (term : DateTerm) → value_of unit h term ≡ value_of unit next term
  still term = sym (date_quiet unit term (h.now.point +ℤ pos 1) h.next (moments h))

  pub happens_going : (e : Ev) → passed_atom h.now.point (happens_of unit h e) ≡ happens_of unit next e
  happens_going e = ap A.Happens (sight_going unit h e always)

  pub before_going : (e : Ev) (to : DateTerm) → passed_atom h.now.point (before_of unit h e to) ≡ before_of unit next e to
  before_going e to =
      let s = sight_going unit h e (before_date (value_of unit h to)) ∙ ap (λ v. sight_of (before_date v) e next) (still to) in
      let d = sym (due_going unit h to) in
      λ j. A.Before (s j) (d j)

  pub after_going : (e : Ev) (from : DateTerm) → passed_atom h.now.point (after_of unit h e from) ≡ after_of unit next e from
  after_going e from =
      let s = sight_going unit h e (after_date (value_of unit h from)) ∙ ap (λ v. sight_of (after_date v) e next) (still from) in
      let d = sym (due_going unit h from) in
      λ j. A.After (s j) (d j)

  pub within_going : (e : Ev) (from to : DateTerm) → passed_atom h.now.point (within_of unit h e from to) ≡ within_of unit next e from to
  within_going e from to =
      let a = still from in
      let b = still to in
      let s = sight_going unit h e (between (value_of unit h from) (value_of unit h to)) ∙ (λ j. sight_of (between (a j) (b j)) e next) in
      let d = sym (due_going unit h from) in
      let d' = sym (due_going unit h to) in
      λ j. A.Within (s j) (d j) (d' j)

  pub occurs_going : (s : Situation) (from to : DateTerm) → passed_atom h.now.point (occurs_of unit h s from to) ≡ occurs_of unit next s from to
  occurs_going s from to =
      let a = still from in
      let b = still to in
      let f = sym (any_last (λ m. not (situation_holds s m) && between (value_of unit h from) (value_of unit h to) m.point) h.before h.now) ∙ (λ j. failed_before unit next (between (a j) (b j)) s) in
      let d = sym (due_going unit h from) in
      let d' = sym (due_going unit h to) in
      λ j. A.Occurs (look_of s next) (f j) (d j) (d' j)

  pub holds_going : (s : Situation) → passed_atom h.now.point (holds_of unit h s) ≡ holds_of unit next s
  holds_going s = refl

  -- the verdicts
  any_swap : (a b : Moment → Bool) (ms : List Moment) → list_any (λ m. a m && b m) ms ≡ list_any (λ m. b m && a m) ms
  any_swap a b [] = refl
  any_swap a b (m ∷ ms) = let later = any_swap a b ms in λ j. swap (a m) (b m) j || later j
    where
      swap : (x y : Bool) → (x && y) ≡ (y && x)
      swap true true = refl
      swap true false = refl
      swap false true = refl
      swap false false = refl

  tells : (e : Ev) (counts : ℤ → Bool) → (list_any (λ m. m.seen e && counts m.point) h.before || (h.now.seen e && counts h.now.point)) ≡ list_any (λ m. m.seen e && counts m.point) (moments h)
  tells e counts = sym (any_last (λ m. m.seen e && counts m.point) h.before h.now)

  pub happens_tells : (e : Ev) → atom_verdict h.now.point (happens_of unit h e) ≡ verdict_by (seen_ever e (moments h)) false
  happens_tells e = ap (λ b. verdict_by b false) (tells e always ∙ plain (moments h))
    where
      and_true : (b : Bool) → (b && true) ≡ b
      and_true true = refl
      and_true false = refl

      plain : (ms : List Moment) → list_any (λ m. m.seen e && true) ms ≡ list_any (λ m. m.seen e) ms
      plain [] = refl
      plain (m ∷ ms) = let later = plain ms in λ j. and_true (m.seen e) j || later j

  pub before_tells : (e : Ev) (to : DateTerm) → atom_verdict h.now.point (before_of unit h e to) ≡ with_date (value_of unit h to) (λ d. verdict_by (seen_before e d (moments h)) (int_le d h.now.point))
  before_tells e to = at (value_of unit h to)
    where
      at : (o : Option ℤ) → with_date o (λ d. verdict_by (list_any (λ m. m.seen e && before_date o m.point) h.before || (h.now.seen e && before_date o h.now.point)) (int_le d h.now.point)) ≡ with_date o (λ d. verdict_by (seen_before e d (moments h)) (int_le d h.now.point))
      at None = refl
      at (Some d) = ap (λ b. verdict_by b (int_le d h.now.point)) (tells e (λ u. int_lt u d))

  pub after_tells : (e : Ev) (from : DateTerm) → atom_verdict h.now.point (after_of unit h e from) ≡ with_date (value_of unit h from) (λ d. verdict_by (seen_after e d (moments h)) false)
  after_tells e from = at (value_of unit h from)
    where
      at : (o : Option ℤ) → with_date o (λ d. verdict_by (list_any (λ m. m.seen e && after_date o m.point) h.before || (h.now.seen e && after_date o h.now.point)) false) ≡ with_date o (λ d. verdict_by (seen_after e d (moments h)) false)
      at None = refl
      at (Some d) = ap (λ b. verdict_by b false) (tells e (λ u. int_lt d u))

  pub within_tells : (e : Ev) (from to : DateTerm) → atom_verdict h.now.point (within_of unit h e from to) ≡ with_date (value_of unit h from) (λ d. with_date (value_of unit h to) (λ d'. verdict_by (seen_between e d d' (moments h)) (int_le d' h.now.point)))
  within_tells e from to = at (value_of unit h from) (value_of unit h to)
    where
      at : (a b : Option ℤ) → with_date a (λ d. with_date b (λ d'. verdict_by (list_any (λ m. m.seen e && between a b m.point) h.before || (h.now.seen e && between a b h.now.point)) (int_le d' h.now.point))) ≡ with_date a (λ d. with_date b (λ d'. verdict_by (seen_between e d d' (moments h)) (int_le d' h.now.point)))
      at None b = refl
      at (Some d) None = refl
      at (Some d) (Some d') = ap (λ b. verdict_by b (int_le d' h.now.point)) (tells e (between (Some d) (Some d')))

  pub occurs_tells : (s : Situation) (from to : DateTerm) → atom_verdict h.now.point (occurs_of unit h s from to) ≡ with_date (value_of unit h from) (λ d. with_date (value_of unit h to) (λ d'. verdict_by (int_le d' h.now.point && not (fails_within s d d' (moments h))) (fails_within s d d' (moments h))))
  occurs_tells s from to = at (value_of unit h from) (value_of unit h to)
    where
      failed : Option ℤ → Option ℤ → Bool
      failed a b = list_any (λ m. not (situation_holds s m) && between a b m.point) h.before || (not (situation_holds s h.now) && between a b h.now.point)

      at : (a b : Option ℤ) → with_date a (λ d. with_date b (λ d'. verdict_by (int_le d' h.now.point && not (list_any (λ m. not (situation_holds s m) && between a b m.point) h.before || (not (situation_holds s h.now) && between a b h.now.point))) (list_any (λ m. not (situation_holds s m) && between a b m.point) h.before || (not (situation_holds s h.now) && between a b h.now.point)))) ≡ with_date a (λ d. with_date b (λ d'. verdict_by (int_le d' h.now.point && not (fails_within s d d' (moments h))) (fails_within s d d' (moments h))))
      at None b = refl
      at (Some d) None = refl
      at (Some d) (Some d') =
          let f = sym (any_last (λ m. not (situation_holds s m) && between (Some d) (Some d') m.point) h.before h.now) ∙ any_swap (λ m. not (situation_holds s m)) (λ m. between (Some d) (Some d') m.point) (moments h) in
          λ j. verdict_by (int_le d' h.now.point && not (f j)) (f j)

  -- a state is set: nothing happens
  module _ (target : Target) (state : StateOf) where
    abbrev after_set : History
    after_set = setting target state h

    abbrev untold : DateTerm → Option ℤ
    untold term = news_of_date unit h.now.point (λ e. false) term

    none_told : (term : DateTerm) → learned_due (untold term) (due_of unit term h) ≡ due_of unit term h
    none_told term = at term.base
      where
        at : (base : Base) → learned_due (learned (begins (λ e. false) base) (all_added unit h.now.point term.plus)) (due_of unit term h) ≡ due_of unit term h
        at (Fixed point) = none_learned (due_of unit term h)
        at (First e) = none_learned (due_of unit term h)

    abbrev said : Situation → Option Bool
    said s = if same_target target s.target then Some (said_of s state) else None

    pub happens_setting : (e : Ev) → told_atom (record { happens = false; from = None; to = None; holds = None }) (happens_of unit h e) ≡ happens_of unit after_set e
    happens_setting e = ap A.Happens (none_noted (sight_of always e h))

    pub before_setting : (e : Ev) (to : DateTerm) → told_atom (record { happens = false; from = None; to = untold to; holds = None }) (before_of unit h e to) ≡ before_of unit after_set e to
    before_setting e to =
        let s = none_noted (sight_of (before_date (value_of unit h to)) e h) in
        let d = none_told to in
        λ j. A.Before (s j) (d j)

    pub after_setting : (e : Ev) (from : DateTerm) → told_atom (record { happens = false; from = untold from; to = None; holds = None }) (after_of unit h e from) ≡ after_of unit after_set e from
    after_setting e from =
        let s = none_noted (sight_of (after_date (value_of unit h from)) e h) in
        let d = none_told from in
        λ j. A.After (s j) (d j)

    pub within_setting : (e : Ev) (from to : DateTerm) → told_atom (record { happens = false; from = untold from; to = untold to; holds = None }) (within_of unit h e from to) ≡ within_of unit after_set e from to
    within_setting e from to =
        let s = none_noted (sight_of (between (value_of unit h from) (value_of unit h to)) e h) in
        let d = none_told from in
        let d' = none_told to in
        λ j. A.Within (s j) (d j) (d' j)

    pub occurs_setting : (s : Situation) (from to : DateTerm) → told_atom (record { happens = false; from = untold from; to = untold to; holds = said s }) (occurs_of unit h s from to) ≡ occurs_of unit after_set s from to
    occurs_setting s from to =
        let l = look_setting unit h s target state in
        let d = none_told from in
        let d' = none_told to in
        λ j. A.Occurs (l j) (failed_before unit h (between (value_of unit h from) (value_of unit h to)) s) (d j) (d' j)

    pub holds_setting : (s : Situation) → told_atom (record { happens = false; from = None; to = None; holds = said s }) (holds_of unit h s) ≡ holds_of unit after_set s
    holds_setting s = ap A.Holds (look_setting unit h s target state)

-- many points go by as one after the other
or_false : (b : Bool) → (b || false) ≡ b
or_false true = refl
or_false false = refl

and_none : (b : Bool) → (b && false) ≡ false
and_none true = refl
and_none false = refl

overlaps_none : (a b : Option ℤ) (f : ℤ) → overlaps a b f f ≡ false
overlaps_none None b f = refl
overlaps_none (Some d) None f = grind (arith, ints)
overlaps_none (Some d) (Some d') f = grind (arith, ints)

overlaps_more : (a b : Option ℤ) (f q : ℤ) → f ≤ℤ q → (overlaps a b f q || between a b q) ≡ overlaps a b f (q +ℤ pos 1)
overlaps_more None b f q le = refl
overlaps_more (Some d) None f q le = grind (arith, ints)
overlaps_more (Some d) (Some d') f q le = grind (arith, ints)

pub passed_one : (p f : ℤ) (a : Atom) → passed_to p f f a ≡ passed_atom p a
passed_one p f (A.Happens s) = refl
passed_one p f (A.Before s to) = refl
passed_one p f (A.After s from) = refl
passed_one p f (A.Within s from to) = refl
passed_one p f (A.Occurs l failed from to) =
    let none = overlaps_none from.value to.value f in
    let e = (λ j. (failed || (not l.here && between from.value to.value p)) || (not l.later && none j)) ∙ (ap (λ b. (failed || (not l.here && between from.value to.value p)) || b) (and_none (not l.later)) ∙ or_false (failed || (not l.here && between from.value to.value p))) in
    λ j. A.Occurs (passed_look l) (e j) from to
passed_one p f (A.Holds l) = refl

sight_twice : (inside other : Bool) (s : Sight) → passed_sight other (passed_sight inside s) ≡ passed_sight inside s
sight_twice inside other s = let e = or_false (s.past || (s.here && inside)) in λ j. record { past = e j; here = false }

pub passed_more : (p f q : ℤ) → f ≤ℤ q → (a : Atom) → passed_atom q (passed_to p f q a) ≡ passed_to p f (q +ℤ pos 1) a
passed_more p f q le (A.Happens s) = ap A.Happens (sight_twice true true s)
passed_more p f q le (A.Before s to) = ap (λ x. A.Before x to) (sight_twice (before_date to.value p) (before_date to.value q) s)
passed_more p f q le (A.After s from) = ap (λ x. A.After x from) (sight_twice (after_date from.value p) (after_date from.value q) s)
passed_more p f q le (A.Within s from to) = ap (λ x. A.Within x from to) (sight_twice (between from.value to.value p) (between from.value to.value q) s)
passed_more p f q le (A.Occurs l failed from to) =
    let more = overlaps_more from.value to.value f q le in
    let e = both (failed || (not l.here && between from.value to.value p)) (not l.later) (overlaps from.value to.value f q) (between from.value to.value q) ∙ (λ j. (failed || (not l.here && between from.value to.value p)) || (not l.later && more j)) in
    λ j. A.Occurs (passed_look l) (e j) from to
  where
    both : (x y a b : Bool) → ((x || (y && a)) || (y && b)) ≡ (x || (y && (a || b)))
    both true y a b = refl
    both false true a b = refl
    both false false a b = refl
passed_more p f q le (A.Holds l) = refl
