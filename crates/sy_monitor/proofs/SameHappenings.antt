-- Narratives with the same happenings make the same tables.
use Rattle.std.proofs.Common.{◌≡◌, ◌↔◌, ℕ, zero, suc, ℤ, pos, ◌+ℤ◌, ◌-ℤ◌, nat_abs, int_lt, int_eq, Bool, true, ◌&&◌, cond, List, map, refl, sym, ◌∙◌, ap}
use Rattle.std.proofs.Math.Path.{fun_ext}
use Rattle.std.specs.List.{Contains, list_any}
use Rattle.sy_words.specs.declared.kind.Kind.{Kind}
use Rattle.sy_core.specs.declared.kind.Target.{Target}
use Rattle.sy_core.specs.declared.kind.Target.TheVariants as T
use Rattle.sy_core.specs.declared.state.StateOf.{StateOf}
use Rattle.sy_core.specs.declared.event.Ev.{Ev}
use Rattle.sy_core.specs.declared.event.Ev.TheVariants.{Outer, Inner}
use Rattle.sy_core.specs.declared.deed.Deed.{Deed}
use Rattle.sy_core.specs.declared.happening.What.{What}
use Rattle.sy_core.specs.declared.happening.Happening.{Happening}
use Rattle.sy_core.specs.Matching.{matches}
use Rattle.sy_core.specs.Moments.{Moment, up_to}
use Rattle.sy_core.specs.Conditions.{fires, count_events}
use Rattle.sy_core.specs.Rounds.{rounds}
use Rattle.sy_core.specs.Propositions.{verdict_at}
use Rattle.sy_core.specs.Chronicle.{assuming, at_point, exerts, stands, states_after, chronicle, moment_at}
use Rattle.sy_core.specs.Tables.{states_of, marks, is_violated, is_void, table_before, table_after, table_as_of}
use Rattle.sy_core.proofs.Members.{among, contained}
use Rattle.sy_quiet.proofs.Members.{bool_same, any_in, some_in, any_of_kept}

-- the moment that a point's happenings give, from the states and the moments before
abbrev moment_by : Deed → ((Target → StateOf) → (Kind × Target → Bool) → Moment) → (Target → StateOf) → List Moment → Moment
moment_by deed A state before = A state (rounds (λ set event. fires deed (A state set) before event.0 event.1) (count_events deed.positions))

-- a test of what some have at a point is one of their members
abbrev at_test : ℤ → (What → Bool) → Happening → Bool
at_test point p h = int_eq h.point point && p h.what

passed : (point : ℤ) (p : What → Bool) (these those : List Happening) → ((h : Happening) → Contains these h → Contains those h)
    → list_any (at_test point p) these ≡ true → list_any (at_test point p) those ≡ true
passed point p these those into t =
    let s = some_in (at_test point p) these t in
    any_in (at_test point p) those s.0 (among those s.0 (into s.0 (contained these s.0 s.1))) s.2

module _ (these those : List Happening) (same : (h : Happening) → Contains these h ↔ Contains those h) where
  any_same : (point : ℤ) (p : What → Bool) → list_any p (at_point these point) ≡ list_any p (at_point those point)
  any_same point p =
      any_of_kept (λ (h : Happening). h.what) (λ h. int_eq h.point point) p these
      ∙ (bool_same _ _ (passed point p these those (λ h. (same h).0)) (passed point p those these (λ h. (same h).1))
      ∙ sym (any_of_kept (λ (h : Happening). h.what) (λ h. int_eq h.point point) p those))

  assuming_same : (point : ℤ) → assuming point (at_point these point) ≡ assuming point (at_point those point)
  assuming_same point = λ j state set. record {
    point = point;
    asked = fun_ext (λ i. any_same point (exerts i)) j;
    seen = fun_ext (seen_same set) j;
    state = state;
  }
    where
      seen_same : (set : Kind × Target → Bool) (e : Ev) → stands (at_point these point) set e ≡ stands (at_point those point) set e
      seen_same set (Outer event guards) = any_same point (matches (Outer event guards))
      seen_same set (Inner kind target) = refl

  module _ (deed : Deed) where
    moment_same : (n : ℕ) → chronicle deed these n ≡ chronicle deed those n → moment_at deed these n ≡ moment_at deed those n
    moment_same n before = λ j. moment_by deed (assuming_same (deed.start +ℤ pos n) j) (states_after deed (before j)) (before j)

    chronicle_same : (n : ℕ) → chronicle deed these n ≡ chronicle deed those n
    chronicle_same zero = refl
    chronicle_same (suc n) = let before = chronicle_same n in λ j. up_to (moment_same n before j) (before j)

    after_same : (n : ℕ) → table_after deed these n ≡ table_after deed those n
    after_same n =
        let before = chronicle_same n in
        let all = chronicle_same (suc n) in
        λ j. record {
          at = deed.start +ℤ pos n;
          contract = states_after deed (all j) T.Contract;
          states = states_of (states_after deed (all j)) 0 deed.positions;
          violations = marks is_violated deed.positions (all j);
          voids = marks is_void deed.positions (all j);
          posts = map (verdict_at deed.unit (moment_same n before j) (before j)) deed.posts;
        }

    pub tables_same : (date : ℤ) → table_as_of deed these date ≡ table_as_of deed those date
    tables_same date = ap (λ t. cond (int_lt date deed.start) (table_before deed date) t) (after_same (nat_abs (date -ℤ deed.start)))
