-- A plain evaluator goes on by one point.
use Rattle.std.proofs.Common.{◌≡◌, ℕ, zero, suc, ℤ, pos, ◌+◌, ◌+ℤ◌, Bool, List, [], ◌∷◌, ◌++◌, map, Option, Some, None, option_map, unwrap_or, slice_get, refl, sym, ◌∙◌, ap, arith}
use Rattle.std.proofs.Math.Path.{fun_ext}
use Rattle.std.proofs.lemmas.Int.{ints}
use Rattle.std.proofs.lemmas.List.{map-append}
use Rattle.sy_words.specs.declared.kind.Kind.{Kind}
use Rattle.sy_core.specs.declared.kind.Target.{Target}
use Rattle.sy_core.specs.declared.kind.Target.TheVariants as T
use Rattle.sy_core.specs.declared.state.StateOf.{StateOf}
use Rattle.sy_core.specs.declared.state.StateOf.TheVariants as S
use Rattle.sy_core.specs.declared.position.Position.{Position}
use Rattle.sy_core.specs.declared.deed.Deed.{Deed}
use Rattle.sy_core.specs.declared.happening.Happening.{Happening}
use Rattle.sy_core.specs.Moments.{Moment}
use Rattle.sy_core.specs.Conditions.{fires, count_events}
use Rattle.sy_core.specs.Rounds.{rounds}
use Rattle.sy_core.specs.Chronicle.{assuming, internal_events, stands, states_next, position_after, first_state, chronicle, state_at, moment_at}
use Rattle.sy_core.specs.Tables.{states_of}
use Rattle.sy_axioms.specs.declared.moment.Moment.{Moment as KeptMoment}
use Rattle.sy_axioms.specs.declared.moment.States.{States}
use Rattle.sy_axioms.specs.declared.plain.Plain.{Plain}
use Rattle.sy_axioms.specs.Machine.KeptMoments.{moment_of, state_in, next_states, states_past}
use Rattle.sy_quiet.specs.Exactly.{HasExactly}
use Rattle.sy_quiet.proofs.Exact.{assuming_same}
use Rattle.sy_quiet.proofs.States.{last_states, null_past}
use Rattle.sy_axioms.specs.Standing.{StandsFor}

-- states that are kept for each position, as states of targets
module _ (s : Target → StateOf) where
  kept_at : (j : ℕ) (ps : List Position) (i : ℕ) → slice_get (states_of s j ps) i ≡ option_map (λ _. s (T.Position (j + i))) (slice_get ps i)
  kept_at j [] i = refl
  kept_at j (p ∷ ps) zero = let e : j ≡ j + 0 = omega arith in ap (λ n. Some (s (T.Position n))) e
  kept_at j (p ∷ ps) (suc i) =
      let e : (j + 1) + i ≡ j + suc i = omega arith in
      kept_at (j + 1) ps i ∙ ap (λ n. option_map (λ _. s (T.Position n)) (slice_get ps i)) e

  kept_or : (o : Option Position) (i n : ℕ) → n ≡ i → (o ≡ None → s (T.Position i) ≡ S.Null) → unwrap_or (option_map (λ _. s (T.Position n)) o) S.Null ≡ s (T.Position i)
  kept_or None i n e null = sym (null refl)
  kept_or (Some p) i n e null = ap (λ k. s (T.Position k)) e

  kept_states : (deed : Deed) (states : States) → states.contract ≡ s T.Contract → states.positions ≡ states_of s 0 deed.positions → ((i : ℕ) → slice_get deed.positions i ≡ None → s (T.Position i) ≡ S.Null) → state_in states ≡ s
  kept_states deed states contract positions null = fun_ext at
    where
      at : (x : Target) → state_in states x ≡ s x
      at T.Contract = contract
      at (T.Position i) =
          ap (λ xs. unwrap_or (slice_get xs i) S.Null) positions
          ∙ (ap (λ o. unwrap_or o S.Null) (kept_at 0 deed.positions i)
          ∙ kept_or (slice_get deed.positions i) i (0 + i) (omega arith) (null i))

-- the states after a moment are those of inertia
next_states_are : (deed : Deed) (m : Moment) (j : ℕ) (ps : List Position) → ((k : ℕ) → slice_get deed.positions (j + k) ≡ slice_get ps k) → next_states m j ps ≡ states_of (states_next deed m) j ps
next_states_are deed m j [] h = refl
next_states_are deed m j (p ∷ ps) h =
    let e : j + 0 ≡ j = omega arith in
    let here : Some p ≡ slice_get deed.positions j = sym (h 0) ∙ ap (slice_get deed.positions) e in
    λ i. position_after m j (here i) ∷ next_states_are deed m (j + 1) ps (λ k. let f : (j + 1) + k ≡ j + suc k = omega arith in ap (slice_get deed.positions) f ∙ h (suc k)) i

-- the moment that a point's happenings give, from the states and the moments before
abbrev moment_by : Deed → ((Target → StateOf) → (Kind × Target → Bool) → Moment) → (Target → StateOf) → List Moment → Moment
moment_by deed A state before = A state (rounds (λ set event. fires deed (A state set) before event.0 event.1) (count_events deed.positions))

-- the evaluator q keeps one moment more than p, and the states after it
pub record GoesOn (deed : Deed) (p q : Plain) (kept : KeptMoment) (at : List Happening) : Type 0 where
  pub moments : q.moments ≡ p.moments ++ kept ∷ []
  pub point : q.point ≡ p.point +ℤ pos 1
  pub moment : moment_of kept ≡ assuming p.point (map (λ h. h.what) at) (state_in p.states) (internal_events deed p.point (map (λ h. h.what) at) (state_in p.states) (map moment_of p.moments))
  pub states : q.states ≡ states_past deed kept

pub stands_on : (deed : Deed) (narrative : List Happening) (n : ℕ) (p q : Plain) (kept : KeptMoment) (at : List Happening) → GoesOn deed p q kept at → StandsFor p deed narrative n → HasExactly narrative (deed.start +ℤ pos n) at → StandsFor q deed narrative (suc n)
stands_on deed narrative n p q kept at on stands exact =
    let A = ap (λ (x : ℤ). assuming x (map (λ h. h.what) at)) stands.at_point ∙ assuming_same narrative (deed.start +ℤ pos n) at exact in
    let state = kept_states (state_at deed narrative n) deed p.states stands.contract stands.positions (null_past deed narrative n) in
    let moment : moment_of kept ≡ moment_at deed narrative n = on.moment ∙ (λ j. moment_by deed (A j) (state j) (stands.kept j)) in
    let after : states_next deed (moment_of kept) ≡ state_at deed narrative (suc n) = ap (states_next deed) moment ∙ sym (last_states deed first_state (chronicle deed narrative n) (moment_at deed narrative n)) in
    record {
      at_point = rw (on.point, stands.at_point) (omega (arith, ints));
      kept = ap (map moment_of) on.moments ∙ (map-append moment_of p.moments (kept ∷ []) ∙ (λ j. stands.kept j ++ moment j ∷ []));
      contract = ap (λ x. x.contract) on.states ∙ ap (λ s. s T.Contract) after;
      positions =
          ap (λ x. x.positions) on.states
          ∙ (next_states_are deed (moment_of kept) 0 deed.positions (λ k. let e : 0 + k ≡ k = omega arith in ap (slice_get deed.positions) e)
          ∙ ap (λ s. states_of s 0 deed.positions) after);
    }
