-- One round of the kept events is one round of the conditions.
use Rattle.std.proofs.Common.{◌≡◌, ℕ, zero, suc, ◌+◌, ◌≤◌, ◌-◌, Bool, false, List, [], ◌∷◌, map, Option, Some, None, refl, sym, ◌∙◌, ap, arith, add-one, option_map, slice_get, ℤ}
use Rattle.std.proofs.Math.Path.{fun_ext}
use Rattle.sy_words.specs.declared.kind.Kind.{Kind}
use Rattle.sy_words.specs.declared.kind.Kind.TheVariants.{Exerted, Triggered, Activated, Resumed, Suspended, Fulfilled, Violated, Expired, Discharged, Terminated, Completed}
use Rattle.sy_core.specs.declared.kind.Target.{Target}
use Rattle.sy_core.specs.declared.kind.Target.TheVariants as T
use Rattle.sy_core.specs.declared.state.StateOf.{StateOf}
use Rattle.sy_core.specs.declared.position.Position.{Position}
use Rattle.sy_core.specs.declared.deed.Deed.{Deed}
use Rattle.sy_core.specs.declared.happening.What.{What}
use Rattle.sy_core.specs.Moments.{Moment}
use Rattle.sy_core.specs.Conditions.{contract_fires, position_fires, fires_of, fires, count_events}
use Rattle.sy_core.specs.Rounds.{rounds}
use Rattle.sy_core.specs.Chronicle.{assuming, conditions, internal_events}
use Rattle.sy_core.proofs.OrderLaw.{rounds_stay}
use Rattle.sy_axioms.specs.declared.moment.Moment.{Moment as KeptMoment}
use Rattle.sy_axioms.specs.declared.moment.Events.{Events}
use Rattle.sy_machines.specs.declared.fired.Fired.{Fired}
use Rattle.sy_machines.specs.Fired.{has}
use Rattle.sy_axioms.specs.Machine.KeptMoments.{has_some, set_of, state_in, moment_of, fired_by, fired_from, round_of}

has-fired_by : (test : Kind → Bool) (kind : Kind) → has (fired_by test) kind ≡ test kind
has-fired_by test Exerted = refl
has-fired_by test Triggered = refl
has-fired_by test Activated = refl
has-fired_by test Resumed = refl
has-fired_by test Suspended = refl
has-fired_by test Fulfilled = refl
has-fired_by test Violated = refl
has-fired_by test Expired = refl
has-fired_by test Discharged = refl
has-fired_by test Terminated = refl
has-fired_by test Completed = refl

module _ (deed : Deed) (now : Moment) (before : List Moment) where
  fired_at : (j : ℕ) (ps : List Position) (i : ℕ) → slice_get (fired_from deed now before j ps) i ≡ option_map (λ p. fired_by (position_fires deed now before (j + i) p)) (slice_get ps i)
  fired_at j [] i = refl
  fired_at j (p ∷ ps) zero = let e : j ≡ j + 0 = omega arith in ap (λ n. Some (fired_by (position_fires deed now before n p))) e
  fired_at j (p ∷ ps) (suc i) =
      let e : (j + 1) + i ≡ j + suc i = omega arith in
      fired_at (j + 1) ps i ∙ ap (λ n. option_map (λ p. fired_by (position_fires deed now before n p)) (slice_get ps i)) e

  some_at : (kind : Kind) (i n : ℕ) (o : Option Position) → n ≡ i → has_some (option_map (λ p. fired_by (position_fires deed now before n p)) o) kind ≡ fires_of deed now before i o kind
  some_at kind i n None e = refl
  some_at kind i n (Some p) e = has-fired_by (position_fires deed now before n p) kind ∙ ap (λ m. position_fires deed now before m p kind) e

  round_is : (kind : Kind) (target : Target) → set_of (round_of deed now before) (kind, target) ≡ fires deed now before kind target
  round_is kind T.Contract = has-fired_by (contract_fires deed now) kind
  round_is kind (T.Position i) =
      ap (λ o. has_some o kind) (fired_at 0 deed.positions i) ∙ some_at kind i (0 + i) (slice_get deed.positions i) (omega arith)

none_happens : (fired : Fired) → fired ≡ fired_by (λ k. false) → (kind : Kind) (target : Target) → set_of (record { contract = fired; positions = [] }) (kind, target) ≡ false
none_happens fired e kind T.Contract = ap (λ f. has f kind) e ∙ has-fired_by (λ k. false) kind
none_happens fired e kind (T.Position i) = refl

module _ (deed : Deed) (point : ℤ) (happenings : List What) (state : Target → StateOf) (before : List Moment) where
  abbrev rows : (Kind × Target → Bool) → Kind × Target → Bool
  rows = conditions deed point happenings state before

  -- before the first round
  pub no_round : (fired : Fired) → fired ≡ fired_by (λ k. false) → set_of (record { contract = fired; positions = [] }) ≡ rounds rows 0
  no_round fired e = fun_ext (λ event. none_happens fired e event.0 event.1)

  -- one more round
  pub one_more_round : (n : ℕ) (set : Kind × Target → Bool) (events : Events) → set ≡ rounds rows n → events ≡ round_of deed (assuming point happenings state set) before → set_of events ≡ rounds rows (n + 1)
  one_more_round n set events e is =
      rw (is, add-one) (fun_ext (λ event. round_is deed (assuming point happenings state set) before event.0 event.1)
      ∙ ap rows e)

  -- a round that changes nothing is the last
  pub no_more_rounds : (n count : ℕ) (set : Kind × Target → Bool) → n ≤ count → set ≡ rounds rows n → set ≡ rounds rows (n + 1) → set ≡ rounds rows count
  no_more_rounds n count set le e again =
      let same : rounds rows (suc n) ≡ rounds rows n = rw add-one at (sym again) ∙ e in
      let all : (count - n) + n ≡ count = omega arith in
      e ∙ (sym (rounds_stay rows n (λ event. ap (λ f. f event) same) (count - n)) ∙ ap (rounds rows) all)

-- the moment has had so many rounds since the start of the point
pub record IsAfterRounds (deed : Deed) (before : List KeptMoment) (start : KeptMoment) (n : ℕ) (now : KeptMoment) : Type 0 where
  pub point : now.point ≡ start.point
  pub happenings : now.happenings ≡ start.happenings
  pub states : now.states ≡ start.states
  pub set : set_of now.events ≡ rounds (conditions deed start.point start.happenings (state_in start.states) (map moment_of before)) n

pub before_rounds : (deed : Deed) (before : List KeptMoment) (start : KeptMoment) (fired : Fired) → fired ≡ fired_by (λ k. false) → IsAfterRounds deed before start 0 (record start { events = record { contract = fired; positions = [] } })
before_rounds deed before start fired e = record {
  point = refl;
  happenings = refl;
  states = refl;
  set = no_round deed start.point start.happenings (state_in start.states) (map moment_of before) fired e;
}

module _ (deed : Deed) (before : List KeptMoment) (start : KeptMoment) (n : ℕ) (now : KeptMoment) (so_far : IsAfterRounds deed before start n now) where
  moment_is : moment_of now ≡ assuming start.point start.happenings (state_in start.states) (set_of now.events)
  moment_is = λ j. assuming (so_far.point j) (so_far.happenings j) (state_in (so_far.states j)) (set_of now.events)

  next_set : (events : Events) → events ≡ round_of deed (moment_of now) (map moment_of before) → set_of events ≡ rounds (conditions deed start.point start.happenings (state_in start.states) (map moment_of before)) (n + 1)
  next_set events is =
      one_more_round deed start.point start.happenings (state_in start.states) (map moment_of before) n (set_of now.events) events so_far.set
      (is ∙ (λ j. round_of deed (moment_is j) (map moment_of before)))

  pub after_next : (events : Events) → events ≡ round_of deed (moment_of now) (map moment_of before) → IsAfterRounds deed before start (n + 1) (record now { events = events })
  after_next events is = record { point = so_far.point; happenings = so_far.happenings; states = so_far.states; set = next_set events is }

  all_rounds : (count : ℕ) → set_of now.events ≡ rounds (conditions deed start.point start.happenings (state_in start.states) (map moment_of before)) count → moment_of now ≡ assuming start.point start.happenings (state_in start.states) (rounds (conditions deed start.point start.happenings (state_in start.states) (map moment_of before)) count)
  all_rounds count h = moment_is ∙ ap (assuming start.point start.happenings (state_in start.states)) h

  -- the rounds are through when a round changes nothing
  pub settled_moment : (count : ℕ) (events : Events) → n ≤ count → count ≡ count_events deed.positions → events ≡ round_of deed (moment_of now) (map moment_of before) → events ≡ now.events → moment_of now ≡ assuming start.point start.happenings (state_in start.states) (internal_events deed start.point start.happenings (state_in start.states) (map moment_of before))
  settled_moment count events le e is same =
      all_rounds (count_events deed.positions) (no_more_rounds deed start.point start.happenings (state_in start.states) (map moment_of before) n (count_events deed.positions) (set_of now.events) (omega arith) so_far.set (ap set_of (sym same) ∙ next_set events is))

  -- or when all are done
  pub last_moment : n ≡ count_events deed.positions → moment_of now ≡ assuming start.point start.happenings (state_in start.states) (internal_events deed start.point start.happenings (state_in start.states) (map moment_of before))
  last_moment e = all_rounds (count_events deed.positions) (so_far.set ∙ ap (rounds (conditions deed start.point start.happenings (state_in start.states) (map moment_of before))) e)
