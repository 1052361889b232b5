-- The evaluation of a point carries the history of a narrative there to its history at the next point.
use Rattle.std.proofs.Common.{◌≡◌, ℕ, suc, ◌+◌, ℤ, pos, ◌+ℤ◌, Bool, true, false, if◌then◌else◌, List, [], ◌∷◌, map, ◌⊎◌, inl, inr, Option, Some, None, slice_get, length, refl, sym, ◌∙◌, ap, subst, arith}
use Rattle.std.proofs.Math.Path.{fun_ext}
use Rattle.sy_core.specs.declared.kind.Target.{Target}
use Rattle.sy_core.specs.declared.kind.Target.TheVariants as T
use Rattle.sy_core.specs.declared.state.StateOf.{StateOf}
use Rattle.sy_core.specs.declared.position.Position.{Position}
use Rattle.sy_core.specs.declared.deed.Deed.{Deed}
use Rattle.sy_core.specs.declared.happening.What.{What}
use Rattle.sy_core.specs.declared.happening.Happening.{Happening}
use Rattle.sy_core.specs.Rounds.{rounds}
use Rattle.sy_core.specs.Moments.{Moment}
use Rattle.sy_core.specs.Mentions.{InternalEvent, same_target}
use Rattle.sy_core.specs.Conditions.{numbered, fires, count_events}
use Rattle.sy_core.specs.Orders.{IsAcyclic}
use Rattle.sy_core.specs.Prerequisites.{nodes, numbered_needs}
use Rattle.sy_core.specs.Chronicle.{at_point, assuming, internal_events, first_state, position_after, states_next, chronicle, state_at, moment_at}
use Rattle.sy_core.proofs.Members.{Among}
use Rattle.sy_passes.proofs.SameEvents.{same_targets, target_itself}
use Rattle.sy_quiet.specs.Histories.{History, setting, quiet, going_on, history_at}
use Rattle.sy_quiet.specs.Evaluation.{setting_all, targets_of, with_states, evaluated}
use Rattle.sy_quiet.proofs.OtherEvents.{number_there}
use Rattle.sy_quiet.proofs.States.{last_states, next_point}
use Rattle.sy_quiet.proofs.Told.{events_told}

map_there : {X Y : Type 0} (f : X → Y) (xs : List X) (x : X) → Among xs x → Among (map f xs) (f x)
map_there f [] x m = absurd m
map_there f (y ∷ ys) x (inl e) = inl (ap f e)
map_there f (y ∷ ys) x (inr m) = inr (map_there f ys x m)

-- setting states changes nothing else
pub setting_keeps : (states : Target → StateOf) (xs : List Target) (h : History) → setting_all states xs h ≡ record { before = h.before; now = h.now; next = (setting_all states xs h).next }
setting_keeps states [] h = refl
setting_keeps states (x ∷ xs) h = setting_keeps states xs (setting x (states x) h)

-- each target that is set, or had its state before, has its state
pub set_next : (states : Target → StateOf) (xs : List Target) (h : History) (x : Target) → (h.next x ≡ states x) ⊎ Among xs x → (setting_all states xs h).next x ≡ states x
set_next states [] h x (inl e) = e
set_next states [] h x (inr none) = absurd none
set_next states (y ∷ xs) h x place = set_next states xs (setting y (states y) h) x (at (same_target y x) refl place)
  where
    at : (b : Bool) → same_target y x ≡ b → (h.next x ≡ states x) ⊎ Among (y ∷ xs) x → ((if same_target y x then states y else h.next x) ≡ states x) ⊎ Among xs x
    at true e place = inl (ap (λ b. if b then states y else h.next x) e ∙ ap states (same_targets y x e))
    at false e (inl n) = inl (ap (λ b. if b then states y else h.next x) e ∙ n)
    at false e (inr (inl s)) = let t : same_target y x ≡ true = subst (λ z. same_target y z ≡ true) s (target_itself y) in cc
    at false e (inr (inr m)) = inr m

module _ (deed : Deed) (acyclic : IsAcyclic (numbered_needs deed) (length (nodes deed))) (narrative : List Happening) (n : ℕ) (happenings : List What) where
  abbrev here : ℤ
  here = deed.start +ℤ pos n

  abbrev states : Target → StateOf
  states = state_at deed narrative n

  abbrev past : List Moment
  past = chronicle deed narrative n

  abbrev after : Target → StateOf
  after = states_next deed (moment_at deed narrative n)

  -- where a moment can't tell the happenings from the narrative's at the point
  module _ (same : assuming here happenings ≡ assuming here (at_point narrative here)) where
    abbrev set : InternalEvent → Bool
    set = internal_events deed here happenings states past

    pub moment_is : assuming here happenings states set ≡ moment_at deed narrative n
    moment_is = λ j. moment_by (same j)
      where
        moment_by : ((Target → StateOf) → (InternalEvent → Bool) → Moment) → Moment
        moment_by A = A states (rounds (λ set event. fires deed (A states set) past event.0 event.1) (count_events deed.positions))

    -- the history before its states are set
    abbrev ready : History
    ready = record { before = past; now = moment_at deed narrative n; next = states }

    target_there : (i : ℕ) (p : Position) → slice_get deed.positions i ≡ Some p → Among (targets_of deed) (T.Position i)
    target_there i p is =
        let number : 0 + i ≡ i = omega arith in
        let there = subst (λ k. Among (numbered deed) (k, p)) number (number_there 0 deed.positions i p is) in
        inr (map_there (λ (m : ℕ × Position). T.Position m.0) (numbered deed) (i, p) there)

    stays_or_set : (x : Target) → (states x ≡ after x) ⊎ Among (targets_of deed) x
    stays_or_set T.Contract = inr (inl refl)
    stays_or_set (T.Position i) = at (slice_get deed.positions i) refl
      where
        at : (o : Option Position) → slice_get deed.positions i ≡ o → (states (T.Position i) ≡ position_after (moment_at deed narrative n) i (slice_get deed.positions i)) ⊎ Among (targets_of deed) (T.Position i)
        at None is = inl (sym (ap (position_after (moment_at deed narrative n) i) is))
        at (Some p) is = inr (target_there i p is)

    next_is : (with_states deed ready).next ≡ state_at deed narrative (suc n)
    next_is =
        fun_ext (λ x. set_next after (targets_of deed) ready x (stays_or_set x))
        ∙ sym (last_states deed first_state past (moment_at deed narrative n))

    pub point_goes_on : evaluated deed happenings (history_at deed narrative n) ≡ history_at deed narrative (suc n)
    point_goes_on =
        let told = events_told deed here happenings states states past acyclic in
        let whole = told ∙ (λ j. record { before = past; now = moment_is j; next = states }) in
        let point = next_point deed.start n in
        ap (λ h. going_on (with_states deed h)) whole
        ∙ (ap going_on (setting_keeps after (targets_of deed) ready)
        ∙ (λ j. record {
          before = chronicle deed narrative (suc n);
          now = quiet (sym point j) (next_is j);
          next = next_is j;
        }))
