-- At a point from start on that is no wake point nothing happens, no state changes, and the history goes on as over a quiet point.
use Rattle.std.proofs.Common.{◌≡◌, ℕ, zero, suc, ◌+◌, ◌<◌, ℤ, pos, ◌+ℤ◌, Bool, true, false, ◌||◌, if◌then◌else◌, List, [], ◌∷◌, map, filter, inl, inr, Option, Some, None, slice_get, length, refl, sym, ◌∙◌, ap, subst, arith}
use Rattle.std.proofs.Math.Path.{fun_ext}
use Rattle.std.specs.List.{list_any, flat_map}
use Rattle.std.specs.Ordering.{int_eq}
use Rattle.std.proofs.lemmas.Bool.Decides.{Decides-int_eq}
use Rattle.sy_core.specs.declared.kind.Target.{Target}
use Rattle.sy_core.specs.declared.state.StateOf.{StateOf}
use Rattle.sy_core.specs.declared.event.Ev.{Ev}
use Rattle.sy_core.specs.declared.event.Ev.TheVariants.{Outer, Inner}
use Rattle.sy_core.specs.declared.date_term.DateTerm.{DateTerm}
use Rattle.sy_core.specs.declared.proposition.Prop.{Prop}
use Rattle.sy_core.specs.declared.position.Position.{Position}
use Rattle.sy_core.specs.declared.deed.Deed.{Deed}
use Rattle.sy_core.specs.declared.happening.What.{What}
use Rattle.sy_core.specs.declared.happening.Happening.{Happening}
use Rattle.sy_core.specs.Rounds.{IsSettled}
use Rattle.sy_core.specs.Moments.{Moment, up_to, date_value}
use Rattle.sy_core.specs.Propositions.{verdict_at}
use Rattle.sy_core.specs.Mentions.{InternalEvent, dates_of}
use Rattle.sy_core.specs.Conditions.{events_of}
use Rattle.sy_core.specs.Chronicle.{at_point, stands, assuming, conditions, internal_events, first_state, states_next, chronicle, state_at, moment_at}
use Rattle.sy_core.specs.Orders.{IsAcyclic}
use Rattle.sy_core.specs.Prerequisites.{nodes, numbered_needs}
use Rattle.sy_core.specs.Dependence.{IsOrderOf}
use Rattle.sy_core.specs.EventOrder.{event_order}
use Rattle.sy_core.specs.Wakes.{dates_of_position, dates_of_deed, is_point, falls_on, is_wake_after}
use Rattle.sy_core.proofs.Members.{Among}
use Rattle.sy_core.proofs.RoundsLaw.{among_decided, rounds_settled}
use Rattle.sy_core.proofs.EventOrderLaw.{order_is_of}
use Rattle.sy_passes.specs.Passes.{nothing}
use Rattle.sy_quiet.specs.Histories.{quiet, going_on, passing, history_at}
use Rattle.sy_quiet.specs.KnownWakes.{is_told, is_due, is_eventful, is_known_wake}
use Rattle.sy_quiet.proofs.Falling.{NoneFalls, NoneFallsFor, falls_left, falls_right, falls_in, falls_for}
use Rattle.sy_quiet.proofs.Unseen.{date_unseen, date_keeps}
use Rattle.sy_quiet.proofs.QuietPoints.{verdict_stays, nothing_happens}
use Rattle.sy_quiet.proofs.OtherEvents.{event_never}
use Rattle.sy_quiet.proofs.States.{states_stay, last_states, next_point}

-- tests that are false together
pub or_left : (a b : Bool) → (a || b) ≡ false → a ≡ false
or_left true b h = cc
or_left false b h = refl

pub or_right : (a b : Bool) → (a || b) ≡ false → b ≡ false
or_right true b h = cc
or_right false b h = h

none_passes : {X : Type 0} (p : X → Bool) (xs : List X) (x : X) → list_any p xs ≡ false → Among xs x → p x ≡ false
none_passes p [] x h m = absurd m
none_passes p (y ∷ ys) x h (inl e) = subst (λ z. p z ≡ false) e (or_left (p y) (list_any p ys) h)
none_passes p (y ∷ ys) x h (inr m) = none_passes p ys x (or_right (p y) (list_any p ys) h) m

-- no happening at a point
none_at : (narrative : List Happening) (point : ℤ) → list_any (λ h. int_eq h.point point) narrative ≡ false → at_point narrative point ≡ []
none_at [] point h = refl
none_at (x ∷ xs) point h =
    at (int_eq x.point point) (or_left (int_eq x.point point) (list_any (λ h. int_eq h.point point) xs) h)
    (none_at xs point (or_right (int_eq x.point point) (list_any (λ h. int_eq h.point point) xs) h))
  where
    at : (b : Bool) → b ≡ false → at_point xs point ≡ [] → map (λ (h : Happening). h.what) (if b then x ∷ filter (λ h. int_eq h.point point) xs else filter (λ h. int_eq h.point point) xs) ≡ []
    at true e later = cc
    at false e later = later

-- nothing stands where nothing happens
none_stands : stands [] nothing ≡ (λ e. false)
none_stands = fun_ext at
  where
    at : (e : Ev) → stands [] nothing e ≡ false
    at (Outer event guards) = refl
    at (Inner kind target) = refl

module _ (deed : Deed) (acyclic : IsAcyclic (numbered_needs deed) (length (nodes deed))) (narrative : List Happening) where
  abbrev here : ℕ → ℤ
  here n = deed.start +ℤ pos n

  abbrev told : ℕ → List What
  told n = at_point narrative (here n)

  abbrev states : ℕ → Target → StateOf
  states n = state_at deed narrative n

  abbrev past : ℕ → List Moment
  past n = chronicle deed narrative n

  -- what happens inside at the n-th point
  abbrev internal : ℕ → InternalEvent → Bool
  internal n = internal_events deed (here n) (told n) (states n) (past n)

  ordered : IsOrderOf deed (event_order deed)
  ordered = order_is_of deed acyclic

  is_settled : (n : ℕ) → IsSettled (conditions deed (here n) (told n) (states n) (past n)) (internal n)
  is_settled n = rounds_settled deed (event_order deed) ordered (here n) (told n) (states n) (past n)

  -- a moment without one of the deed's internal events has none at all
  pub idle : (n : ℕ) → is_eventful deed narrative n ≡ false → (e : InternalEvent) → internal n e ≡ false
  idle n h e = elim (among_decided (events_of deed) e) [
    | inl at ↦ none_passes (λ (event : InternalEvent). (moment_at deed narrative n).seen (Inner event.0 event.1)) (events_of deed) e h at
    | inr out ↦ sym (is_settled n e) ∙ event_never deed (moment_at deed narrative n) (past n) e.0 e.1 out
  ]

  state_stays : (n : ℕ) → ((e : InternalEvent) → internal n e ≡ false) → states (suc n) ≡ states n
  state_stays n none =
      let set : internal n ≡ nothing = fun_ext none in
      last_states deed first_state (past n) (moment_at deed narrative n)
      ∙ ((λ j. states_next deed (assuming (here n) (told n) (states n) (set j))) ∙ states_stay deed (here n) (told n) (states n))

  -- after a point at which nothing happens, one without a happening and without a date that falls on it
  module _ (n : ℕ) (untold : is_told deed narrative (suc n) ≡ false) (no_dates : NoneFalls deed.unit (here (suc n)) (past (suc n)) (dates_of_deed deed)) (uneventful : is_eventful deed narrative n ≡ false) where
    none_told : told (suc n) ≡ []
    none_told = none_at narrative (here (suc n)) untold

    idle_before : (e : InternalEvent) → internal n e ≡ false
    idle_before = idle n uneventful

    set : internal n ≡ nothing
    set = fun_ext idle_before

    abbrev idle_moment : Moment
    idle_moment = assuming (here n) (told n) (states n) nothing

    moment_is : moment_at deed narrative n ≡ idle_moment
    moment_is = λ j. assuming (here n) (told n) (states n) (set j)

    state_before : states (suc n) ≡ states n
    state_before = state_stays n idle_before

    none_before : (e : InternalEvent) → conditions deed (here n) (told n) (states n) (past n) nothing e ≡ false
    none_before e = subst (λ set. conditions deed (here n) (told n) (states n) (past n) set e ≡ set e) set (is_settled n e)

    past_is : past (suc n) ≡ up_to idle_moment (past n)
    past_is = λ j. up_to (moment_is j) (past n)

    abbrev NoneHere : List DateTerm → Type 0
    NoneHere = NoneFalls deed.unit (here (suc n)) (up_to idle_moment (past n))

    dates_before : NoneHere (dates_of_deed deed)
    dates_before = subst (λ ms. NoneFalls deed.unit (here (suc n)) ms (dates_of_deed deed)) past_is no_dates

    position_dates : (i : ℕ) (p : Position) → slice_get deed.positions i ≡ Some p → NoneFallsFor deed.unit (here (suc n)) (up_to idle_moment (past n)) p
    position_dates i p is =
        let all = falls_left deed.unit (here (suc n)) (up_to idle_moment (past n)) (flat_map dates_of_position deed.positions) (flat_map dates_of deed.posts) dates_before in
        falls_for deed.unit (here (suc n)) (up_to idle_moment (past n)) p
        (falls_in deed.unit (here (suc n)) (up_to idle_moment (past n)) dates_of_position deed.positions i p is all)

    post_dates : (i : ℕ) (p : Prop) → slice_get deed.posts i ≡ Some p → NoneHere (dates_of p)
    post_dates i p is =
        let all = falls_right deed.unit (here (suc n)) (up_to idle_moment (past n)) (flat_map dates_of_position deed.positions) (flat_map dates_of deed.posts) dates_before in
        falls_in deed.unit (here (suc n)) (up_to idle_moment (past n)) dates_of deed.posts i p is all

    -- nothing internal happens
    quiet_inside : (e : InternalEvent) → internal (suc n) e ≡ false
    quiet_inside e =
        (λ j. internal_events deed (here (suc n)) (none_told j) (state_before j) (past_is j) e)
        ∙ nothing_happens deed (here n) (here (suc n)) (next_point deed.start n) (told n) (states n) (past n) none_before position_dates (event_order deed) ordered e

    -- the states stay
    quiet_states : states (suc (suc n)) ≡ states (suc n)
    quiet_states = state_stays (suc n) quiet_inside

    -- the moment is a quiet one
    quiet_moment : moment_at deed narrative (suc n) ≡ quiet (here (suc n)) (states (suc n))
    quiet_moment =
        let none : internal (suc n) ≡ nothing = fun_ext quiet_inside in
        (λ j. assuming (here (suc n)) (none_told j) (states (suc n)) (none j))
        ∙ (λ j. record { point = here (suc n); asked = λ i. false; seen = none_stands j; state = states (suc n) })

    -- each postcondition has the verdict that it had
    quiet_posts : (i : ℕ) (p : Prop) → slice_get deed.posts i ≡ Some p → verdict_at deed.unit (moment_at deed narrative (suc n)) (past (suc n)) p ≡ verdict_at deed.unit (moment_at deed narrative n) (past n) p
    quiet_posts i p is =
        let none : internal (suc n) ≡ nothing = fun_ext quiet_inside in
        (λ j. verdict_at deed.unit (assuming (here (suc n)) (none_told j) (state_before j) (none j)) (past_is j) p)
        ∙ (verdict_stays deed (here n) (here (suc n)) (next_point deed.start n) (told n) (states n) (past n) p (post_dates i p is)
        ∙ ap (λ m. verdict_at deed.unit m (past n) p) (sym moment_is))

    -- the history goes on as over a quiet point
    quiet_history : history_at deed narrative (suc (suc n)) ≡ going_on (history_at deed narrative (suc n))
    quiet_history =
        let point = next_point deed.start (suc n) in
        λ j. record {
          before = up_to (quiet_moment j) (past (suc n));
          now = quiet (point j) (quiet_states j);
          next = quiet_states j;
        }

  abbrev falls : ℕ → ℕ → DateTerm → Bool
  falls n m = falls_on deed.unit (here m) (past n)

  none_due : (n m : ℕ) → is_due deed narrative n m ≡ false → NoneFalls deed.unit (here m) (past n) (dates_of_deed deed)
  none_due n m h = by_list (dates_of_deed deed) h
    where
      by_list : (ds : List DateTerm) → list_any (falls n m) ds ≡ false → NoneFalls deed.unit (here m) (past n) ds
      by_list [] h = tt
      by_list (d ∷ ds) h = (
        λ e. (let yes = ap (is_point (here m)) e ∙ (Decides-int_eq (here m) (here m)).1 refl in let no = or_left (falls n m d) (list_any (falls n m) ds) h in cc),
        by_list ds (or_right (falls n m d) (list_any (falls n m) ds) h),
      )

  -- where nothing else happens at a point, no date becomes known there
  module _ (n : ℕ) (untold : is_told deed narrative (suc n) ≡ false) (not_due : is_due deed narrative (suc n) (suc n) ≡ false) (uneventful : is_eventful deed narrative n ≡ false) where
    none_becomes_known : is_due deed narrative (suc (suc n)) (suc n) ≡ is_due deed narrative (suc n) (suc n)
    none_becomes_known = by_list (dates_of_deed deed)
      where
        by_date : (d : DateTerm) → date_value deed.unit d (past (suc (suc n))) ≡ date_value deed.unit d (past (suc n))
        by_date d =
            (λ j. date_value deed.unit d (up_to (quiet_moment n untold (none_due (suc n) (suc n) not_due) uneventful j) (past (suc n))))
            ∙ date_unseen deed.unit d (past (suc n)) (quiet (here (suc n)) (states (suc n))) (λ e. refl)

        by_list : (ds : List DateTerm) → list_any (falls (suc (suc n)) (suc n)) ds ≡ list_any (falls (suc n) (suc n)) ds
        by_list [] = refl
        by_list (d ∷ ds) = let a = by_date d in let later = by_list ds in λ j. is_point (here (suc n)) (a j) || later j

  -- a date that is known to fall on a point does
  still_due : (n : ℕ) → is_due deed narrative (suc n) (suc n) ≡ true → is_due deed narrative (suc (suc n)) (suc n) ≡ true
  still_due n = by_list (dates_of_deed deed)
    where
      by_date : (d : DateTerm) (o : Option ℤ) → date_value deed.unit d (past (suc n)) ≡ o → is_point (here (suc n)) o ≡ true → falls (suc (suc n)) (suc n) d ≡ true
      by_date d None e h = cc
      by_date d (Some v) e h = ap (is_point (here (suc n))) (date_keeps deed.unit d (past (suc n)) (moment_at deed narrative (suc n)) v e) ∙ h

      or_more : (a b c d : Bool) → (a ≡ true → c ≡ true) → (b ≡ true → d ≡ true) → (a || b) ≡ true → (c || d) ≡ true
      or_more true b c d f g h = let t = f refl in ap (λ x. x || d) t
      or_more false b true d f g h = refl
      or_more false b false d f g h = g h

      by_list : (ds : List DateTerm) → list_any (falls (suc n) (suc n)) ds ≡ true → list_any (falls (suc (suc n)) (suc n)) ds ≡ true
      by_list [] h = h
      by_list (d ∷ ds) h = or_more _ _ _ _ (by_date d (date_value deed.unit d (past (suc n))) refl) (by_list ds) h

  pub wake_is_known : (n : ℕ) → is_wake_after deed narrative n ≡ is_known_wake deed narrative n
  wake_is_known zero = refl
  wake_is_known (suc n) =
      by_cases (is_told deed narrative (suc n)) (is_due deed narrative (suc n) (suc n)) (is_due deed narrative (suc (suc n)) (suc n)) (is_eventful deed narrative n) (still_due n) (λ a f b. none_becomes_known n a f b)
    where
      by_cases : (a f g b : Bool) → (f ≡ true → g ≡ true) → (a ≡ false → f ≡ false → b ≡ false → g ≡ f) → ((a || g) || b) ≡ ((a || f) || b)
      by_cases true f g b keeps same = refl
      by_cases false true g b keeps same = let t = keeps refl in ap (λ x. x || b) t
      by_cases false false true true keeps same = refl
      by_cases false false false true keeps same = refl
      by_cases false false g false keeps same = let t = same refl refl refl in ap (λ x. x || false) t

  -- a point after start that is no wake point
  module _ (n : ℕ) (no_wake : is_wake_after deed narrative (suc n) ≡ false) where
    not_known : is_known_wake deed narrative (suc n) ≡ false
    not_known = sym (wake_is_known (suc n)) ∙ no_wake

    told_or_due : (is_told deed narrative (suc n) || is_due deed narrative (suc n) (suc n)) ≡ false
    told_or_due = or_left (is_told deed narrative (suc n) || is_due deed narrative (suc n) (suc n)) (is_eventful deed narrative n) not_known

    untold : is_told deed narrative (suc n) ≡ false
    untold = or_left (is_told deed narrative (suc n)) (is_due deed narrative (suc n) (suc n)) told_or_due

    no_dates : NoneFalls deed.unit (here (suc n)) (past (suc n)) (dates_of_deed deed)
    no_dates = none_due (suc n) (suc n) (or_right (is_told deed narrative (suc n)) (is_due deed narrative (suc n) (suc n)) told_or_due)

    uneventful : is_eventful deed narrative n ≡ false
    uneventful = or_right (is_told deed narrative (suc n) || is_due deed narrative (suc n) (suc n)) (is_eventful deed narrative n) not_known

    pub none_inside : (e : InternalEvent) → internal (suc n) e ≡ false
    none_inside = quiet_inside n untold no_dates uneventful

    pub same_states : states (suc (suc n)) ≡ states (suc n)
    same_states = quiet_states n untold no_dates uneventful

    pub same_posts : (i : ℕ) (p : Prop) → slice_get deed.posts i ≡ Some p → verdict_at deed.unit (moment_at deed narrative (suc n)) (past (suc n)) p ≡ verdict_at deed.unit (moment_at deed narrative n) (past n) p
    same_posts = quiet_posts n untold no_dates uneventful

    pub history_goes_on : history_at deed narrative (suc (suc n)) ≡ going_on (history_at deed narrative (suc n))
    history_goes_on = quiet_history n untold no_dates uneventful

  -- many such points one after the other
  pub quiet_run : (n m : ℕ) → ((k : ℕ) → k < m → is_wake_after deed narrative (suc n + k) ≡ false) → history_at deed narrative (suc n + m) ≡ passing m (history_at deed narrative (suc n))
  quiet_run n zero h = let e : suc n + 0 ≡ suc n = omega arith in ap (history_at deed narrative) e
  quiet_run n (suc m) h =
      let e : suc n + suc m ≡ suc (suc (n + m)) = omega arith in
      let f : suc n + m ≡ suc (n + m) = omega arith in
      ap (history_at deed narrative) e
      ∙ (history_goes_on (n + m) (subst (λ k. is_wake_after deed narrative k ≡ false) f (h m (omega arith)))
      ∙ ap going_on (ap (history_at deed narrative) (sym f) ∙ quiet_run n m (λ k lt. h k (omega (arith, lt)))))

  -- and from any point on
  pub run_at : (n m : ℕ) → ((k : ℕ) → k < m → is_wake_after deed narrative (n + k) ≡ false) → history_at deed narrative (n + m) ≡ passing m (history_at deed narrative n)
  run_at zero zero h = refl
  run_at zero (suc m) h = let no = h 0 (omega arith) in cc
  run_at (suc n) m h = quiet_run n m h
