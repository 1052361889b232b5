-- The condition of an internal event depends only on the events that it looks at.
use Rattle.std.proofs.Common.{◌≡◌, ℕ, ℤ, Bool, true, false, not, ◌&&◌, ◌||◌, List, [], ◌∷◌, ◌++◌, map, Option, Some, None, slice_get, int_lt, int_le, refl, sym, ◌∙◌, ap, subst, inl, inr, if◌then◌else◌}
use Rattle.std.specs.Option.{option_map}
use Rattle.std.specs.List.{list_any, list_all, flat_map}
use Rattle.sy_base.specs.declared.time.TimeUnit.{TimeUnit}
use Rattle.sy_words.specs.declared.kind.Kind.{Kind}
use Rattle.sy_words.specs.declared.kind.Kind.TheVariants.{Exerted, Triggered, Activated, Resumed, Suspended, Fulfilled, Violated, Expired, Discharged, Terminated, Completed}
use Rattle.sy_core.specs.declared.kind.Target.{Target}
use Rattle.sy_core.specs.declared.kind.Target.TheVariants as T
use Rattle.sy_core.specs.declared.state.StateOf.{StateOf}
use Rattle.sy_core.specs.declared.state.StateOf.TheVariants as S
use Rattle.sy_core.specs.declared.event.Ev.{Ev}
use Rattle.sy_core.specs.declared.event.Ev.TheVariants.{Outer, Inner}
use Rattle.sy_core.specs.declared.date_term.Base.{Base}
use Rattle.sy_core.specs.declared.date_term.Base.TheVariants.{Fixed, First}
use Rattle.sy_core.specs.declared.date_term.DateTerm.{DateTerm}
use Rattle.sy_core.specs.declared.proposition.Prop.{Prop}
use Rattle.sy_core.specs.declared.proposition.Prop.TheOpen.{Prop-F}
use Rattle.sy_core.specs.declared.proposition.Prop.TheOpen as P
use Rattle.sy_core.specs.declared.proposition.Prop.TheViews.{roll-Prop}
use Rattle.sy_core.specs.declared.proposition.Prop.TheFolds.{fold-roll-Prop, map-Prop, ind-Prop}
use Rattle.sy_words.specs.declared.form.Form.{Form}
use Rattle.sy_words.specs.declared.verb.Verb.{Verb}
use Rattle.sy_words.specs.declared.verb.Verb.TheVariants as Verbs
use Rattle.sy_core.specs.declared.position.Goal.{Goal}
use Rattle.sy_core.specs.declared.position.Goal.TheVariants as G
use Rattle.sy_core.specs.declared.position.Position.{Position}
use Rattle.sy_core.specs.declared.deed.Deed.{Deed}
use Rattle.sy_core.specs.declared.happening.What.{What}
use Rattle.sy_core.specs.declared.table.Verdict.{Verdict}
use Rattle.sy_core.proofs.Members.{Among}
use Rattle.sy_core.specs.Moments.{Moment, first_point, base_value, all_added, date_value, seen_ever}
use Rattle.sy_core.specs.States.{same_state, kinds_of, state_by, last_state}
use Rattle.sy_core.specs.Propositions.{opposite, lesser, greater, least, greatest, verdict_by, with_date, verdict_step, verdict_at, is_true, is_false, situation_holds}
use Rattle.sy_core.specs.Mentions.{InternalEvent, events_at, named_by_event, named_by_base, named_by_date, names_step, names_of, names_of_duty, has_holds}
use Rattle.sy_core.specs.Conditions.{is_obligation, survives, is_settled, duty_verdict, powers_to, remedies_of, awaited, events_of_position, was, live, next_state, by, is_remedied, contract_fires, position_fires, fires_of, fires}
use Rattle.sy_core.specs.Chronicle.{assuming}
use Rattle.sy_core.specs.Dependence.{exertions, contract_ends, contract_reads, position_reads, reads_of, reads}

-- two sets agree on the events of a list
abbrev pub AgreeOn : (InternalEvent → Bool) → (InternalEvent → Bool) → List InternalEvent → Type 0
AgreeOn s t [] = Unit {0}
AgreeOn s t (e ∷ es) = (s e ≡ t e) × AgreeOn s t es

module _ (s t : InternalEvent → Bool) where
  agree_left : (xs ys : List InternalEvent) → AgreeOn s t (xs ++ ys) → AgreeOn s t xs
  agree_left [] ys h = tt
  agree_left (x ∷ xs) ys h = (h.0, agree_left xs ys h.1)

  agree_right : (xs ys : List InternalEvent) → AgreeOn s t (xs ++ ys) → AgreeOn s t ys
  agree_right [] ys h = h
  agree_right (x ∷ xs) ys h = agree_right xs ys h.1

  pub agree_from : (es : List InternalEvent) → ((d : InternalEvent) → Among es d → s d ≡ t d) → AgreeOn s t es
  agree_from [] h = tt
  agree_from (e ∷ es) h = (h e (inl refl), agree_from es (λ d m. h d (inr m)))

-- a test of the last moment
any_last : (test : Moment → Bool) (before : List Moment) (m n : Moment) → test m ≡ test n → list_any test (before ++ m ∷ []) ≡ list_any test (before ++ n ∷ [])
any_last test [] m n e = ap (λ b. b || false) e
any_last test (x ∷ before) m n e = ap (λ b. test x || b) (any_last test before m n e)

module _ (point : ℤ) (happenings : List What) (state : Target → StateOf) (before : List Moment) (s t : InternalEvent → Bool) where
  abbrev pub m : Moment
  m = assuming point happenings state s

  abbrev pub n : Moment
  n = assuming point happenings state t

  seen_same : (e : Ev) → AgreeOn s t (named_by_event e) → m.seen e ≡ n.seen e
  seen_same (Outer event guards) h = refl
  seen_same (Inner kind target) h = h.0

  first_same : (e : Ev) (earlier : List Moment) → AgreeOn s t (named_by_event e) → first_point e (earlier ++ m ∷ []) ≡ first_point e (earlier ++ n ∷ [])
  first_same e [] h = ap (λ b. if b then Some point else None) (seen_same e h)
  first_same e (x ∷ earlier) h = ap (λ o. if x.seen e then Some x.point else o) (first_same e earlier h)

  base_same : (base : Base) → AgreeOn s t (named_by_base base) → base_value base (before ++ m ∷ []) ≡ base_value base (before ++ n ∷ [])
  base_same (Fixed d) h = refl
  base_same (First e) h = first_same e before h

  date_same : (unit : TimeUnit) (term : DateTerm) → AgreeOn s t (named_by_date term) → date_value unit term (before ++ m ∷ []) ≡ date_value unit term (before ++ n ∷ [])
  date_same unit term h = ap (option_map (λ d. all_added unit d term.plus)) (base_same term.base h)

  ever_same : (e : Ev) → AgreeOn s t (named_by_event e) → seen_ever e (before ++ m ∷ []) ≡ seen_ever e (before ++ n ∷ [])
  ever_same e h = any_last (λ x. x.seen e) before m n (seen_same e h)

  module _ (unit : TimeUnit) where
    abbrev old : Prop → Verdict
    old = verdict_at unit m before

    abbrev new : Prop → Verdict
    new = verdict_at unit n before

    abbrev Same : Prop → Type 0
    Same p = AgreeOn s t (names_of p) → old p ≡ new p

    all_same : (ps : List ((p : Prop) × Same p)) → AgreeOn s t (flat_map (λ part. part) (map names_of (map (λ e. e.0) ps))) → least (map old (map (λ e. e.0) ps)) ≡ least (map new (map (λ e. e.0) ps))
    all_same [] h = refl
    all_same (e ∷ ps) h =
        let a = e.1 (agree_left s t (names_of e.0) (flat_map (λ part. part) (map names_of (map (λ e. e.0) ps))) h) in
        let b = all_same ps (agree_right s t (names_of e.0) (flat_map (λ part. part) (map names_of (map (λ e. e.0) ps))) h) in
        λ j. lesser (a j) (b j)

    any_same : (ps : List ((p : Prop) × Same p)) → AgreeOn s t (flat_map (λ part. part) (map names_of (map (λ e. e.0) ps))) → greatest (map old (map (λ e. e.0) ps)) ≡ greatest (map new (map (λ e. e.0) ps))
    any_same [] h = refl
    any_same (e ∷ ps) h =
        let a = e.1 (agree_left s t (names_of e.0) (flat_map (λ part. part) (map names_of (map (λ e. e.0) ps))) h) in
        let b = any_same ps (agree_right s t (names_of e.0) (flat_map (λ part. part) (map names_of (map (λ e. e.0) ps))) h) in
        λ j. greater (a j) (b j)

    -- one layer, with the fact of each part beside it
    layer_same : (y : Prop-F ((p : Prop) × Same p)) → AgreeOn s t (names_step (map-Prop Prop (List InternalEvent) names_of (map-Prop ((p : Prop) × Same p) Prop (λ e. e.0) y))) → verdict_step unit m before (map-Prop Prop Verdict old (map-Prop ((p : Prop) × Same p) Prop (λ e. e.0) y)) ≡ verdict_step unit n before (map-Prop Prop Verdict new (map-Prop ((p : Prop) × Same p) Prop (λ e. e.0) y))
    layer_same (P.Const b) h = refl
    layer_same (P.Not e) h = ap opposite (e.1 h)
    layer_same (P.All ps) h = all_same ps h
    layer_same (P.Any ps) h = any_same ps h
    layer_same (P.Happens e) h = ap (λ b. verdict_by b false) (ever_same e h)
    layer_same (P.Before e to) h =
        let seen = seen_same e (agree_left s t (named_by_event e) (named_by_date to) h) in
        let d = date_same unit to (agree_right s t (named_by_event e) (named_by_date to) h) in
        λ j. with_date (d j) (λ d. verdict_by (any_last (λ x. x.seen e && int_lt x.point d) before m n (ap (λ b. b && int_lt point d) seen) j) (int_le d point))
    layer_same (P.After e from) h =
        let seen = seen_same e (agree_left s t (named_by_event e) (named_by_date from) h) in
        let d = date_same unit from (agree_right s t (named_by_event e) (named_by_date from) h) in
        λ j. with_date (d j) (λ d. verdict_by (any_last (λ x. x.seen e && int_lt d x.point) before m n (ap (λ b. b && int_lt d point) seen) j) false)
    layer_same (P.Within e from to) h =
        let seen = seen_same e (agree_left s t (named_by_event e) (named_by_date from ++ named_by_date to) h) in
        let later = agree_right s t (named_by_event e) (named_by_date from ++ named_by_date to) h in
        let a = date_same unit from (agree_left s t (named_by_date from) (named_by_date to) later) in
        let b = date_same unit to (agree_right s t (named_by_date from) (named_by_date to) later) in
        λ j. with_date (a j) (λ d. with_date (b j) (λ d'. verdict_by (any_last (λ x. x.seen e && (int_le d x.point && int_lt x.point d')) before m n (ap (λ b. b && (int_le d point && int_lt point d')) seen) j) (int_le d' point)))
    layer_same (P.Occurs sit from to) h =
        let a = date_same unit from (agree_left s t (named_by_date from) (named_by_date to) h) in
        let b = date_same unit to (agree_right s t (named_by_date from) (named_by_date to) h) in
        let fails = λ (d d' : ℤ). any_last (λ x. (int_le d x.point && int_lt x.point d') && not (situation_holds sit x)) before m n refl in
        λ j. with_date (a j) (λ d. with_date (b j) (λ d'. verdict_by (int_le d' point && not (fails d d' j)) (fails d d' j)))
    layer_same (P.Holds sit) h = refl

    verdict_same : (p : Prop) → Same p
    verdict_same = ind-Prop Same (λ x y is.
        let parts = λ (z : Prop-F ((p : Prop) × Same p)). map-Prop ((p : Prop) × Same p) Prop (λ e. e.0) z in
        subst (λ (z : Prop-F Prop). Same (roll-Prop z)) is (λ h.
        fold-roll-Prop Verdict (verdict_step unit m before) (parts y)
        ∙ (layer_same y (subst (AgreeOn s t) (fold-roll-Prop (List InternalEvent) names_step (parts y)) h)
        ∙ sym (fold-roll-Prop Verdict (verdict_step unit n before) (parts y)))))

  -- the last of some kinds, where the sets agree on the events of these
  last_same : (form : Form) (kinds : List Kind) (x : Target) (first : StateOf) → AgreeOn s t (events_at kinds x) → last_state form kinds (λ kind. s (kind, x)) first ≡ last_state form kinds (λ kind. t (kind, x)) first
  last_same form [] x first h = refl
  last_same form (kind ∷ later) x first h =
      last_same form later x (if s (kind, x) then state_by form kind else first) h.1
      ∙ ap (λ b. last_state form later (λ k. t (k, x)) (if b then state_by form kind else first)) h.0

  next_same : (n' : ℕ × Position) → AgreeOn s t (events_of_position n') → next_state m n'.0 n'.1 ≡ next_state n n'.0 n'.1
  next_same n' h = last_same n'.1.form (kinds_of n'.1.form) (T.Position n'.0) (state (T.Position n'.0)) h

  exerted_same : (ns : List (ℕ × Position)) → AgreeOn s t (map (λ n. (Exerted, T.Position n.0)) ns) → list_any (λ n. s (Exerted, T.Position n.0)) ns ≡ list_any (λ n. t (Exerted, T.Position n.0)) ns
  exerted_same [] h = refl
  exerted_same (x ∷ ns) h = let later = exerted_same ns h.1 in λ j. h.0 j || later j

  -- whether a state after the point passes a test, at some position
  some_same : (test : StateOf → Bool) (ns : List (ℕ × Position)) → AgreeOn s t (flat_map events_of_position ns) → list_any (λ k. test (next_state m k.0 k.1)) ns ≡ list_any (λ k. test (next_state n k.0 k.1)) ns
  some_same test [] h = refl
  some_same test (x ∷ ns) h =
      let here = next_same x (agree_left s t (events_of_position x) (flat_map events_of_position ns) h) in
      let later = some_same test ns (agree_right s t (events_of_position x) (flat_map events_of_position ns) h) in
      λ j. test (here j) || later j

  module _ (deed : Deed) where
    by_same : (verb : Verb) (target : Target) → AgreeOn s t (exertions deed verb target) → by deed m verb target ≡ by deed n verb target
    by_same verb target h = exerted_same (powers_to deed verb target) h

    abbrev remedy_reads : ℕ × Position → List InternalEvent
    remedy_reads k = flat_map events_of_position (remedies_of deed (T.Position k.0))

    abbrev all_reads : List (ℕ × Position) → List InternalEvent
    all_reads ns = flat_map (λ k. events_of_position k ++ remedy_reads k) ns

    all_settled_same : (ns : List (ℕ × Position)) → AgreeOn s t (all_reads ns) → list_all (λ k. is_settled (next_state m k.0 k.1) (is_remedied deed m (T.Position k.0))) ns ≡ list_all (λ k. is_settled (next_state n k.0 k.1) (is_remedied deed n (T.Position k.0))) ns
    all_settled_same [] h = refl
    all_settled_same (x ∷ ns) h =
        let own = agree_left s t (events_of_position x ++ remedy_reads x) (all_reads ns) h in
        let after = next_same x (agree_left s t (events_of_position x) (remedy_reads x) own) in
        let remedied = some_same (λ after. same_state after S.Fulfillment) (remedies_of deed (T.Position x.0)) (agree_right s t (events_of_position x) (remedy_reads x) own) in
        let later = all_settled_same ns (agree_right s t (events_of_position x ++ remedy_reads x) (all_reads ns) h) in
        λ j. is_settled (after j) (remedied j) && later j

    any_begun_same : (ns : List (ℕ × Position)) → AgreeOn s t (all_reads ns) → list_any (λ k. not (same_state (next_state m k.0 k.1) S.Null)) ns ≡ list_any (λ k. not (same_state (next_state n k.0 k.1) S.Null)) ns
    any_begun_same [] h = refl
    any_begun_same (x ∷ ns) h =
        let own = agree_left s t (events_of_position x ++ remedy_reads x) (all_reads ns) h in
        let after = next_same x (agree_left s t (events_of_position x) (remedy_reads x) own) in
        let later = any_begun_same ns (agree_right s t (events_of_position x ++ remedy_reads x) (all_reads ns) h) in
        λ j. not (same_state (after j) S.Null) || later j

    ends_same : (form : Form) → AgreeOn s t (contract_ends deed form) → (not (survives form) && by deed m Verbs.Terminates T.Contract) ≡ (not (survives form) && by deed n Verbs.Terminates T.Contract)
    ends_same form h = at (survives form) h
      where
        at : (b : Bool) → AgreeOn s t (if b then [] else exertions deed Verbs.Terminates T.Contract) → (not b && by deed m Verbs.Terminates T.Contract) ≡ (not b && by deed n Verbs.Terminates T.Contract)
        at true h = refl
        at false h = by_same Verbs.Terminates T.Contract h

    duty_same : (goal : Goal) → AgreeOn s t (names_of_duty goal) → duty_verdict deed.unit m before goal ≡ duty_verdict deed.unit n before goal
    duty_same (G.Duty consequent) h = verdict_same deed.unit consequent h
    duty_same (G.Act act) h = refl

    -- one row of the contract each
    contract_same : (kind : Kind) → AgreeOn s t (contract_reads deed kind) → contract_fires deed m kind ≡ contract_fires deed n kind
    contract_same Exerted h = refl
    contract_same Triggered h = refl
    contract_same Activated h = refl
    contract_same Resumed h = let b = by_same Verbs.Resumes T.Contract h in λ j. was m T.Contract S.Suspension && b j
    contract_same Suspended h = let b = by_same Verbs.Suspends T.Contract h in λ j. was m T.Contract S.InEffect && b j
    contract_same Fulfilled h = refl
    contract_same Violated h = refl
    contract_same Expired h = refl
    contract_same Discharged h = refl
    contract_same Terminated h = by_same Verbs.Terminates T.Contract h
    contract_same Completed h =
        let a = all_settled_same (awaited deed) h.1.1 in
        let b = any_begun_same (awaited deed) h.1.1 in
        λ j. was m T.Contract S.InEffect && not (h.0 j) && not (h.1.0 j) && (a j && b j)

    -- one row of a position each
    position_same : (i : ℕ) (p : Position) (kind : Kind) → AgreeOn s t (position_reads deed i p kind) → position_fires deed m before i p kind ≡ position_fires deed n before i p kind
    position_same i p Exerted h = refl
    position_same i p Triggered h =
        let v = verdict_same deed.unit p.trigger (agree_left s t (names_of p.trigger) (exertions deed Verbs.Triggers (T.Position i)) h) in
        let b = by_same Verbs.Triggers (T.Position i) (agree_right s t (names_of p.trigger) (exertions deed Verbs.Triggers (T.Position i)) h) in
        λ j. live m p.form && was m (T.Position i) S.Null && (is_true (v j) || b j)
    position_same i p Activated h =
        let v = verdict_same deed.unit p.antecedent h.1 in
        λ j. live m p.form && (was m (T.Position i) S.Create || h.0 j) && is_true (v j)
    position_same i p Resumed h = let b = by_same Verbs.Resumes (T.Position i) h in λ j. was m (T.Position i) S.Suspension && b j
    position_same i p Suspended h =
        let b = by_same Verbs.Suspends (T.Position i) h.1.1.1 in
        λ j. (was m (T.Position i) S.InEffect || h.0 j || h.1.0 j) && b j && not (h.1.1.0 j)
    position_same i p Fulfilled h =
        let d = duty_same p.goal h.1.1.1.1.1 in
        λ j. is_obligation p.form && (live m p.form && (was m (T.Position i) S.InEffect || h.0 j || h.1.0 j) && not (h.1.1.0 j) && not (h.1.1.1.0 j) && not (h.1.1.1.1.0 j)) && is_true (d j)
    position_same i p Violated h =
        let d = duty_same p.goal h.1.1.1.1.1 in
        λ j. is_obligation p.form && (live m p.form && (was m (T.Position i) S.InEffect || h.0 j || h.1.0 j) && not (h.1.1.0 j) && not (h.1.1.1.0 j) && not (h.1.1.1.1.0 j)) && is_false (d j)
    position_same i p Expired h =
        let v = verdict_same deed.unit p.antecedent h.1 in
        λ j. live m p.form && (was m (T.Position i) S.Create || h.0 j) && not (has_holds p.antecedent) && is_false (v j)
    position_same i p Discharged h =
        let b = by_same Verbs.Discharges (T.Position i) h.1 in
        λ j. is_obligation p.form && (was m (T.Position i) S.Create || was m (T.Position i) S.InEffect || was m (T.Position i) S.Suspension || h.0 j) && b j
    position_same i p Terminated h =
        let own = by_same Verbs.Terminates (T.Position i) (agree_left s t (exertions deed Verbs.Terminates (T.Position i)) (contract_ends deed p.form) h.1.1) in
        let whole = ends_same p.form (agree_right s t (exertions deed Verbs.Terminates (T.Position i)) (contract_ends deed p.form) h.1.1) in
        λ j. (was m (T.Position i) S.Create || was m (T.Position i) S.InEffect || was m (T.Position i) S.Suspension || h.0 j) && (own j || whole j) && not (h.1.0 j)
    position_same i p Completed h = refl

    same_of : (i : ℕ) (o : Option Position) (kind : Kind) → AgreeOn s t (reads_of deed i o kind) → fires_of deed m before i o kind ≡ fires_of deed n before i o kind
    same_of i None kind h = refl
    same_of i (Some p) kind h = position_same i p kind h

    -- two sets that agree on what a condition looks at give the same
    pub condition_same : (kind : Kind) (x : Target) → AgreeOn s t (reads deed kind x) → fires deed m before kind x ≡ fires deed n before kind x
    condition_same kind T.Contract h = contract_same kind h
    condition_same kind (T.Position i) h = same_of i (slice_get deed.positions i) kind h
