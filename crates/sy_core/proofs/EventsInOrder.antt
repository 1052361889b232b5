-- In the order of events none of those that a condition looks at stands behind its own event.
use Rattle.std.proofs.Common.{◌≡◌, ℕ, zero, suc, ◌+◌, Bool, true, false, not, ◌&&◌, ◌||◌, cond, if◌then◌else◌, List, [], ◌∷◌, ◌++◌, map, ◌⊎◌, inl, inr, Option, Some, None, slice_get, refl, sym, ◌∙◌, ap, subst, arith, append_assoc}
use Rattle.std.specs.List.{list_any, filter, flat_map, enumerate_from}
use Rattle.sy_words.specs.declared.kind.Kind.{Kind}
use Rattle.sy_words.specs.declared.kind.Kind.TheVariants.{Exerted, Triggered, Activated, Resumed, Suspended, Fulfilled, Violated, Expired, Discharged, Terminated, Completed}
use Rattle.sy_words.specs.declared.form.Form.{Form}
use Rattle.sy_words.specs.declared.form.Form.TheVariants.{Obligation, Surviving, Power}
use Rattle.sy_words.specs.declared.verb.Verb.{Verb}
use Rattle.sy_words.specs.declared.verb.Verb.TheVariants as Verbs
use Rattle.sy_core.specs.declared.kind.Target.{Target}
use Rattle.sy_core.specs.declared.kind.Target.TheVariants as T
use Rattle.sy_core.specs.declared.position.Goal.{Goal}
use Rattle.sy_core.specs.declared.position.Goal.TheVariants as G
use Rattle.sy_core.specs.declared.position.Position.{Position}
use Rattle.sy_core.specs.declared.deed.Deed.{Deed}
use Rattle.sy_core.specs.Mentions.{InternalEvent, events_at, names_of, names_of_duty}
use Rattle.sy_core.specs.States.{kinds_of, obligation_kinds}
use Rattle.sy_core.specs.Conditions.{is_act, acts_on_contract, is_obligation, is_awaited, is_remedy, survives, numbered, powers_to, remedies_of, awaited, events_of_position}
use Rattle.sy_core.specs.Prerequisites.{Node, Exert, Trig, Act, End, Contract, own_exert, obligation_nodes, exertion_nodes, nodes, exerts, exerts_on_contract, completion_nodes, position_event_nodes, contract_event_nodes, event_nodes, named_nodes, trig_needs, act_needs, end_needs, needs_at, needs, nodes_in_order, order_of}
use Rattle.sy_core.specs.Dependence.{exertions, completion_reads, contract_ends, contract_reads, position_reads, reads_of, reads, duty_reads}
use Rattle.sy_core.specs.EventOrder.{end_events, end_events_of, obligation_ends, event_if, contract_events, does_to_contract, node_events, acts, none_acts, events_of_nodes, event_order}
use Rattle.sy_core.proofs.Members.{Among}
use Rattle.sy_core.proofs.OrderLaw.{append_none, among_append}
use Rattle.sy_core.proofs.Listing.{and_left, and_right}
use Rattle.sy_core.proofs.Nodes.{among_left, among_right, InOrder, nodes_are_in_order, all_nodes, own_exertion}
use Rattle.sy_core.proofs.EventHomes.{Home, At, After, Nowhere, home, node_home, event_there, contract_event_home, absent_at, absent_after, absent_nowhere}

-- members of lists that are made of others
pub in_flat : {X Y : Type 0} (f : X → List Y) (xs : List X) (y : Y) → Among (flat_map f xs) y → (x : X) × Among xs x × Among (f x) y
in_flat f [] y m = absurd m
in_flat f (x ∷ xs) y m =
    elim (among_append (f x) (flat_map f xs) y m) [
      | inl here ↦ (x, inl refl, here)
      | inr later ↦ let h = in_flat f xs y later in (h.0, inr h.1, h.2)
    ]

pub flat_in : {X Y : Type 0} (f : X → List Y) (xs : List X) (x : X) (y : Y) → Among xs x → Among (f x) y → Among (flat_map f xs) y
flat_in f [] x y m h = absurd m
flat_in f (z ∷ xs) x y (inl e) h = among_left (f z) (flat_map f xs) y (subst (λ w. Among (f w) y) (sym e) h)
flat_in f (z ∷ xs) x y (inr m) h = among_right (f z) (flat_map f xs) y (flat_in f xs x y m h)

pub kept_passes : {X : Type 0} (p : X → Bool) (xs : List X) (x : X) → Among (filter p xs) x → p x ≡ true
kept_passes p [] x m = absurd m
kept_passes p (z ∷ xs) x m = at (p z) refl (kept_passes p xs x) m
  where
    at : (b : Bool) → p z ≡ b → (Among (filter p xs) x → p x ≡ true) → Among (cond b (z ∷ filter p xs) (filter p xs)) x → p x ≡ true
    at true e later (inl same) = subst (λ w. p w ≡ true) same e
    at true e later (inr m) = later m
    at false e later m = later m

some_passes : {X : Type 0} (p : X → Bool) (xs : List X) (x : X) → Among xs x → p x ≡ true → list_any p xs ≡ true
some_passes p [] x m e = absurd m
some_passes p (z ∷ xs) x (inl same) e = ap (λ b. b || list_any p xs) (subst (λ w. p w ≡ true) (sym same) e)
some_passes p (z ∷ xs) x (inr m) e = ap (λ b. p z || b) (some_passes p xs x m e) ∙ or_true (p z)
  where
    or_true : (b : Bool) → (b || true) ≡ true
    or_true true = refl
    or_true false = refl

-- exertions of positions that pass a test
module _ (test : Position → Bool) where
  abbrev passing : ℕ → List Position → List (ℕ × Position)
  passing j ps = filter (λ n. test n.1) (enumerate_from j ps)

  abbrev ExertedAt : ℕ → List Position → InternalEvent → Type 0
  ExertedAt j ps d = (i : ℕ) × (p : Position) × (slice_get ps i ≡ Some p) × (test p ≡ true) × ((Exerted, T.Position (j + i)) ≡ d)

  one_further : (j : ℕ) (p : Position) (ps : List Position) (d : InternalEvent) → ExertedAt (j + 1) ps d → ExertedAt j (p ∷ ps) d
  one_further j p ps d h =
      let e : (j + 1) + h.0 ≡ j + suc h.0 = omega arith in
      (suc h.0, h.1, h.2, h.3, subst (λ k. (Exerted, T.Position k) ≡ d) e h.4)

  exerted_passes : (j : ℕ) (ps : List Position) (d : InternalEvent) → Among (map (λ n. (Exerted, T.Position n.0)) (passing j ps)) d → ExertedAt j ps d
  exerted_passes j [] d m = absurd m
  exerted_passes j (p ∷ ps) d m = at (test p) refl (exerted_passes (j + 1) ps d) m
    where
      at : (b : Bool) → test p ≡ b → (Among (map (λ n. (Exerted, T.Position n.0)) (passing (j + 1) ps)) d → ExertedAt (j + 1) ps d) → Among (map (λ n. (Exerted, T.Position n.0)) (cond b ((j, p) ∷ passing (j + 1) ps) (passing (j + 1) ps))) d → ExertedAt j (p ∷ ps) d
      at true e later (inl same) = let z : j ≡ j + 0 = omega arith in (zero, p, refl, e, subst (λ k. (Exerted, T.Position k) ≡ d) z same)
      at true e later (inr m) = one_further j p ps d (later m)
      at false e later m = one_further j p ps d (later m)

  passes_exert : (j : ℕ) (ps : List Position) (i : ℕ) (p : Position) → slice_get ps i ≡ Some p → test p ≡ true → Among (exertion_nodes (passing j ps)) (Exert (j + i))
  passes_exert j [] i p is e = cc
  passes_exert j (x ∷ ps) zero p is e =
      let same : x ≡ p = cc in
      let z : j ≡ j + 0 = omega arith in
      subst (λ b. Among (exertion_nodes (cond b ((j, x) ∷ passing (j + 1) ps) (passing (j + 1) ps))) (Exert (j + 0))) (sym (ap test same ∙ e)) (inl (ap Exert z))
  passes_exert j (x ∷ ps) (suc i) p is e =
      let z : (j + 1) + i ≡ j + suc i = omega arith in
      at (test x) (subst (λ k. Among (exertion_nodes (passing (j + 1) ps)) (Exert k)) z (passes_exert (j + 1) ps i p is e))
    where
      at : (b : Bool) → Among (exertion_nodes (passing (j + 1) ps)) (Exert (j + suc i)) → Among (exertion_nodes (cond b ((j, x) ∷ passing (j + 1) ps) (passing (j + 1) ps))) (Exert (j + suc i))
      at true m = inr m
      at false m = m

-- the node of each exertion
exertion_node : (ns : List (ℕ × Position)) (d : InternalEvent) → Among (map (λ n. (Exerted, T.Position n.0)) ns) d → (q : ℕ) × ((Exerted, T.Position q) ≡ d) × Among (exertion_nodes ns) (Exert q)
exertion_node [] d m = absurd m
exertion_node (n ∷ ns) d (inl e) = (n.0, e, inl refl)
exertion_node (n ∷ ns) d (inr m) = let h = exertion_node ns d m in (h.0, h.1, inr h.2)

on_contract : (verb : Verb) (goal : Goal) → is_act verb T.Contract goal ≡ true → acts_on_contract goal ≡ true
on_contract verb (G.Act act) h = and_right _ _ h
on_contract verb (G.Duty consequent) h = cc

module _ (deed : Deed) where
  -- an exertion that does something to the contract is one of those that do
  acts_exerts : (verb : Verb) (n : Node) → acts deed verb n ≡ true → Among (exerts deed verb T.Contract) n
  acts_exerts verb (Exert i) h = at (slice_get deed.positions i) refl h
    where
      at : (o : Option Position) → slice_get deed.positions i ≡ o → does_to_contract verb o ≡ true → Among (exerts deed verb T.Contract) (Exert i)
      at None is h = cc
      at (Some p) is h = let z : 0 + i ≡ i = omega arith in subst (λ k. Among (exerts deed verb T.Contract) (Exert k)) z (passes_exert (λ p. is_act verb T.Contract p.goal) 0 deed.positions i p is h)
  acts_exerts verb (Trig i) h = cc
  acts_exerts verb (Act i) h = cc
  acts_exerts verb (End i) h = cc
  acts_exerts verb Contract h = cc

  acts_on : (verb : Verb) (n : Node) → acts deed verb n ≡ true → Among (exerts_on_contract deed) n
  acts_on verb (Exert i) h = at (slice_get deed.positions i) refl h
    where
      at : (o : Option Position) → slice_get deed.positions i ≡ o → does_to_contract verb o ≡ true → Among (exerts_on_contract deed) (Exert i)
      at None is h = cc
      at (Some p) is h = let z : 0 + i ≡ i = omega arith in subst (λ k. Among (exerts_on_contract deed) (Exert k)) z (passes_exert (λ p. acts_on_contract p.goal) 0 deed.positions i p is (on_contract verb p.goal h))
  acts_on verb (Trig i) h = cc
  acts_on verb (Act i) h = cc
  acts_on verb (End i) h = cc
  acts_on verb Contract h = cc

  -- and those that do are such
  exertion_acts : (verb : Verb) (d : InternalEvent) → Among (exertions deed verb T.Contract) d → (q : ℕ) × ((Exerted, T.Position q) ≡ d) × (acts deed verb (Exert q) ≡ true)
  exertion_acts verb d m =
      let h = exerted_passes (λ p. is_act verb T.Contract p.goal) 0 deed.positions d m in
      let z : 0 + h.0 ≡ h.0 = omega arith in
      (h.0, subst (λ k. (Exerted, T.Position k) ≡ d) z h.4, ap (does_to_contract verb) h.2 ∙ h.3)

  -- the nodes from one on, of which those that it needs are none
  module _ (block : List Node) (all : (m : Node) → Among block m → Among (nodes deed) m) where
    abbrev Before : Node → Type 0
    Before m = Among block m → ⊥

    -- the event stands not among those of these nodes
    abbrev Gone : InternalEvent → Type 0
    Gone d = Among (events_of_nodes deed block) d → ⊥

    gone_at : (d : InternalEvent) (m : Node) → home d ≡ At m → Before m → Gone d
    gone_at d m is out = absent_at deed block d m is out

    position_gone : (i : ℕ) (kind : Kind) → ((m : Node) → Among (position_event_nodes deed i kind) m → Before m) → Gone (kind, T.Position i)
    position_gone i Exerted h = gone_at _ (Exert i) refl (h (Exert i) (inl refl))
    position_gone i Triggered h = gone_at _ (Trig i) refl (h (Trig i) (inl refl))
    position_gone i Activated h = gone_at _ (Act i) refl (h (Act i) (inl refl))
    position_gone i Resumed h = gone_at _ (Act i) refl (h (Act i) (inl refl))
    position_gone i Suspended h = gone_at _ (Act i) refl (h (Act i) (inl refl))
    position_gone i Fulfilled h = gone_at _ (End i) refl (h (End i) (inl refl))
    position_gone i Violated h = gone_at _ (End i) refl (h (End i) (inl refl))
    position_gone i Expired h = gone_at _ (End i) refl (h (End i) (inl refl))
    position_gone i Discharged h = gone_at _ (End i) refl (h (End i) (inl refl))
    position_gone i Terminated h = gone_at _ (End i) refl (h (End i) (inl refl))
    position_gone i Completed h = absent_nowhere deed block _ refl

    contract_gone : (kind : Kind) → ((m : Node) → Among (contract_event_nodes deed kind) m → Before m) → Gone (kind, T.Contract)
    contract_gone Exerted h = absent_nowhere deed block _ refl
    contract_gone Triggered h = absent_nowhere deed block _ refl
    contract_gone Activated h = absent_nowhere deed block _ refl
    contract_gone Resumed h = absent_after deed block _ Verbs.Resumes refl (λ n a. h n (acts_exerts Verbs.Resumes n a))
    contract_gone Suspended h = absent_after deed block _ Verbs.Suspends refl (λ n a. h n (acts_exerts Verbs.Suspends n a))
    contract_gone Fulfilled h = absent_nowhere deed block _ refl
    contract_gone Violated h = absent_nowhere deed block _ refl
    contract_gone Expired h = absent_nowhere deed block _ refl
    contract_gone Discharged h = absent_nowhere deed block _ refl
    contract_gone Terminated h = absent_after deed block _ Verbs.Terminates refl (λ n a. h n (acts_exerts Verbs.Terminates n a))
    contract_gone Completed h = gone_at _ Contract refl (h Contract (inl refl))

    event_gone : (kind : Kind) (x : Target) → ((m : Node) → Among (event_nodes deed kind x) m → Before m) → Gone (kind, x)
    event_gone kind T.Contract h = contract_gone kind h
    event_gone kind (T.Position i) h = position_gone i kind h

    -- those that propositions name
    names_gone : (names : List InternalEvent) → ((m : Node) → Among (named_nodes deed names) m → Before m) → (d : InternalEvent) → Among names d → Gone d
    names_gone names h d a = event_gone d.0 d.1 (λ m need. h m (flat_in (λ event. event_nodes deed event.0 event.1) names d m a need))

    -- exertions
    exertions_gone : (verb : Verb) (x : Target) → ((m : Node) → Among (exerts deed verb x) m → Before m) → (d : InternalEvent) → Among (exertions deed verb x) d → Gone d
    exertions_gone verb x h d a =
        let e = exertion_node (powers_to deed verb x) d a in
        subst Gone e.1 (gone_at (Exerted, T.Position e.0) (Exert e.0) refl (h (Exert e.0) e.2))

    own_gone : (i : ℕ) (p : Position) → slice_get deed.positions i ≡ Some p → ((m : Node) → Among (own_exert p.form i) m → Before m) → Gone (Exerted, T.Position i)
    own_gone i p is h = gone_at _ (Exert i) refl (λ a. h (Exert i) (own_exertion deed i p is (all (Exert i) a)) a)

    -- one row each
    triggered_row : (i : ℕ) (o : Option Position) → ((m : Node) → Among (needs_at deed (trig_needs deed) i o) m → Before m) → (d : InternalEvent) → Among (reads_of deed i o Triggered) d → Gone d
    triggered_row i None h d a = absurd a
    triggered_row i (Some p) h d a =
        elim (among_append (names_of p.trigger) (exertions deed Verbs.Triggers (T.Position i)) d a) [
          | inl named ↦ names_gone (names_of p.trigger) (λ m need. h m (among_right (exerts deed Verbs.Triggers (T.Position i)) (named_nodes deed (names_of p.trigger)) m need)) d named
          | inr e ↦ exertions_gone Verbs.Triggers (T.Position i) (λ m need. h m (among_left (exerts deed Verbs.Triggers (T.Position i)) (named_nodes deed (names_of p.trigger)) m need)) d e
        ]

    module _ (i : ℕ) (p : Position) (is : slice_get deed.positions i ≡ Some p) (h : (m : Node) → Among (act_needs deed i p) m → Before m) where
      -- what it needs, up to each of its parts
      abbrev act_names_part : List Node
      act_names_part = Trig i ∷ named_nodes deed (names_of p.antecedent)

      abbrev suspends_part : List Node
      suspends_part = act_names_part ++ exerts deed Verbs.Suspends (T.Position i)

      abbrev resumes_part : List Node
      resumes_part = suspends_part ++ exerts deed Verbs.Resumes (T.Position i)

      in_resumes_part : (m : Node) → Among resumes_part m → Before m
      in_resumes_part m need = h m (among_left resumes_part (own_exert p.form i) m need)

      in_suspends_part : (m : Node) → Among suspends_part m → Before m
      in_suspends_part m need = in_resumes_part m (among_left suspends_part (exerts deed Verbs.Resumes (T.Position i)) m need)

      in_act_names : (m : Node) → Among act_names_part m → Before m
      in_act_names m need = in_suspends_part m (among_left act_names_part (exerts deed Verbs.Suspends (T.Position i)) m need)

      act_suspends : (m : Node) → Among (exerts deed Verbs.Suspends (T.Position i)) m → Before m
      act_suspends m need = in_suspends_part m (among_right act_names_part (exerts deed Verbs.Suspends (T.Position i)) m need)

      act_resumes : (m : Node) → Among (exerts deed Verbs.Resumes (T.Position i)) m → Before m
      act_resumes m need = in_resumes_part m (among_right suspends_part (exerts deed Verbs.Resumes (T.Position i)) m need)

      act_own : (m : Node) → Among (own_exert p.form i) m → Before m
      act_own m need = h m (among_right resumes_part (own_exert p.form i) m need)

      activated_row : (d : InternalEvent) → Among (position_reads deed i p Activated) d → Gone d
      activated_row d (inl e) = subst Gone e (gone_at _ (Trig i) refl (in_act_names (Trig i) (inl refl)))
      activated_row d (inr a) = names_gone (names_of p.antecedent) (λ m need. in_act_names m (inr need)) d a

      resumed_row : (d : InternalEvent) → Among (position_reads deed i p Resumed) d → Gone d
      resumed_row d a = exertions_gone Verbs.Resumes (T.Position i) act_resumes d a

      suspended_row : (d : InternalEvent) → Among (position_reads deed i p Suspended) d → Gone d ⊎ Among ((Activated, T.Position i) ∷ (Resumed, T.Position i) ∷ []) d
      suspended_row d (inl e) = inr (inl e)
      suspended_row d (inr (inl e)) = inr (inr (inl e))
      suspended_row d (inr (inr (inl e))) = inl (subst Gone e (own_gone i p is act_own))
      suspended_row d (inr (inr (inr a))) = inl (exertions_gone Verbs.Suspends (T.Position i) act_suspends d a)

    module _ (i : ℕ) (p : Position) (is : slice_get deed.positions i ≡ Some p) (h : (m : Node) → Among (end_needs deed i p) m → Before m) where
      abbrev contract_exerts : List Node
      contract_exerts = if survives p.form then [] else exerts deed Verbs.Terminates T.Contract

      -- what it needs, up to each of its parts
      abbrev names_part : List Node
      names_part = (Trig i ∷ Act i ∷ named_nodes deed (names_of p.antecedent)) ++ named_nodes deed (names_of_duty p.goal)

      abbrev discharges_part : List Node
      discharges_part = names_part ++ exerts deed Verbs.Discharges (T.Position i)

      abbrev terminates_part : List Node
      terminates_part = discharges_part ++ exerts deed Verbs.Terminates (T.Position i)

      abbrev contract_part : List Node
      contract_part = terminates_part ++ contract_exerts

      in_contract_part : (m : Node) → Among contract_part m → Before m
      in_contract_part m need = h m (among_left contract_part (own_exert p.form i) m need)

      in_terminates_part : (m : Node) → Among terminates_part m → Before m
      in_terminates_part m need = in_contract_part m (among_left terminates_part contract_exerts m need)

      in_discharges_part : (m : Node) → Among discharges_part m → Before m
      in_discharges_part m need = in_terminates_part m (among_left discharges_part (exerts deed Verbs.Terminates (T.Position i)) m need)

      in_names_part : (m : Node) → Among names_part m → Before m
      in_names_part m need = in_discharges_part m (among_left names_part (exerts deed Verbs.Discharges (T.Position i)) m need)

      in_front : (m : Node) → Among (Trig i ∷ Act i ∷ named_nodes deed (names_of p.antecedent)) m → Before m
      in_front m need = in_names_part m (among_left (Trig i ∷ Act i ∷ named_nodes deed (names_of p.antecedent)) (named_nodes deed (names_of_duty p.goal)) m need)

      end_trig : Before (Trig i)
      end_trig = in_front (Trig i) (inl refl)

      end_act : Before (Act i)
      end_act = in_front (Act i) (inr (inl refl))

      end_antecedent : (m : Node) → Among (named_nodes deed (names_of p.antecedent)) m → Before m
      end_antecedent m need = in_front m (inr (inr need))

      end_duty : (m : Node) → Among (named_nodes deed (names_of_duty p.goal)) m → Before m
      end_duty m need = in_names_part m (among_right (Trig i ∷ Act i ∷ named_nodes deed (names_of p.antecedent)) (named_nodes deed (names_of_duty p.goal)) m need)

      end_discharges : (m : Node) → Among (exerts deed Verbs.Discharges (T.Position i)) m → Before m
      end_discharges m need = in_discharges_part m (among_right names_part (exerts deed Verbs.Discharges (T.Position i)) m need)

      end_terminates : (m : Node) → Among (exerts deed Verbs.Terminates (T.Position i)) m → Before m
      end_terminates m need = in_terminates_part m (among_right discharges_part (exerts deed Verbs.Terminates (T.Position i)) m need)

      end_contract : (m : Node) → Among contract_exerts m → Before m
      end_contract m need = in_contract_part m (among_right terminates_part contract_exerts m need)

      end_own : (m : Node) → Among (own_exert p.form i) m → Before m
      end_own m need = h m (among_right contract_part (own_exert p.form i) m need)

      created : Gone (Triggered, T.Position i)
      created = gone_at _ (Trig i) refl end_trig

      discharged_row : (d : InternalEvent) → Among (position_reads deed i p Discharged) d → Gone d
      discharged_row d (inl e) = subst Gone e created
      discharged_row d (inr a) = exertions_gone Verbs.Discharges (T.Position i) end_discharges d a

      ends_gone : (d : InternalEvent) → Among (contract_ends deed p.form) d → Gone d
      ends_gone d a = at (survives p.form) a end_contract
        where
          at : (b : Bool) → Among (if b then [] else exertions deed Verbs.Terminates T.Contract) d → ((m : Node) → Among (if b then [] else exerts deed Verbs.Terminates T.Contract) m → Before m) → Gone d
          at true a h = absurd a
          at false a h = exertions_gone Verbs.Terminates T.Contract h d a

      terminated_row : (d : InternalEvent) → Among (position_reads deed i p Terminated) d → Gone d
      terminated_row d (inl e) = subst Gone e created
      terminated_row d (inr (inl e)) = subst Gone e (own_gone i p is end_own)
      terminated_row d (inr (inr a)) =
          elim (among_append (exertions deed Verbs.Terminates (T.Position i)) (contract_ends deed p.form) d a) [
            | inl e ↦ exertions_gone Verbs.Terminates (T.Position i) end_terminates d e
            | inr e ↦ ends_gone d e
          ]

      expired_row : (d : InternalEvent) → Among (position_reads deed i p Expired) d → Gone d
      expired_row d (inl e) = subst Gone e created
      expired_row d (inr a) = names_gone (names_of p.antecedent) end_antecedent d a

      duty_row : (d : InternalEvent) → Among (duty_reads (T.Position i) ++ names_of_duty p.goal) d → Gone d ⊎ Among ((Discharged, T.Position i) ∷ (Terminated, T.Position i) ∷ []) d
      duty_row d (inl e) = inl (subst Gone e (gone_at _ (Act i) refl end_act))
      duty_row d (inr (inl e)) = inl (subst Gone e (gone_at _ (Act i) refl end_act))
      duty_row d (inr (inr (inl e))) = inl (subst Gone e (gone_at _ (Act i) refl end_act))
      duty_row d (inr (inr (inr (inl e)))) = inr (inl e)
      duty_row d (inr (inr (inr (inr (inl e))))) = inr (inr (inl e))
      duty_row d (inr (inr (inr (inr (inr a))))) = inl (names_gone (names_of_duty p.goal) end_duty d a)

    -- any event of an obligation whose nodes stand before
    any_gone : (i : ℕ) → Before (Trig i) → Before (Act i) → Before (End i) → (kind : Kind) → (kind ≡ Exerted → ⊥) → Gone (kind, T.Position i)
    any_gone i t a e Exerted other = absurd (other refl)
    any_gone i t a e Triggered other = gone_at _ (Trig i) refl t
    any_gone i t a e Activated other = gone_at _ (Act i) refl a
    any_gone i t a e Resumed other = gone_at _ (Act i) refl a
    any_gone i t a e Suspended other = gone_at _ (Act i) refl a
    any_gone i t a e Fulfilled other = gone_at _ (End i) refl e
    any_gone i t a e Violated other = gone_at _ (End i) refl e
    any_gone i t a e Expired other = gone_at _ (End i) refl e
    any_gone i t a e Discharged other = gone_at _ (End i) refl e
    any_gone i t a e Terminated other = gone_at _ (End i) refl e
    any_gone i t a e Completed other = absent_nowhere deed block _ refl

    not_exerted : (kind : Kind) → Among obligation_kinds kind → kind ≡ Exerted → ⊥
    not_exerted kind (inl e) is = let f = e ∙ is in cc
    not_exerted kind (inr (inl e)) is = let f = e ∙ is in cc
    not_exerted kind (inr (inr (inl e))) is = let f = e ∙ is in cc
    not_exerted kind (inr (inr (inr (inl e)))) is = let f = e ∙ is in cc
    not_exerted kind (inr (inr (inr (inr (inl e))))) is = let f = e ∙ is in cc
    not_exerted kind (inr (inr (inr (inr (inr (inl e)))))) is = let f = e ∙ is in cc
    not_exerted kind (inr (inr (inr (inr (inr (inr (inl e))))))) is = let f = e ∙ is in cc
    not_exerted kind (inr (inr (inr (inr (inr (inr (inr (inl e)))))))) is = let f = e ∙ is in cc
    not_exerted kind (inr (inr (inr (inr (inr (inr (inr (inr (inl e))))))))) is = let f = e ∙ is in cc
    not_exerted kind (inr (inr (inr (inr (inr (inr (inr (inr (inr none))))))))) is = none

    at_kind : (kinds : List Kind) (x : Target) (d : InternalEvent) → Among (events_at kinds x) d → (kind : Kind) × Among kinds kind × ((kind, x) ≡ d)
    at_kind [] x d m = absurd m
    at_kind (kind ∷ kinds) x d (inl e) = (kind, inl refl, e)
    at_kind (kind ∷ kinds) x d (inr m) = let h = at_kind kinds x d m in (h.0, inr h.1, h.2)

    of_obligation : (form : Form) → is_obligation form ≡ true → (kind : Kind) → Among (kinds_of form) kind → Among obligation_kinds kind
    of_obligation Obligation is kind m = m
    of_obligation Surviving is kind m = m
    of_obligation Power is kind m = cc

    obligation_gone : (n : ℕ × Position) → is_obligation n.1.form ≡ true → ((m : Node) → Among (obligation_nodes n.0) m → Before m) → (d : InternalEvent) → Among (events_of_position n) d → Gone d
    obligation_gone n is h d a =
        let k = at_kind (kinds_of n.1.form) (T.Position n.0) d a in
        subst Gone k.2 (any_gone n.0 (h (Trig n.0) (inl refl)) (h (Act n.0) (inr (inl refl))) (h (End n.0) (inr (inr (inl refl)))) k.0 (not_exerted k.0 (of_obligation n.1.form is k.0 k.1)))

    awaited_is_obligation : (form : Form) → is_awaited form ≡ true → is_obligation form ≡ true
    awaited_is_obligation Obligation is = refl
    awaited_is_obligation Surviving is = cc
    awaited_is_obligation Power is = cc

    completion_row : ((m : Node) → Among (completion_nodes deed) m → Before m) → (d : InternalEvent) → Among (completion_reads deed) d → Gone d
    completion_row h d a =
        let n = in_flat (λ n. events_of_position n ++ flat_map events_of_position (remedies_of deed (T.Position n.0))) (awaited deed) d a in
        let own : (m : Node) → Among (obligation_nodes n.0.0 ++ flat_map (λ remedy. obligation_nodes remedy.0) (remedies_of deed (T.Position n.0.0))) m → Before m =
        λ m need. h m (flat_in (λ n. obligation_nodes n.0 ++ flat_map (λ remedy. obligation_nodes remedy.0) (remedies_of deed (T.Position n.0))) (awaited deed) n.0 m n.1 need) in
        elim (among_append (events_of_position n.0) (flat_map events_of_position (remedies_of deed (T.Position n.0.0))) d n.2) [
          | inl here ↦ obligation_gone n.0 (awaited_is_obligation n.0.1.form (kept_passes (λ n. is_awaited n.1.form) (numbered deed) n.0 n.1)) (λ m need. own m (among_left (obligation_nodes n.0.0) (flat_map (λ remedy. obligation_nodes remedy.0) (remedies_of deed (T.Position n.0.0))) m need)) d here
          | inr there ↦
              let r = in_flat events_of_position (remedies_of deed (T.Position n.0.0)) d there in
              obligation_gone r.0 (and_left (is_obligation r.0.1.form) _ (kept_passes (λ k. is_remedy (T.Position n.0.0) k.1) (numbered deed) r.0 r.1))
              (λ m need. own m (among_right (obligation_nodes n.0.0) (flat_map (λ remedy. obligation_nodes remedy.0) (remedies_of deed (T.Position n.0.0))) m (flat_in (λ remedy. obligation_nodes remedy.0) (remedies_of deed (T.Position n.0.0)) r.0 m r.1 need))) d r.2
        ]

    completed_row : ((m : Node) → Among (needs deed Contract) m → Before m) → (d : InternalEvent) → Among (reads deed Completed T.Contract) d → Gone d
    completed_row h d (inl e) = subst Gone e (absent_after deed block _ Verbs.Suspends refl (λ n a. h n (among_left (exerts_on_contract deed) (completion_nodes deed) n (acts_on Verbs.Suspends n a))))
    completed_row h d (inr (inl e)) = subst Gone e (absent_after deed block _ Verbs.Terminates refl (λ n a. h n (among_left (exerts_on_contract deed) (completion_nodes deed) n (acts_on Verbs.Terminates n a))))
    completed_row h d (inr (inr a)) = completion_row (λ m need. h m (among_right (exerts_on_contract deed) (completion_nodes deed) m need)) d a

  -- none of those that an event's condition looks at stands behind it, where some events follow
  abbrev ClearBefore : List InternalEvent → List InternalEvent → Type 0
  ClearBefore rest [] = Unit {0}
  ClearBefore rest (e ∷ es) = ((d : InternalEvent) → Among (reads deed e.0 e.1) d → Among ((e ∷ es) ++ rest) d → ⊥) × ClearBefore rest es

  -- nor where none does
  abbrev pub Clear : List InternalEvent → Type 0
  Clear [] = Unit {0}
  Clear (e ∷ es) = ((d : InternalEvent) → Among (reads deed e.0 e.1) d → Among (e ∷ es) d → ⊥) × Clear es

  clear_append : (xs ys : List InternalEvent) → ClearBefore ys xs → Clear ys → Clear (xs ++ ys)
  clear_append [] ys h k = k
  clear_append (x ∷ xs) ys h k = (h.0, clear_append xs ys h.1 k)

  clear_both : (xs ys rest : List InternalEvent) → ClearBefore (ys ++ rest) xs → ClearBefore rest ys → ClearBefore rest (xs ++ ys)
  clear_both [] ys rest h k = k
  clear_both (x ∷ xs) ys rest h k = (λ d read a. h.0 d read (subst (λ l. Among l d) (append_assoc (x ∷ xs) ys rest) a), clear_both xs ys rest h.1 k)

  module _ (n : Node) (later : List Node) (ordered : InOrder deed (n ∷ later)) (all : (m : Node) → Among (n ∷ later) m → Among (nodes deed) m) where
    abbrev passes : Verb → Bool
    passes verb = acts deed verb n && none_acts deed later verb

    abbrev behind : List InternalEvent
    behind = contract_events passes ++ events_of_nodes deed later

    abbrev Past : InternalEvent → Type 0
    Past d = Gone (n ∷ later) all d

    -- those of the node, where each looks at what is past, or at what stands before it in the node alone
    abbrev Local : List InternalEvent → List InternalEvent → Type 0
    Local past [] = Unit {0}
    Local past (e ∷ es) = ((d : InternalEvent) → Among (reads deed e.0 e.1) d → Past d ⊎ (Among past d × (Among (e ∷ es) d → ⊥))) × Local (past ++ e ∷ []) es

    not_behind : (d : InternalEvent) → home d ≡ At n → Among behind d → ⊥
    not_behind d is a =
        elim (among_append (contract_events passes) (events_of_nodes deed later) d a) [
          | inl c ↦ let h = contract_event_home passes d c in let f = sym is ∙ h.1 in cc
          | inr rest ↦ absent_at deed later d n is ordered.1 rest
        ]

    local_clear : (past es : List InternalEvent) → past ++ es ≡ node_events deed n → Local past es → ClearBefore behind es
    local_clear past [] same h = tt
    local_clear past (e ∷ es) same h = (
      λ d read a. elim (h.0 d read) [
        | inl gone ↦ gone (subst (λ l. Among (l ++ behind) d) same (subst (λ l. Among l d) (sym (append_assoc past (e ∷ es) behind)) (among_right past ((e ∷ es) ++ behind) d a)))
        | inr own ↦ elim (among_append (e ∷ es) behind d a) [
          | inl here ↦ own.1 here
          | inr rest ↦ not_behind d (node_home deed n d (subst (λ l. Among l d) same (among_left past (e ∷ es) d own.0))) rest
        ]
      ],
      local_clear (past ++ e ∷ []) es (append_assoc past (e ∷ []) es ∙ same) h.1,
    )

  -- of two events of one target, those of different kinds differ
  apart : (k l : Kind) (x : Target) (d : InternalEvent) → (k ≡ l → ⊥) → (k, x) ≡ d → (l, x) ≡ d → ⊥
  apart k l x d other e f = other (ap (λ y. y.0) (e ∙ sym f))

  -- the events of the node by which a position comes into effect
  module _ (i : ℕ) (later : List Node) (ordered : InOrder deed (Act i ∷ later)) (all : (m : Node) → Among (Act i ∷ later) m → Among (nodes deed) m) where
    abbrev ActRow : Option Position → Kind → List InternalEvent → List InternalEvent → Type 0
    ActRow o kind past rest = (d : InternalEvent) → Among (reads_of deed i o kind) d → Past (Act i) later ordered all d ⊎ (Among past d × (Among rest d → ⊥))

    abbrev x : Target
    x = T.Position i

    not_last : (d : InternalEvent) → Among ((Activated, x) ∷ (Resumed, x) ∷ []) d → Among ((Suspended, x) ∷ []) d → ⊥
    not_last d (inl e) (inl f) = apart Activated Suspended x d (λ k. cc) e f
    not_last d (inr (inl e)) (inl f) = apart Resumed Suspended x d (λ k. cc) e f
    not_last d (inr (inr none)) m = none
    not_last d m (inr none) = none

    act_rows : (o : Option Position) → slice_get deed.positions i ≡ o → ((m : Node) → Among (needs_at deed (act_needs deed) i o) m → Among (Act i ∷ later) m → ⊥)
        → ActRow o Activated [] ((Activated, x) ∷ (Resumed, x) ∷ (Suspended, x) ∷ [])
        × (ActRow o Resumed ((Activated, x) ∷ []) ((Resumed, x) ∷ (Suspended, x) ∷ [])
        × (ActRow o Suspended ((Activated, x) ∷ (Resumed, x) ∷ []) ((Suspended, x) ∷ [])
        × Unit {0}))
    act_rows None is h = (λ d m. absurd m, (λ d m. absurd m, (λ d m. absurd m, tt)))
    act_rows (Some p) is h = (
      λ d m. inl (activated_row (Act i ∷ later) all i p is h d m),
      (
        λ d m. inl (resumed_row (Act i ∷ later) all i p is h d m),
        (λ d m. elim (suspended_row (Act i ∷ later) all i p is h d m) [ inl gone ↦ inl gone | inr own ↦ inr (own, not_last d own) ], tt),
      ),
    )

  -- the events of the node by which a position ends
  module _ (i : ℕ) (later : List Node) (ordered : InOrder deed (End i ∷ later)) (all : (m : Node) → Among (End i ∷ later) m → Among (nodes deed) m) where
    abbrev y : Target
    y = T.Position i

    not_own_end : (d : InternalEvent) → Among ((Discharged, y) ∷ (Terminated, y) ∷ []) d → Among ((Fulfilled, y) ∷ (Violated, y) ∷ []) d → ⊥
    not_own_end d (inl e) (inl f) = apart Discharged Fulfilled y d (λ k. cc) e f
    not_own_end d (inl e) (inr (inl f)) = apart Discharged Violated y d (λ k. cc) e f
    not_own_end d (inr (inl e)) (inl f) = apart Terminated Fulfilled y d (λ k. cc) e f
    not_own_end d (inr (inl e)) (inr (inl f)) = apart Terminated Violated y d (λ k. cc) e f
    not_own_end d (inr (inr none)) m = none
    not_own_end d m (inr (inr none)) = none

    among_more : (d : InternalEvent) (more : List InternalEvent) → Among ((Discharged, y) ∷ (Terminated, y) ∷ []) d → Among ((Discharged, y) ∷ (Terminated, y) ∷ more) d
    among_more d more (inl e) = inl e
    among_more d more (inr (inl e)) = inr (inl e)
    among_more d more (inr (inr none)) = absurd none

    module _ (p : Position) (is : slice_get deed.positions i ≡ Some p) (h : (m : Node) → Among (end_needs deed i p) m → Among (End i ∷ later) m → ⊥) where
      read_at : (kind : Kind) (d : InternalEvent) → Among (reads deed kind y) d → Among (position_reads deed i p kind) d
      read_at kind d m = subst (λ o. Among (reads_of deed i o kind) d) is m

      obligation_local : Local (End i) later ordered all [] (obligation_ends y)
      obligation_local = (
        λ d m. inl (discharged_row (End i ∷ later) all i p is h d (read_at Discharged d m)),
        (
          λ d m. inl (terminated_row (End i ∷ later) all i p is h d (read_at Terminated d m)),
          (
            λ d m. inl (expired_row (End i ∷ later) all i p is h d (read_at Expired d m)),
            (
              λ d m. elim (duty_row (End i ∷ later) all i p is h d (read_at Fulfilled d m)) [ inl gone ↦ inl gone | inr own ↦ inr (among_more d ((Expired, y) ∷ []) own, not_own_end d own) ],
              (
                λ d m. elim (duty_row (End i ∷ later) all i p is h d (read_at Violated d m)) [ inl gone ↦ inl gone | inr own ↦ inr (among_more d ((Expired, y) ∷ (Fulfilled, y) ∷ []) own, λ a. not_own_end d own (inr a)) ],
                tt,
              ),
            ),
          ),
        ),
      )

      form_local : (form : Form) → Local (End i) later ordered all [] (end_events y form)
      form_local Obligation = obligation_local
      form_local Surviving = obligation_local
      form_local Power = (
        λ d m. inl (terminated_row (End i ∷ later) all i p is h d (read_at Terminated d m)),
        (λ d m. inl (expired_row (End i ∷ later) all i p is h d (read_at Expired d m)), tt),
      )

    end_local : (o : Option Position) → slice_get deed.positions i ≡ o → ((m : Node) → Among (needs_at deed (end_needs deed) i o) m → Among (End i ∷ later) m → ⊥) → Local (End i) later ordered all [] (end_events_of y o)
    end_local None is h = tt
    end_local (Some p) is h = form_local p is h p.form

  no_reads : (i : ℕ) (o : Option Position) (d : InternalEvent) → Among (reads_of deed i o Exerted) d → ⊥
  no_reads i None d m = m
  no_reads i (Some p) d m = m

  -- the events of each node
  local_events : (n : Node) (later : List Node) (ordered : InOrder deed (n ∷ later)) (all : (m : Node) → Among (n ∷ later) m → Among (nodes deed) m) → Local n later ordered all [] (node_events deed n)
  local_events (Exert i) later ordered all = (λ d read. absurd (no_reads i (slice_get deed.positions i) d read), tt)
  local_events (Trig i) later ordered all = (λ d read. inl (triggered_row (Trig i ∷ later) all i (slice_get deed.positions i) ordered.0 d read), tt)
  local_events (Act i) later ordered all = act_rows i later ordered all (slice_get deed.positions i) refl ordered.0
  local_events (End i) later ordered all = end_local i later ordered all (slice_get deed.positions i) refl ordered.0
  local_events Contract later ordered all = (λ d read. inl (completed_row (Contract ∷ later) all ordered.0 d read), tt)

  -- the contract's events without a node, where their exertions don't come later
  if_clear : (rest : List InternalEvent) (kind : Kind) (verb : Verb) (b : Bool) → (reads deed kind T.Contract ≡ exertions deed verb T.Contract) → (Exerted ≡ kind → ⊥) → (b ≡ true → (d : InternalEvent) → Among (exertions deed verb T.Contract) d → Among rest d → ⊥) → ClearBefore rest (event_if b kind)
  if_clear rest kind verb false is other h = tt
  if_clear rest kind verb true is other h = (
    λ d read a.
        let m = subst (λ l. Among l d) is read in
        elim a [
          | inl e ↦ let x = exertion_acts verb d m in other (ap (λ y. y.0) (x.1 ∙ sym e))
          | inr a ↦ h refl d m a
        ],
    tt,
  )

  module _ (rest : List Node) (p : Verb → Bool) (none : (verb : Verb) → p verb ≡ true → none_acts deed rest verb ≡ true) where
    past_exertion : (verb : Verb) → p verb ≡ true → (d : InternalEvent) → Among (exertions deed verb T.Contract) d → Among (events_of_nodes deed rest) d → ⊥
    past_exertion verb e d m a =
        let x = exertion_acts verb d m in
        absent_at deed rest d (Exert x.0) (sym (ap home x.1))
        (λ in_rest. let some = some_passes (acts deed verb) rest (Exert x.0) in_rest x.2 in let no = none verb e in clash (list_any (acts deed verb) rest) some no) a
      where
        clash : (b : Bool) → b ≡ true → not b ≡ true → ⊥
        clash true e f = cc
        clash false e f = cc

    no_exertion : (b : Bool) (kind : Kind) (d : InternalEvent) → (verb : Verb) → Among (exertions deed verb T.Contract) d → (Exerted ≡ kind → ⊥) → Among (event_if b kind) d → ⊥
    no_exertion b kind d verb m other a = let x = exertion_acts verb d m in let y = event_there b kind d a in other (ap (λ z. z.0) (x.1 ∙ sym y.1))

    contract_clear : ClearBefore (events_of_nodes deed rest) (contract_events p)
    contract_clear =
        clear_both (event_if (p Verbs.Resumes) Resumed) (event_if (p Verbs.Suspends) Suspended ++ event_if (p Verbs.Terminates) Terminated) (events_of_nodes deed rest)
        (if_clear ((event_if (p Verbs.Suspends) Suspended ++ event_if (p Verbs.Terminates) Terminated) ++ events_of_nodes deed rest) Resumed Verbs.Resumes (p Verbs.Resumes) refl (λ e. cc)
        (λ e d m a. elim (among_append (event_if (p Verbs.Suspends) Suspended ++ event_if (p Verbs.Terminates) Terminated) (events_of_nodes deed rest) d a) [
          | inl c ↦ elim (among_append (event_if (p Verbs.Suspends) Suspended) (event_if (p Verbs.Terminates) Terminated) d c) [
            | inl s ↦ no_exertion (p Verbs.Suspends) Suspended d Verbs.Resumes m (λ e. cc) s
            | inr t ↦ no_exertion (p Verbs.Terminates) Terminated d Verbs.Resumes m (λ e. cc) t
          ]
          | inr r ↦ past_exertion Verbs.Resumes e d m r
        ]))
        (clear_both (event_if (p Verbs.Suspends) Suspended) (event_if (p Verbs.Terminates) Terminated) (events_of_nodes deed rest)
        (if_clear (event_if (p Verbs.Terminates) Terminated ++ events_of_nodes deed rest) Suspended Verbs.Suspends (p Verbs.Suspends) refl (λ e. cc)
        (λ e d m a. elim (among_append (event_if (p Verbs.Terminates) Terminated) (events_of_nodes deed rest) d a) [
          | inl t ↦ no_exertion (p Verbs.Terminates) Terminated d Verbs.Suspends m (λ e. cc) t
          | inr r ↦ past_exertion Verbs.Suspends e d m r
        ]))
        (if_clear (events_of_nodes deed rest) Terminated Verbs.Terminates (p Verbs.Terminates) refl (λ e. cc) (λ e d m a. past_exertion Verbs.Terminates e d m a)))

  nodes_clear : (ns : List Node) → InOrder deed ns → ((m : Node) → Among ns m → Among (nodes deed) m) → Clear (events_of_nodes deed ns)
  nodes_clear [] ordered all = tt
  nodes_clear (n ∷ later) ordered all =
      clear_append (node_events deed n) (behind n later ordered all) (local_clear n later ordered all [] (node_events deed n) refl (local_events n later ordered all))
      (clear_append (contract_events (passes n later ordered all)) (events_of_nodes deed later)
      (contract_clear later (passes n later ordered all) (λ verb e. and_right (acts deed verb n) (none_acts deed later verb) e))
      (nodes_clear later ordered.2 (λ m a. all m (inr a))))

  -- none of those that an event's condition looks at stands from it on
  pub order_is_clear : Clear (event_order deed)
  order_is_clear =
      clear_append (contract_events (none_acts deed (nodes_in_order deed))) (events_of_nodes deed (nodes_in_order deed))
      (contract_clear (nodes_in_order deed) (none_acts deed (nodes_in_order deed)) (λ verb e. e))
      (nodes_clear (nodes_in_order deed) (nodes_are_in_order deed) (all_nodes deed (order_of deed)))

  pub clear_from : (earlier later : List InternalEvent) → Clear (earlier ++ later) → Clear later
  clear_from [] later h = h
  clear_from (e ∷ earlier) later h = clear_from earlier later h.1
