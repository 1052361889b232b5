-- Where an internal event can stand in the order of events: among those of one node, or behind exertions.
use Rattle.std.proofs.Common.{◌≡◌, ℕ, Bool, true, false, ◌&&◌, if◌then◌else◌, List, [], ◌∷◌, ◌++◌, ◌⊎◌, inl, inr, Option, Some, None, slice_get, refl, sym, ◌∙◌, ap, subst}
use Rattle.sy_words.specs.declared.kind.Kind.{Kind}
use Rattle.sy_words.specs.declared.kind.Kind.TheVariants.{Exerted, Triggered, Activated, Resumed, Suspended, Fulfilled, Violated, Expired, Discharged, Terminated, Completed}
use Rattle.sy_words.specs.declared.form.Form.{Form}
use Rattle.sy_words.specs.declared.form.Form.TheVariants.{Obligation, Surviving, Power}
use Rattle.sy_words.specs.declared.verb.Verb.{Verb}
use Rattle.sy_words.specs.declared.verb.Verb.TheVariants as Verbs
use Rattle.sy_core.specs.declared.kind.Target.{Target}
use Rattle.sy_core.specs.declared.kind.Target.TheVariants as T
use Rattle.sy_core.specs.declared.position.Position.{Position}
use Rattle.sy_core.specs.declared.deed.Deed.{Deed}
use Rattle.sy_core.specs.Mentions.{InternalEvent}
use Rattle.sy_core.specs.Prerequisites.{Node, Exert, Trig, Act, End, Contract}
use Rattle.sy_core.specs.EventOrder.{obligation_ends, end_events, end_events_of, event_if, contract_events, node_events, acts, none_acts, events_of_nodes}
use Rattle.sy_core.proofs.Members.{Among}
use Rattle.sy_core.proofs.OrderLaw.{among_append}
use Rattle.sy_core.proofs.Listing.{and_left}
use Rattle.sy_core.proofs.Nodes.{among_left, among_right}

-- among the events of a node, behind exertions that do this to the contract, or nowhere
pub data Home : Type 0 where
  At : Node → Home
  After : Verb → Home
  Nowhere : Home

abbrev pub position_home : ℕ → Kind → Home
position_home i Exerted = At (Exert i)
position_home i Triggered = At (Trig i)
position_home i Activated = At (Act i)
position_home i Resumed = At (Act i)
position_home i Suspended = At (Act i)
position_home i Fulfilled = At (End i)
position_home i Violated = At (End i)
position_home i Expired = At (End i)
position_home i Discharged = At (End i)
position_home i Terminated = At (End i)
position_home i Completed = Nowhere

abbrev pub contract_home : Kind → Home
contract_home Exerted = Nowhere
contract_home Triggered = Nowhere
contract_home Activated = Nowhere
contract_home Resumed = After Verbs.Resumes
contract_home Suspended = After Verbs.Suspends
contract_home Fulfilled = Nowhere
contract_home Violated = Nowhere
contract_home Expired = Nowhere
contract_home Discharged = Nowhere
contract_home Terminated = After Verbs.Terminates
contract_home Completed = At Contract

abbrev pub home_of : Kind → Target → Home
home_of kind T.Contract = contract_home kind
home_of kind (T.Position i) = position_home i kind

abbrev pub home : InternalEvent → Home
home e = home_of e.0 e.1

-- the events of a node have it as their home
ends_home : (i : ℕ) (d : InternalEvent) → Among (obligation_ends (T.Position i)) d → home d ≡ At (End i)
ends_home i d (inl e) = sym (ap home e)
ends_home i d (inr (inl e)) = sym (ap home e)
ends_home i d (inr (inr (inl e))) = sym (ap home e)
ends_home i d (inr (inr (inr (inl e)))) = sym (ap home e)
ends_home i d (inr (inr (inr (inr (inl e))))) = sym (ap home e)
ends_home i d (inr (inr (inr (inr (inr none))))) = absurd none

end_home : (form : Form) (i : ℕ) (d : InternalEvent) → Among (end_events (T.Position i) form) d → home d ≡ At (End i)
end_home Obligation i d m = ends_home i d m
end_home Surviving i d m = ends_home i d m
end_home Power i d (inl e) = sym (ap home e)
end_home Power i d (inr (inl e)) = sym (ap home e)
end_home Power i d (inr (inr none)) = absurd none

end_home_of : (o : Option Position) (i : ℕ) (d : InternalEvent) → Among (end_events_of (T.Position i) o) d → home d ≡ At (End i)
end_home_of None i d m = absurd m
end_home_of (Some p) i d m = end_home p.form i d m

module _ (deed : Deed) where
  pub node_home : (n : Node) (d : InternalEvent) → Among (node_events deed n) d → home d ≡ At n
  node_home (Exert i) d (inl e) = sym (ap home e)
  node_home (Exert i) d (inr none) = absurd none
  node_home (Trig i) d (inl e) = sym (ap home e)
  node_home (Trig i) d (inr none) = absurd none
  node_home (Act i) d (inl e) = sym (ap home e)
  node_home (Act i) d (inr (inl e)) = sym (ap home e)
  node_home (Act i) d (inr (inr (inl e))) = sym (ap home e)
  node_home (Act i) d (inr (inr (inr none))) = absurd none
  node_home (End i) d m = end_home_of (slice_get deed.positions i) i d m
  node_home Contract d (inl e) = sym (ap home e)
  node_home Contract d (inr none) = absurd none

-- an event that stands where something says so
pub event_there : (b : Bool) (kind : Kind) (d : InternalEvent) → Among (event_if b kind) d → (b ≡ true) × ((kind, T.Contract) ≡ d)
event_there true kind d (inl e) = (refl, e)
event_there true kind d (inr none) = absurd none
event_there false kind d none = absurd none

pub contract_event_home : (passes : Verb → Bool) (d : InternalEvent) → Among (contract_events passes) d → (v : Verb) × (home d ≡ After v) × (passes v ≡ true)
contract_event_home passes d m =
    elim (among_append (event_if (passes Verbs.Resumes) Resumed) (event_if (passes Verbs.Suspends) Suspended ++ event_if (passes Verbs.Terminates) Terminated) d m) [
      | inl a ↦ let h = event_there (passes Verbs.Resumes) Resumed d a in (Verbs.Resumes, sym (ap home h.1), h.0)
      | inr m ↦ elim (among_append (event_if (passes Verbs.Suspends) Suspended) (event_if (passes Verbs.Terminates) Terminated) d m) [
        | inl a ↦ let h = event_there (passes Verbs.Suspends) Suspended d a in (Verbs.Suspends, sym (ap home h.1), h.0)
        | inr a ↦ let h = event_there (passes Verbs.Terminates) Terminated d a in (Verbs.Terminates, sym (ap home h.1), h.0)
      ]
    ]

module _ (deed : Deed) where
  -- an event that stands among those of some nodes has one of them as its home, or is of the contract and one of them does it
  node_in : (ns : List Node) (d : InternalEvent) → Among (events_of_nodes deed ns) d → (n : Node) × Among ns n × ((home d ≡ At n) ⊎ ((v : Verb) × (home d ≡ After v) × (acts deed v n ≡ true)))
  node_in [] d m = absurd m
  node_in (n ∷ later) d m =
      elim (among_append (node_events deed n) (contract_events (λ verb. acts deed verb n && none_acts deed later verb) ++ events_of_nodes deed later) d m) [
        | inl own ↦ (n, inl refl, inl (node_home deed n d own))
        | inr m ↦ elim (among_append (contract_events (λ verb. acts deed verb n && none_acts deed later verb)) (events_of_nodes deed later) d m) [
          | inl c ↦ let h = contract_event_home (λ verb. acts deed verb n && none_acts deed later verb) d c in (n, inl refl, inr (h.0, h.1, and_left (acts deed h.0 n) (none_acts deed later h.0) h.2))
          | inr rest ↦ let h = node_in later d rest in (h.0, inr h.1, h.2)
        ]
      ]

  -- so it stands there not, where its home doesn't
  pub absent_at : (ns : List Node) (d : InternalEvent) (m : Node) → home d ≡ At m → (Among ns m → ⊥) → Among (events_of_nodes deed ns) d → ⊥
  absent_at ns d m is out a =
      let h = node_in ns d a in
      elim h.2 [
        | inl at ↦ let same : At m ≡ At h.0 = sym is ∙ at in out (subst (Among ns) (sym (node_of m h.0 same)) h.1)
        | inr after ↦ let other = sym is ∙ after.1 in cc
      ]
    where
      node_of : (m n : Node) → At m ≡ At n → m ≡ n
      node_of m n e = cc

  pub absent_after : (ns : List Node) (d : InternalEvent) (v : Verb) → home d ≡ After v → ((n : Node) → acts deed v n ≡ true → Among ns n → ⊥) → Among (events_of_nodes deed ns) d → ⊥
  absent_after ns d v is out a =
      let h = node_in ns d a in
      elim h.2 [
        | inl at ↦ let other = sym is ∙ at in cc
        | inr after ↦ out h.0 (subst (λ w. acts deed w h.0 ≡ true) (sym (verb_of v after.0 (sym is ∙ after.1))) after.2) h.1
      ]
    where
      verb_of : (v w : Verb) → After v ≡ After w → v ≡ w
      verb_of v w e = cc

  pub absent_nowhere : (ns : List Node) (d : InternalEvent) → home d ≡ Nowhere → Among (events_of_nodes deed ns) d → ⊥
  absent_nowhere ns d is a =
      let h = node_in ns d a in
      elim h.2 [
        | inl at ↦ let other = sym is ∙ at in cc
        | inr after ↦ let other = sym is ∙ after.1 in cc
      ]

  -- an event of one of some nodes stands among those of all
  pub event_of_node : (ns : List Node) (n : Node) (d : InternalEvent) → Among ns n → Among (node_events deed n) d → Among (events_of_nodes deed ns) d
  event_of_node [] n d m a = absurd m
  event_of_node (x ∷ later) n d (inl e) a =
      among_left (node_events deed x) (contract_events (λ verb. acts deed verb x && none_acts deed later verb) ++ events_of_nodes deed later) d (subst (λ y. Among (node_events deed y) d) (sym e) a)
  event_of_node (x ∷ later) n d (inr m) a =
      among_right (node_events deed x) (contract_events (λ verb. acts deed verb x && none_acts deed later verb) ++ events_of_nodes deed later) d
      (among_right (contract_events (λ verb. acts deed verb x && none_acts deed later verb)) (events_of_nodes deed later) d (event_of_node later n d m a))
