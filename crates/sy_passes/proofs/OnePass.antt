-- One pass over an order of events adds those that the conditions settle on.
use Rattle.std.proofs.Common.{◌≡◌, ℤ, Bool, true, false, ◌&&◌, ◌||◌, List, [], ◌∷◌, ◌++◌, ◌⊎◌, inl, inr, length, refl, sym, ◌∙◌, ap, subst, append_assoc}
use Rattle.std.specs.List.{Contains}
use Rattle.sy_core.specs.declared.kind.Target.{Target}
use Rattle.sy_core.specs.declared.state.StateOf.{StateOf}
use Rattle.sy_core.specs.declared.deed.Deed.{Deed}
use Rattle.sy_core.specs.declared.happening.What.{What}
use Rattle.sy_core.specs.Rounds.{IsSettled}
use Rattle.sy_core.specs.Moments.{Moment}
use Rattle.sy_core.specs.Mentions.{InternalEvent}
use Rattle.sy_core.specs.Chronicle.{assuming, conditions, internal_events}
use Rattle.sy_core.specs.Orders.{IsAcyclic}
use Rattle.sy_core.specs.Prerequisites.{nodes, numbered_needs}
use Rattle.sy_core.specs.Dependence.{reads, IsOrderOf}
use Rattle.sy_core.specs.EventOrder.{event_order}
use Rattle.sy_core.proofs.Members.{Among, among, contained}
use Rattle.sy_core.proofs.OrderLaw.{IsInOrder, append_none, among_append, turn_in_order}
use Rattle.sy_core.proofs.Listing.{and_left, and_right, or_false}
use Rattle.sy_core.proofs.DependenceLaw.{agree_from, condition_same}
use Rattle.sy_core.proofs.RoundsLaw.{among_decided, rounds_settled}
use Rattle.sy_core.proofs.EventOrderLaw.{order_is_of}
use Rattle.sy_passes.specs.Passes.{same_event, nothing, with_event, pass}
use Rattle.sy_passes.proofs.SameEvents.{same_events, event_itself}

-- a test that is true only where another is adds nothing to it
or_less : (a b : Bool) → (a ≡ true → b ≡ true) → (a || b) ≡ b
or_less true b f = sym (f refl)
or_less false b f = refl

and_false : (b : Bool) → (b && false) ≡ false
and_false true = refl
and_false false = refl

and_true : (b : Bool) → (b && true) ≡ b
and_true true = refl
and_true false = refl

module _ (condition : (InternalEvent → Bool) → InternalEvent → Bool) (order : List InternalEvent) (ordered : IsInOrder condition order) (settled : InternalEvent → Bool) (is_settled : IsSettled condition settled) where
  -- what was added so far is right on the events gone by and on those outside the order, and has only settled events
  record IsRight (earlier : List InternalEvent) (so_far : InternalEvent → Bool) : Type 0 where
    pub known : (d : InternalEvent) → Among earlier d ⊎ (Among order d → ⊥) → so_far d ≡ settled d
    pub only : (d : InternalEvent) → so_far d ≡ true → settled d ≡ true

  module _ (earlier later : List InternalEvent) (e : InternalEvent) (is : order ≡ earlier ++ e ∷ later) (so_far : InternalEvent → Bool) (right : IsRight earlier so_far) where
    now : condition so_far e ≡ settled e
    now = turn_in_order condition order ordered settled is_settled earlier later e is so_far right.known

    known_before : (d : InternalEvent) → Among (earlier ++ e ∷ []) d ⊎ (Among order d → ⊥) → (e ≡ d → ⊥) → so_far d ≡ settled d
    known_before d place other = elim place [
      | inl at ↦ elim (among_append earlier (e ∷ []) d at) [
        | inl there ↦ right.known d (inl there)
        | inr last ↦ elim last [ inl same ↦ absurd (other same) | inr none ↦ absurd none ]
      ]
      | inr out ↦ right.known d (inr out)
    ]

    known_at : (d : InternalEvent) → Among (earlier ++ e ∷ []) d ⊎ (Among order d → ⊥) → (b : Bool) → same_event e d ≡ b → with_event (condition so_far e) e so_far d ≡ settled d
    known_at d place true same =
        (λ j. so_far d || (now j && same j))
        ∙ (ap (λ b. so_far d || b) (and_true (settled e) ∙ ap settled (same_events e d same)) ∙ or_less (so_far d) (settled d) (right.only d))
    known_at d place false other =
        (λ j. so_far d || (condition so_far e && other j))
        ∙ (ap (λ b. so_far d || b) (and_false (condition so_far e)) ∙ (or_false (so_far d)
        ∙ known_before d place (λ same. let t : same_event e d ≡ true = subst (λ x. same_event e x ≡ true) same (event_itself e) in cc)))

    only_at : (d : InternalEvent) (a : Bool) → so_far d ≡ a → with_event (condition so_far e) e so_far d ≡ true → settled d ≡ true
    only_at d true was h = right.only d was
    only_at d false was h =
        let both = sym (ap (λ b. b || (condition so_far e && same_event e d)) was) ∙ h in
        let happens = and_left (condition so_far e) (same_event e d) both in
        let same = same_events e d (and_right (condition so_far e) (same_event e d) both) in
        subst (λ x. settled x ≡ true) same (sym now ∙ happens)

    one_more : IsRight (earlier ++ e ∷ []) (with_event (condition so_far e) e so_far)
    one_more = record {
      known = λ d place. known_at d place (same_event e d) refl;
      only = λ d h. only_at d (so_far d) refl h;
    }

  pass_from : (earlier later : List InternalEvent) → order ≡ earlier ++ later → (so_far : InternalEvent → Bool) → IsRight earlier so_far → (d : InternalEvent) → pass condition later so_far d ≡ settled d
  pass_from earlier [] is so_far right d =
      let same = is ∙ append_none earlier in
      right.known d (elim (among_decided order d) [ inl at ↦ inl (subst (λ l. Among l d) same at) | inr out ↦ inr out ])
  pass_from earlier (e ∷ later) is so_far right d =
      pass_from (earlier ++ e ∷ []) later (is ∙ sym (append_assoc earlier (e ∷ []) later)) (with_event (condition so_far e) e so_far) (one_more earlier later e is so_far right) d

  pub pass_settles : (d : InternalEvent) → pass condition order nothing d ≡ settled d
  pass_settles d = pass_from [] order refl nothing (record {
    known = λ d place. elim place [ inl none ↦ absurd none | inr out ↦ sym (sym (is_settled d) ∙ ordered.others d out settled) ];
    only = λ d h. cc;
  }) d

module _ (deed : Deed) (acyclic : IsAcyclic (numbered_needs deed) (length (nodes deed))) (point : ℤ) (happenings : List What) (state : Target → StateOf) (before : List Moment) where
  abbrev rows : (InternalEvent → Bool) → InternalEvent → Bool
  rows = conditions deed point happenings state before

  abbrev order : List InternalEvent
  order = event_order deed

  ordered : IsOrderOf deed order
  ordered = order_is_of deed acyclic

  placed : (earlier : List InternalEvent) (d : InternalEvent) → Contains earlier d ⊎ (Contains order d → ⊥) → Among earlier d ⊎ (Among order d → ⊥)
  placed earlier d (inl c) = inl (among earlier d c)
  placed earlier d (inr out) = inr (λ a. out (contained order d a))

  rows_in_order : IsInOrder rows order
  rows_in_order = record {
    depends = λ earlier later e is s t same. condition_same point happenings state before s t deed e.0 e.1 (agree_from s t (reads deed e.0 e.1) (λ d read. same d (placed earlier d (ordered.reads_before earlier later e is d (contained (reads deed e.0 e.1) d read)))));
    others = λ e out s. ordered.others e (λ c. out (among order e c)) (assuming point happenings state s) before;
  }

  pub one_pass : (e : InternalEvent) → pass rows order nothing e ≡ internal_events deed point happenings state before e
  one_pass e = pass_settles rows order rows_in_order (internal_events deed point happenings state before) (rounds_settled deed order ordered point happenings state before) e
