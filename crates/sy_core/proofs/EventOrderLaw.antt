-- The order of events of a deed whose nodes have one is an order of its events: each stands after those that its condition looks at, no
-- other event ever happens, and it is as long as they are many.
use Rattle.std.proofs.Common.{◌≡◌, ℕ, Bool, true, false, not, ◌&&◌, ◌||◌, List, [], ◌∷◌, ◌++◌, ◌⊎◌, inl, inr, Option, Some, None, slice_get, length, refl, sym, ◌∙◌, ap, subst}
use Rattle.std.specs.List.{list_any, Contains}
use Rattle.sy_words.specs.declared.kind.Kind.{Kind}
use Rattle.sy_words.specs.declared.kind.Kind.TheVariants.{Exerted, Triggered, Activated, Resumed, Suspended, Fulfilled, Violated, Expired, Discharged, Terminated, Completed}
use Rattle.sy_words.specs.declared.form.Form.{Form}
use Rattle.sy_words.specs.declared.form.Form.TheVariants.{Obligation, Surviving, Power}
use Rattle.sy_words.specs.declared.verb.Verb.{Verb}
use Rattle.sy_words.specs.declared.verb.Verb.TheVariants as Verbs
use Rattle.sy_core.specs.declared.kind.Target.{Target}
use Rattle.sy_core.specs.declared.kind.Target.TheVariants as T
use Rattle.sy_core.specs.declared.position.Position.{Position}
use Rattle.sy_core.specs.declared.deed.Deed.{Deed}
use Rattle.sy_core.specs.Moments.{Moment}
use Rattle.sy_core.specs.Mentions.{InternalEvent}
use Rattle.sy_core.specs.Conditions.{is_power, is_obligation, contract_fires, position_fires, fires_of, fires}
use Rattle.sy_core.specs.Orders.{IsAcyclic}
use Rattle.sy_core.specs.Prerequisites.{Node, Exert, Trig, Act, End, Contract, nodes_of, nodes, numbered_needs, nodes_in_order}
use Rattle.sy_core.specs.Dependence.{reads, IsOrderOf}
use Rattle.sy_core.specs.EventOrder.{obligation_ends, end_events, end_events_of, event_if, contract_events, node_events, acts, none_acts, events_of_nodes, event_order}
use Rattle.sy_core.proofs.Members.{Among, among, contained}
use Rattle.sy_core.proofs.OrderLaw.{among_append}
use Rattle.sy_core.proofs.RoundsLaw.{among_decided}
use Rattle.sy_core.proofs.Nodes.{among_left, among_right, node_there, position_node_there, power_node_there, contract_there}
use Rattle.sy_core.proofs.EventHomes.{event_of_node}
use Rattle.sy_core.proofs.EventsInOrder.{Clear, order_is_clear, clear_from}
use Rattle.sy_core.proofs.EventCount.{order_is_long}

-- a power's nodes, and every position's
has_trig : (form : Form) (i : ℕ) → Among (nodes_of form i) (Trig i)
has_trig Obligation i = inl refl
has_trig Surviving i = inl refl
has_trig Power i = inr (inl refl)

has_act : (form : Form) (i : ℕ) → Among (nodes_of form i) (Act i)
has_act Obligation i = inr (inl refl)
has_act Surviving i = inr (inl refl)
has_act Power i = inr (inr (inl refl))

has_end : (form : Form) (i : ℕ) → Among (nodes_of form i) (End i)
has_end Obligation i = inr (inr (inl refl))
has_end Surviving i = inr (inr (inl refl))
has_end Power i = inr (inr (inr (inl refl)))

-- where an event of the contract stands that needs exertions alone
in_part : (p : Verb → Bool) → (d : InternalEvent) → Among (event_if (p Verbs.Resumes) Resumed) d ⊎ Among (event_if (p Verbs.Suspends) Suspended) d ⊎ Among (event_if (p Verbs.Terminates) Terminated) d → Among (contract_events p) d
in_part p d (inl m) = among_left (event_if (p Verbs.Resumes) Resumed) (event_if (p Verbs.Suspends) Suspended ++ event_if (p Verbs.Terminates) Terminated) d m
in_part p d (inr (inl m)) =
    among_right (event_if (p Verbs.Resumes) Resumed) (event_if (p Verbs.Suspends) Suspended ++ event_if (p Verbs.Terminates) Terminated) d
    (among_left (event_if (p Verbs.Suspends) Suspended) (event_if (p Verbs.Terminates) Terminated) d m)
in_part p d (inr (inr m)) =
    among_right (event_if (p Verbs.Resumes) Resumed) (event_if (p Verbs.Suspends) Suspended ++ event_if (p Verbs.Terminates) Terminated) d
    (among_right (event_if (p Verbs.Suspends) Suspended) (event_if (p Verbs.Terminates) Terminated) d m)

if_true : (b : Bool) (kind : Kind) → b ≡ true → Among (event_if b kind) (kind, T.Contract)
if_true true kind e = inl refl
if_true false kind e = cc

module _ (deed : Deed) where
  module _ (verb : Verb) (d : InternalEvent) (stands : (p : Verb → Bool) → p verb ≡ true → Among (contract_events p) d) where
    abbrev here : Node → List Node → Verb → Bool
    here n later v = acts deed v n && none_acts deed later v

    -- behind the last exertion that does it
    behind_exertion : (ns : List Node) → list_any (acts deed verb) ns ≡ true → Among (events_of_nodes deed ns) d
    behind_exertion [] some = cc
    behind_exertion (n ∷ later) some = at (list_any (acts deed verb) later) refl (behind_exertion later)
      where
        last : (a l : Bool) → (a || l) ≡ true → l ≡ false → (a && not l) ≡ true
        last true false h e = refl
        last false false h e = cc
        last a true h e = cc

        at : (b : Bool) → list_any (acts deed verb) later ≡ b → (list_any (acts deed verb) later ≡ true → Among (events_of_nodes deed later) d) → Among (events_of_nodes deed (n ∷ later)) d
        at true e rest = among_right (node_events deed n) (contract_events (here n later) ++ events_of_nodes deed later) d (among_right (contract_events (here n later)) (events_of_nodes deed later) d (rest e))
        at false e rest = among_right (node_events deed n) (contract_events (here n later) ++ events_of_nodes deed later) d (among_left (contract_events (here n later)) (events_of_nodes deed later) d (stands (here n later) (last (acts deed verb n) (list_any (acts deed verb) later) some e)))

    -- or at the front
    contract_event_there : Among (event_order deed) d
    contract_event_there = at (list_any (acts deed verb) (nodes_in_order deed)) refl
      where
        at : (b : Bool) → list_any (acts deed verb) (nodes_in_order deed) ≡ b → Among (event_order deed) d
        at true e = among_right (contract_events (none_acts deed (nodes_in_order deed))) (events_of_nodes deed (nodes_in_order deed)) d (behind_exertion (nodes_in_order deed) e)
        at false e = among_left (contract_events (none_acts deed (nodes_in_order deed))) (events_of_nodes deed (nodes_in_order deed)) d (stands (none_acts deed (nodes_in_order deed)) (ap not e))

  resumed_there : Among (event_order deed) (Resumed, T.Contract)
  resumed_there = contract_event_there Verbs.Resumes (Resumed, T.Contract) (λ p e. in_part p (Resumed, T.Contract) (inl (if_true (p Verbs.Resumes) Resumed e)))

  suspended_there : Among (event_order deed) (Suspended, T.Contract)
  suspended_there = contract_event_there Verbs.Suspends (Suspended, T.Contract) (λ p e. in_part p (Suspended, T.Contract) (inr (inl (if_true (p Verbs.Suspends) Suspended e))))

  terminated_there : Among (event_order deed) (Terminated, T.Contract)
  terminated_there = contract_event_there Verbs.Terminates (Terminated, T.Contract) (λ p e. in_part p (Terminated, T.Contract) (inr (inr (if_true (p Verbs.Terminates) Terminated e))))

  -- each of those that an event's condition looks at stands before it, where it stands at all
  looks_back : (earlier later : List InternalEvent) (e : InternalEvent) → event_order deed ≡ earlier ++ e ∷ later → (d : InternalEvent) → Among (reads deed e.0 e.1) d → Among earlier d ⊎ (Among (event_order deed) d → ⊥)
  looks_back earlier later e is d m =
      elim (among_decided (event_order deed) d) [
        | inl in_order ↦ elim (among_append earlier (e ∷ later) d (subst (λ l. Among l d) is in_order)) [
          | inl before ↦ inl before
          | inr behind ↦ absurd ((clear_from deed earlier (e ∷ later) (subst (Clear deed) is (order_is_clear deed))).0 d m behind)
        ]
        | inr out ↦ inr out
      ]

  module _ (acyclic : IsAcyclic (numbered_needs deed) (length (nodes deed))) where
    node_event_there : (n : Node) (d : InternalEvent) → Among (nodes_in_order deed) n → Among (node_events deed n) d → Among (event_order deed) d
    node_event_there n d m a = among_right (contract_events (none_acts deed (nodes_in_order deed))) (events_of_nodes deed (nodes_in_order deed)) d (event_of_node deed (nodes_in_order deed) n d m a)

    module _ (now : Moment) (before : List Moment) where
      module _ (i : ℕ) (p : Position) (is : slice_get deed.positions i ≡ Some p) where
        of_node : (make : ℕ → Node) → ((form : Form) (i : ℕ) → Among (nodes_of form i) (make i)) → (d : InternalEvent) → Among (node_events deed (make i)) d → Among (event_order deed) d
        of_node make has d a = node_event_there (make i) d (position_node_there deed acyclic make has i p is) a

        end_there : (kind : Kind) → Among (end_events (T.Position i) p.form) (kind, T.Position i) → Among (event_order deed) (kind, T.Position i)
        end_there kind a = of_node End has_end (kind, T.Position i) (subst (λ o. Among (end_events_of (T.Position i) o) (kind, T.Position i)) (sym is) a)

        -- an event that only powers have, or only obligations
        power_row : (form : Form) → p.form ≡ form → (Among (event_order deed) (Exerted, T.Position i) → ⊥) → (a b c : Bool) → (((is_power form && a) && b) && c) ≡ false
        power_row Power e out a b c = absurd (out (node_event_there (Exert i) (Exerted, T.Position i) (power_node_there deed acyclic i p is e) (inl refl)))
        power_row Obligation e out a b c = refl
        power_row Surviving e out a b c = refl

        obligation_row : (form : Form) (kind : Kind) → Among (obligation_ends (T.Position i)) (kind, T.Position i) → (Among (end_events (T.Position i) form) (kind, T.Position i) → ⊥) → (a b : Bool) → ((is_obligation form && a) && b) ≡ false
        obligation_row Power kind h out a b = refl
        obligation_row Obligation kind h out a b = absurd (out h)
        obligation_row Surviving kind h out a b = absurd (out h)

        has_terminated : (form : Form) → Among (end_events (T.Position i) form) (Terminated, T.Position i)
        has_terminated Power = inl refl
        has_terminated Obligation = inr (inl refl)
        has_terminated Surviving = inr (inl refl)

        has_expired : (form : Form) → Among (end_events (T.Position i) form) (Expired, T.Position i)
        has_expired Power = inr (inl refl)
        has_expired Obligation = inr (inr (inl refl))
        has_expired Surviving = inr (inr (inl refl))

        position_never : (kind : Kind) → (Among (event_order deed) (kind, T.Position i) → ⊥) → position_fires deed now before i p kind ≡ false
        position_never Exerted out = power_row p.form refl out _ _ _
        position_never Triggered out = absurd (out (of_node Trig has_trig (Triggered, T.Position i) (inl refl)))
        position_never Activated out = absurd (out (of_node Act has_act (Activated, T.Position i) (inl refl)))
        position_never Resumed out = absurd (out (of_node Act has_act (Resumed, T.Position i) (inr (inl refl))))
        position_never Suspended out = absurd (out (of_node Act has_act (Suspended, T.Position i) (inr (inr (inl refl)))))
        position_never Fulfilled out = obligation_row p.form Fulfilled (inr (inr (inr (inl refl)))) (λ a. out (end_there Fulfilled a)) _ _
        position_never Violated out = obligation_row p.form Violated (inr (inr (inr (inr (inl refl))))) (λ a. out (end_there Violated a)) _ _
        position_never Expired out = absurd (out (end_there Expired (has_expired p.form)))
        position_never Discharged out = obligation_row p.form Discharged (inl refl) (λ a. out (end_there Discharged a)) _ _
        position_never Terminated out = absurd (out (end_there Terminated (has_terminated p.form)))
        position_never Completed out = refl

      contract_never : (kind : Kind) → (Among (event_order deed) (kind, T.Contract) → ⊥) → contract_fires deed now kind ≡ false
      contract_never Exerted out = refl
      contract_never Triggered out = refl
      contract_never Activated out = refl
      contract_never Resumed out = absurd (out resumed_there)
      contract_never Suspended out = absurd (out suspended_there)
      contract_never Fulfilled out = refl
      contract_never Violated out = refl
      contract_never Expired out = refl
      contract_never Discharged out = refl
      contract_never Terminated out = absurd (out terminated_there)
      contract_never Completed out = absurd (out (node_event_there Contract (Completed, T.Contract) (contract_there deed acyclic) (inl refl)))

      -- what isn't in the order never happens
      never : (kind : Kind) (x : Target) → (Among (event_order deed) (kind, x) → ⊥) → fires deed now before kind x ≡ false
      never kind T.Contract out = contract_never kind out
      never kind (T.Position i) out = at (slice_get deed.positions i) refl
        where
          at : (o : Option Position) → slice_get deed.positions i ≡ o → fires_of deed now before i o kind ≡ false
          at None is = refl
          at (Some p) is = position_never i p is kind out

    pub order_is_of : IsOrderOf deed (event_order deed)
    order_is_of = record {
      reads_before = λ earlier later e is d c. elim (looks_back earlier later e is d (among (reads deed e.0 e.1) d c)) [
        | inl before ↦ inl (contained earlier d before)
        | inr out ↦ inr (λ a. out (among (event_order deed) d a))
      ];
      others = λ e out now before. never now before e.0 e.1 (λ a. out (contained (event_order deed) e a));
      long = order_is_long deed acyclic;
    }
