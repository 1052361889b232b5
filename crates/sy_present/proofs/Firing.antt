-- What firing one event after the other needs.
use Rattle.std.proofs.Common.{◌≡◌, ℕ, Bool, true, List, [], ◌∷◌, ◌++◌, Option, Some, None, slice_get, if◌then◌else◌, ◌&&◌, refl, sym, ap, ◌∙◌, append_assoc}
use Rattle.std.proofs.lemmas.Bool.{false≢true}
use Rattle.sy_words.specs.declared.kind.Kind.{Kind}
use Rattle.sy_words.specs.declared.kind.Kind.TheVariants.{Resumed, Suspended, Terminated}
use Rattle.sy_words.specs.declared.verb.Verb.{Verb}
use Rattle.sy_words.specs.declared.verb.Verb.TheVariants.{Suspends, Resumes, Terminates}
use Rattle.sy_core.specs.declared.kind.Target.TheVariants as T
use Rattle.sy_core.specs.declared.position.Position.{Position}
use Rattle.sy_core.specs.declared.deed.Deed.{Deed}
use Rattle.sy_core.specs.Mentions.{InternalEvent}
use Rattle.sy_core.specs.Moments.{Moment}
use Rattle.sy_core.specs.Conditions.{fires, fires_of}
use Rattle.sy_core.specs.Prerequisites.{Node}
use Rattle.sy_core.specs.EventOrder.{acts, none_acts, event_if, contract_events, node_events, events_of_nodes}
use Rattle.sy_quiet.specs.Histories.{History, firing}
use Rattle.sy_quiet.specs.Evaluation.{firing_if, firing_all}
use Rattle.sy_present.specs.declared.present.Present.{Present}
use Rattle.sy_present.specs.Machine.Told.{IsPresent}

module _ (deed : Deed) where
  -- first those of one list, then those of another
  pub firing_append : (events later : List InternalEvent) (h : History) → firing_all deed (events ++ later) h ≡ firing_all deed later (firing_all deed events h)
  firing_append [] later h = refl
  firing_append (event ∷ events) later h = firing_append events later (firing_if deed event h)

  -- an event whose condition is true is fired
  pub fired : (event : InternalEvent) (h : History) → fires deed h.now h.before event.0 event.1 ≡ true → firing_if deed event h ≡ firing event.0 event.1 h
  fired event h true_now = ap (λ b. if b then firing event.0 event.1 h else h) true_now

  -- only to a position that is there something happens
  pub is_there : (now : Moment) (before : List Moment) (kind : Kind) (i : ℕ) → fires deed now before kind (T.Position i) ≡ true → (p : Position) × (slice_get deed.positions i ≡ Some p)
  is_there now before kind i true_now = at (slice_get deed.positions i) refl true_now
    where
      at : (o : Option Position) → slice_get deed.positions i ≡ o → fires_of deed now before i o kind ≡ true → (p : Position) × (slice_get deed.positions i ≡ Some p)
      at None e f = absurd (false≢true f)
      at (Some p) e f = (p, e)

  -- the contract's events without a node, one after the other
  pub firing_contract_events : (passes : Verb → Bool) (h : History) → firing_all deed (contract_events passes) h
      ≡ firing_all deed (event_if (passes Terminates) Terminated) (firing_all deed (event_if (passes Suspends) Suspended) (firing_all deed (event_if (passes Resumes) Resumed) h))
  firing_contract_events passes h =
      firing_append (event_if (passes Resumes) Resumed) (event_if (passes Suspends) Suspended ++ event_if (passes Terminates) Terminated) h
      ∙ firing_append (event_if (passes Suspends) Suspended) (event_if (passes Terminates) Terminated) (firing_all deed (event_if (passes Resumes) Resumed) h)

-- the contract's events are the same where the tests of their verbs are
pub same_contract_events : (passes others : Verb → Bool) → passes Resumes ≡ others Resumes → passes Suspends ≡ others Suspends → passes Terminates ≡ others Terminates → contract_events passes ≡ contract_events others
same_contract_events passes others resumes suspends terminates = λ j. event_if (resumes j) Resumed ++ (event_if (suspends j) Suspended ++ event_if (terminates j) Terminated)

-- the events of some nodes are still to be decided, and then this history is reached
abbrev pub Reaches : Present → Deed → List Node → History → Type 0
Reaches present deed rest end = (g : History) × IsPresent present deed g × (firing_all deed (events_of_nodes deed rest) g ≡ end)

-- the first of the nodes is decided
pub reaches_on : (deed : Deed) (present next : Present) (n : Node) (later : List Node) (end : History)
    → ((h : History) → IsPresent present deed h → IsPresent next deed (firing_all deed (node_events deed n ++ contract_events (λ verb. acts deed verb n && none_acts deed later verb)) h))
    → Reaches present deed (n ∷ later) end → Reaches next deed later end
reaches_on deed present next n later end decides reached =
    let g = reached.0 in
    let events = node_events deed n in
    let behind = contract_events (λ verb. acts deed verb n && none_acts deed later verb) in
    let rest = events_of_nodes deed later in (
      firing_all deed (events ++ behind) g,
      decides g reached.1,
      sym (firing_append deed (events ++ behind) rest g) ∙ (ap (λ l. firing_all deed l g) (append_assoc events behind rest) ∙ reached.2),
    )
