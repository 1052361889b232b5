-- What is seen and fired at a point makes its moment.
use Rattle.std.proofs.Common.{◌≡◌, ℤ, Bool, true, false, ◌||◌, if◌then◌else◌, List, [], ◌∷◌, length, refl, sym, ◌∙◌, ap}
use Rattle.std.proofs.Math.Path.{fun_ext}
use Rattle.std.specs.List.{list_any}
use Rattle.sy_words.specs.declared.kind.Kind.{Kind}
use Rattle.sy_core.specs.declared.kind.Target.{Target}
use Rattle.sy_core.specs.declared.state.StateOf.{StateOf}
use Rattle.sy_core.specs.declared.event.Ev.{Ev}
use Rattle.sy_core.specs.declared.event.Ev.TheVariants.{Outer, Inner}
use Rattle.sy_core.specs.declared.deed.Deed.{Deed}
use Rattle.sy_core.specs.declared.happening.What.{What}
use Rattle.sy_core.specs.declared.happening.What.TheVariants as W
use Rattle.sy_core.specs.Matching.{matches}
use Rattle.sy_core.specs.Moments.{Moment}
use Rattle.sy_core.specs.Mentions.{InternalEvent}
use Rattle.sy_core.specs.Orders.{IsAcyclic}
use Rattle.sy_core.specs.Prerequisites.{nodes, numbered_needs}
use Rattle.sy_core.specs.EventOrder.{event_order}
use Rattle.sy_core.specs.Chronicle.{exerts, stands, assuming, conditions, internal_events}
use Rattle.sy_core.proofs.Listing.{or_false}
use Rattle.sy_passes.specs.Passes.{nothing, with_event, pass}
use Rattle.sy_passes.proofs.OnePass.{one_pass}
use Rattle.sy_quiet.specs.Histories.{History, with_more, seeing, is_inner, firing, quiet}
use Rattle.sy_quiet.specs.Evaluation.{seeing_all, firing_all, with_events}

or_assoc : (a b c : Bool) → ((a || b) || c) ≡ (a || (b || c))
or_assoc true b c = refl
or_assoc false b c = refl

-- the narrative has no internal events
pub inner_unmatched : (kind : Kind) (x : Target) (what : What) → matches (Inner kind x) what ≡ false
inner_unmatched kind x (W.Event event values) = refl
inner_unmatched kind x (W.Exert power) = refl

pub none_matched : (kind : Kind) (x : Target) (happenings : List What) → list_any (λ what. matches (Inner kind x) what) happenings ≡ false
none_matched kind x [] = refl
none_matched kind x (what ∷ later) = let a = inner_unmatched kind x what in let b = none_matched kind x later in λ j. a j || b j

-- all that is seen, at once
abbrev seen_together : List What → History → History
seen_together happenings h = record {
  before = h.before;
  now = with_more (λ i. list_any (exerts i) happenings) (λ e. list_any (λ what. matches e what) happenings) h.now;
  next = h.next;
}

all_together : (happenings : List What) (h : History) → seeing_all happenings h ≡ seen_together happenings h
all_together [] h =
    let a = fun_ext (λ i. sym (or_false (h.now.asked i))) in
    let s = fun_ext (λ e. sym (or_false (h.now.seen e))) in
    λ j. record { before = h.before; now = record { point = h.now.point; asked = a j; seen = s j; state = h.now.state }; next = h.next }
all_together (what ∷ later) h =
    let a = fun_ext (λ i. or_assoc (h.now.asked i) (exerts i what) (list_any (exerts i) later)) in
    let s = fun_ext (λ e. or_assoc (h.now.seen e) (matches e what) (list_any (λ w. matches e w) later)) in
    all_together later (seeing what h) ∙ (λ j. record { before = h.before; now = record { point = h.now.point; asked = a j; seen = s j; state = h.now.state }; next = h.next })

module _ (deed : Deed) (point : ℤ) (happenings : List What) (state next : Target → StateOf) (before : List Moment) where
  -- the history with a set of internal events at the point
  abbrev with_set : (InternalEvent → Bool) → History
  with_set set = record { before = before; now = assuming point happenings state set; next = next }

  abbrev begun : History
  begun = record { before = before; now = quiet point state; next = next }

  abbrev rows : (InternalEvent → Bool) → InternalEvent → Bool
  rows = conditions deed point happenings state before

  all_seen : seeing_all happenings begun ≡ with_set nothing
  all_seen = all_together happenings begun ∙ (λ j. record { before = before; now = record { point = point; asked = λ i. list_any (exerts i) happenings; seen = fun_ext at j; state = state }; next = next })
    where
      at : (e : Ev) → list_any (λ what. matches e what) happenings ≡ stands happenings nothing e
      at (Outer event guards) = refl
      at (Inner kind x) = none_matched kind x happenings

  one_fired : (e : InternalEvent) (set : InternalEvent → Bool) (b : Bool) → (if b then firing e.0 e.1 (with_set set) else with_set set) ≡ with_set (with_event b e set)
  one_fired e set true =
      λ j. record { before = before; now = record { point = point; asked = fun_ext (λ i. or_false (list_any (exerts i) happenings)) j; seen = fun_ext at j; state = state }; next = next }
    where
      at : (ev : Ev) → (stands happenings set ev || is_inner e.0 e.1 ev) ≡ stands happenings (with_event true e set) ev
      at (Outer event guards) = or_false (list_any (matches (Outer event guards)) happenings)
      at (Inner kind x) = refl
  one_fired e set false = ap with_set (fun_ext (λ d. sym (or_false (set d))))

  all_fired : (es : List InternalEvent) (set : InternalEvent → Bool) → firing_all deed es (with_set set) ≡ with_set (pass rows es set)
  all_fired [] set = refl
  all_fired (e ∷ es) set = ap (firing_all deed es) (one_fired e set (rows set e)) ∙ all_fired es (with_event (rows set e) e set)

  pub events_told : IsAcyclic (numbered_needs deed) (length (nodes deed)) → with_events deed happenings begun ≡ with_set (internal_events deed point happenings state before)
  events_told acyclic =
      ap (firing_all deed (event_order deed)) all_seen
      ∙ (all_fired (event_order deed) nothing ∙ ap with_set (fun_ext (one_pass deed acyclic point happenings state before)))
