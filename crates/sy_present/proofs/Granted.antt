-- The row of a position's event with the verdicts that it asks for, where its propositions have them, is the event's condition.
use Rattle.std.proofs.Common.{◌≡◌, ℕ, Bool, true, false, ◌&&◌, ◌||◌, not, Some, slice_get, refl, sym, ap, ◌∙◌}
use Rattle.sy_words.specs.declared.kind.Kind.{Kind}
use Rattle.sy_words.specs.declared.kind.Kind.TheVariants.{Exerted, Triggered, Activated, Resumed, Suspended, Fulfilled, Violated, Expired, Discharged, Terminated, Completed}
use Rattle.sy_words.specs.declared.verb.Verb.TheVariants as Verbs
use Rattle.sy_core.specs.declared.state.StateOf.{StateOf}
use Rattle.sy_core.specs.declared.deed.Deed.{Deed}
use Rattle.sy_core.specs.declared.position.Position.{Position}
use Rattle.sy_core.specs.declared.kind.Target.TheVariants as T
use Rattle.sy_core.specs.Propositions.{verdict_at, is_true, is_false}
use Rattle.sy_core.specs.Mentions.{has_holds}
use Rattle.sy_core.specs.declared.state.StateOf.TheVariants as S
use Rattle.sy_core.specs.Conditions.{is_obligation, live, was, is_created, remains_in_force, duty_verdict, by, position_fires, fires_of, fires}
use Rattle.sy_quiet.specs.Histories.{History}
use Rattle.sy_machines.specs.declared.inputs.Inputs.{Inputs}
use Rattle.sy_machines.specs.Rows.{row_fires}
use Rattle.sy_present.specs.declared.place.Place.{Place}
use Rattle.sy_present.specs.declared.present.Present.{Present}
use Rattle.sy_present.specs.Standing.{IsMadeFor}
use Rattle.sy_present.specs.Machine.Told.{IsPlaceAt, IsPresent}
use Rattle.sy_present.specs.Machine.Granted.{granted, grants}
use Rattle.sy_present.proofs.Shapes.{shape_at}

-- for a row that asks for no verdict
all_kept : (a : Bool) → (a && true) ≡ a
all_kept true = refl
all_kept false = refl

-- the last test of three stands apart
last_apart : (a b c : Bool) → ((a && b && true) && c) ≡ (a && b && c)
last_apart true true c = refl
last_apart true false c = refl
last_apart false b c = refl

-- for a row of four tests, of which the last two are done in the other order
last_two_apart : (a b c d : Bool) → ((a && b && true && true) && (c && d)) ≡ (a && b && d && c)
last_two_apart true true true true = refl
last_two_apart true true true false = refl
last_two_apart true true false true = refl
last_two_apart true true false false = refl
last_two_apart true false c d = refl
last_two_apart false b c d = refl

-- for a last test that another makes needless
either_apart : (a b c d : Bool) → ((a && b && true) && (d || c)) ≡ (a && b && (c || d))
either_apart true true true true = refl
either_apart true true true false = refl
either_apart true true false true = refl
either_apart true true false false = refl
either_apart true false c d = refl
either_apart false b c d = refl

-- kind by kind
pub row_granted : (contract : StateOf) (ends : Bool) (place : Place) (deed : Deed) (h : History) (i : ℕ) (p : Position) (kind : Kind) → contract ≡ h.now.state T.Contract → ends ≡ by deed h.now Verbs.Terminates T.Contract → IsPlaceAt place deed h i → place.form ≡ p.form → (row_fires place.form place.state (granted contract ends place p.goal kind) kind && grants deed.unit h.now h.before p place.done.triggers kind) ≡ position_fires deed h.now h.before i p kind
row_granted contract ends place deed h i p Exerted contract_is ends_is at form = all_kept _ ∙ cc
row_granted contract ends place deed h i p Triggered contract_is ends_is at form =
    let apart = either_apart (live h.now p.form) (was h.now (T.Position i) S.Null) (is_true (verdict_at deed.unit h.now h.before p.trigger)) (by deed h.now Verbs.Triggers (T.Position i)) in
    cc (at.done Verbs.Triggers)
row_granted contract ends place deed h i p Activated contract_is ends_is at form =
    let apart = last_apart (live h.now p.form) (is_created h.now (T.Position i)) (is_true (verdict_at deed.unit h.now h.before p.antecedent)) in
    cc (at.fired Triggered)
row_granted contract ends place deed h i p Resumed contract_is ends_is at form = all_kept _ ∙ cc (at.done Verbs.Resumes)
row_granted contract ends place deed h i p Suspended contract_is ends_is at form = all_kept _ ∙ cc (at.done Verbs.Suspends, at.fired Activated, at.fired Resumed, at.fired Exerted)
row_granted contract ends place deed h i p Fulfilled contract_is ends_is at form =
    let apart = last_apart (is_obligation p.form) (remains_in_force h.now (T.Position i) p.form) (is_true (duty_verdict deed.unit h.now h.before p.goal)) in
    cc (at.fired Activated, at.fired Resumed, at.fired Suspended, at.fired Discharged, at.fired Terminated)
row_granted contract ends place deed h i p Violated contract_is ends_is at form =
    let apart = last_apart (is_obligation p.form) (remains_in_force h.now (T.Position i) p.form) (is_false (duty_verdict deed.unit h.now h.before p.goal)) in
    cc (at.fired Activated, at.fired Resumed, at.fired Suspended, at.fired Discharged, at.fired Terminated)
row_granted contract ends place deed h i p Expired contract_is ends_is at form =
    let apart = last_two_apart (live h.now p.form) (is_created h.now (T.Position i)) (is_false (verdict_at deed.unit h.now h.before p.antecedent)) (not (has_holds p.antecedent)) in
    cc (at.fired Triggered)
row_granted contract ends place deed h i p Discharged contract_is ends_is at form = all_kept _ ∙ cc (at.done Verbs.Discharges, at.fired Triggered)
row_granted contract ends place deed h i p Terminated contract_is ends_is at form = all_kept _ ∙ cc (at.done Verbs.Terminates, at.fired Triggered, at.fired Exerted)
row_granted contract ends place deed h i p Completed contract_is ends_is at form = refl

-- the two parts, as they are worked out, by what the deed and the present have at the position's number
pub decided : (present : Present) (deed : Deed) (h : History) (i : ℕ) (p : Position) (place : Place) (kind : Kind) (inputs : Inputs) (row bears : Bool) → IsMadeFor present deed → IsPresent present deed h → slice_get deed.positions i ≡ Some p → slice_get present.places.items i ≡ Some place → inputs ≡ granted present.contract present.contract_done.terminates place p.goal kind → row ≡ row_fires place.form place.state inputs kind → bears ≡ grants deed.unit h.now h.before p place.done.triggers kind → (row && bears) ≡ fires deed h.now h.before kind (T.Position i)
decided present deed h i p place kind inputs row bears made is at_p at_place inputs_are row_is bears_is =
    let form = shape_at (λ (x : Place). x.form) (λ (x : Position). x.form) present.places.items deed.positions i place p made.forms at_place at_p in
    let e = row_granted present.contract present.contract_done.terminates place deed h i p kind is.contract (is.contract_done Verbs.Terminates) (is.places i place at_place) form in
    let r = row_is ∙ ap (λ x. row_fires place.form place.state x kind) inputs_are in
    (λ j. r j && bears_is j) ∙ (e ∙ sym (ap (λ o. fires_of deed h.now h.before i o kind) at_p))
