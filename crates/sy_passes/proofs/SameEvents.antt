-- Two internal events are the same exactly where they are equal.
use Rattle.std.proofs.Common.{◌≡◌, ℕ, true, ◌&&◌, ◌==◌, [], ◌∷◌, get_or, refl, sym, ◌∙◌, ap}
use Rattle.std.proofs.lemmas.Bool.Decides.{Decides-eqb}
use Rattle.sy_words.specs.declared.kind.Kind.{Kind}
use Rattle.sy_words.specs.declared.kind.Kind.TheVariants.{Exerted, Triggered, Activated, Resumed, Suspended, Fulfilled, Violated, Expired, Discharged, Terminated, Completed}
use Rattle.sy_core.specs.declared.kind.Target.{Target}
use Rattle.sy_core.specs.declared.kind.Target.TheVariants as T
use Rattle.sy_core.specs.Mentions.{InternalEvent, same_target}
use Rattle.sy_core.proofs.Listing.{and_left, and_right}
use Rattle.sy_passes.specs.Passes.{kind_number, same_event}

-- the kind with a number
kind_by : ℕ → Kind
kind_by n = get_or (Exerted ∷ Triggered ∷ Activated ∷ Resumed ∷ Suspended ∷ Fulfilled ∷ Violated ∷ Expired ∷ Discharged ∷ Terminated ∷ Completed ∷ []) n Completed

kind_back : (kind : Kind) → kind_by (kind_number kind) ≡ kind
unfolding kind_by
kind_back Exerted = refl
kind_back Triggered = refl
kind_back Activated = refl
kind_back Resumed = refl
kind_back Suspended = refl
kind_back Fulfilled = refl
kind_back Violated = refl
kind_back Expired = refl
kind_back Discharged = refl
kind_back Terminated = refl
kind_back Completed = refl

pub same_targets : (x y : Target) → same_target x y ≡ true → x ≡ y
same_targets T.Contract T.Contract h = refl
same_targets (T.Position i) (T.Position j) h = ap T.Position ((Decides-eqb i j).0 h)
same_targets _ _ h = cc

pub target_itself : (x : Target) → same_target x x ≡ true
target_itself T.Contract = refl
target_itself (T.Position i) = (Decides-eqb i i).1 refl

pub same_events : (d e : InternalEvent) → same_event d e ≡ true → d ≡ e
same_events d e h =
    let number = (Decides-eqb (kind_number d.0) (kind_number e.0)).0 (and_left (kind_number d.0 == kind_number e.0) (same_target d.1 e.1) h) in
    let kind = sym (kind_back d.0) ∙ (ap kind_by number ∙ kind_back e.0) in
    let target = same_targets d.1 e.1 (and_right (kind_number d.0 == kind_number e.0) (same_target d.1 e.1) h) in
    λ j. (kind j, target j)

pub event_itself : (e : InternalEvent) → same_event e e ≡ true
event_itself e = let kind = (Decides-eqb (kind_number e.0) (kind_number e.0)).1 refl in let target = target_itself e.1 in λ j. kind j && target j
