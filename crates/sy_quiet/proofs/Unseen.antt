-- Dates and moments: a moment in which nothing is seen changes no date, and a date that is known keeps its value.
use Rattle.std.proofs.Common.{◌≡◌, ℤ, Bool, true, false, List, [], ◌∷◌, Option, Some, None, refl, ◌∙◌, ap, if◌then◌else◌}
use Rattle.std.specs.Option.{option_map}
use Rattle.sy_base.specs.declared.time.TimeUnit.{TimeUnit}
use Rattle.sy_core.specs.declared.event.Ev.{Ev}
use Rattle.sy_core.specs.declared.date_term.Base.{Base}
use Rattle.sy_core.specs.declared.date_term.Base.TheVariants.{Fixed, First}
use Rattle.sy_core.specs.declared.date_term.DateTerm.{DateTerm}
use Rattle.sy_core.specs.Moments.{Moment, up_to, first_point, base_value, all_added, date_value}

pub first_unseen : (e : Ev) (ms : List Moment) (x : Moment) → x.seen e ≡ false → first_point e (up_to x ms) ≡ first_point e ms
first_unseen e [] x h = ap (λ b. if b then Some x.point else None) h
first_unseen e (y ∷ ms) x h = ap (λ o. if y.seen e then Some y.point else o) (first_unseen e ms x h)

pub date_unseen : (unit : TimeUnit) (term : DateTerm) (ms : List Moment) (x : Moment) → ((e : Ev) → x.seen e ≡ false) → date_value unit term (up_to x ms) ≡ date_value unit term ms
date_unseen unit term ms x none = at term.base
  where
    at : (base : Base) → option_map (λ p. all_added unit p term.plus) (base_value base (up_to x ms)) ≡ option_map (λ p. all_added unit p term.plus) (base_value base ms)
    at (Fixed d) = refl
    at (First e) = ap (option_map (λ p. all_added unit p term.plus)) (first_unseen e ms x (none e))

first_keeps : (e : Ev) (ms : List Moment) (m : Moment) (v : ℤ) → first_point e ms ≡ Some v → first_point e (up_to m ms) ≡ Some v
first_keeps e [] m v h = cc
first_keeps e (x ∷ ms) m v h = at (x.seen e) h (first_keeps e ms m v)
  where
    at : (b : Bool) → (if b then Some x.point else first_point e ms) ≡ Some v → (first_point e ms ≡ Some v → first_point e (up_to m ms) ≡ Some v) → (if b then Some x.point else first_point e (up_to m ms)) ≡ Some v
    at true h later = h
    at false h later = later h

pub date_keeps : (unit : TimeUnit) (term : DateTerm) (ms : List Moment) (m : Moment) (v : ℤ) → date_value unit term ms ≡ Some v → date_value unit term (up_to m ms) ≡ Some v
date_keeps unit term ms m v h = at term.base h
  where
    by_first : (o o' : Option ℤ) → ((w : ℤ) → o ≡ Some w → o' ≡ Some w) → option_map (λ p. all_added unit p term.plus) o ≡ Some v → option_map (λ p. all_added unit p term.plus) o' ≡ Some v
    by_first None o' keeps h = cc
    by_first (Some w) o' keeps h = ap (option_map (λ p. all_added unit p term.plus)) (keeps w refl) ∙ h

    at : (base : Base) → option_map (λ p. all_added unit p term.plus) (base_value base ms) ≡ Some v → option_map (λ p. all_added unit p term.plus) (base_value base (up_to m ms)) ≡ Some v
    at (Fixed d) h = h
    at (First e) h = by_first (first_point e ms) (first_point e (up_to m ms)) (λ w is. first_keeps e ms m w is) h
