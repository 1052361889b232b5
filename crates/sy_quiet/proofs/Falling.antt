-- Dates of which none falls on a point, and those of a part of them.
use Rattle.std.proofs.Common.{◌≡◌, ℕ, zero, suc, ℤ, List, [], ◌∷◌, ◌++◌, Some, slice_get, subst}
use Rattle.std.specs.List.{flat_map}
use Rattle.sy_base.specs.declared.time.TimeUnit.{TimeUnit}
use Rattle.sy_core.specs.declared.date_term.DateTerm.{DateTerm}
use Rattle.sy_core.specs.declared.position.Position.{Position}
use Rattle.sy_core.specs.Moments.{Moment, date_value}
use Rattle.sy_core.specs.Mentions.{dates_of, dates_of_duty}
use Rattle.sy_core.specs.Wakes.{dates_of_position}

module _ (unit : TimeUnit) (point : ℤ) (moments : List Moment) where
  -- none of the dates has this value
  abbrev pub NoneFalls : List DateTerm → Type 0
  NoneFalls [] = Unit {0}
  NoneFalls (d ∷ ds) = (date_value unit d moments ≡ Some point → ⊥) × NoneFalls ds

  -- none of the dates of a position has it
  abbrev pub NoneFallsFor : Position → Type 0
  NoneFallsFor p = NoneFalls (dates_of p.trigger) × NoneFalls (dates_of p.antecedent) × NoneFalls (dates_of_duty p.goal)

  pub falls_left : (ds es : List DateTerm) → NoneFalls (ds ++ es) → NoneFalls ds
  falls_left [] es h = tt
  falls_left (d ∷ ds) es h = (h.0, falls_left ds es h.1)

  pub falls_right : (ds es : List DateTerm) → NoneFalls (ds ++ es) → NoneFalls es
  falls_right [] es h = h
  falls_right (d ∷ ds) es h = falls_right ds es h.1

  pub falls_in : {X : Type 0} (f : X → List DateTerm) (xs : List X) (i : ℕ) (x : X) → slice_get xs i ≡ Some x → NoneFalls (flat_map f xs) → NoneFalls (f x)
  falls_in f [] i x is h = cc
  falls_in f (y ∷ ys) zero x is h = let same : y ≡ x = cc in subst (λ z. NoneFalls (f z)) same (falls_left (f y) (flat_map f ys) h)
  falls_in f (y ∷ ys) (suc i) x is h = falls_in f ys i x is (falls_right (f y) (flat_map f ys) h)

  pub falls_for : (p : Position) → NoneFalls (dates_of_position p) → NoneFallsFor p
  falls_for p h =
      let two = falls_left (dates_of p.trigger ++ dates_of p.antecedent) (dates_of_duty p.goal) h in
      (falls_left (dates_of p.trigger) (dates_of p.antecedent) two, falls_right (dates_of p.trigger) (dates_of p.antecedent) two, falls_right (dates_of p.trigger ++ dates_of p.antecedent) (dates_of_duty p.goal) h)
