-- The places of a deed's positions once the narrative exerts one.
use Rattle.std.proofs.Common.{◌≡◌, ℕ, zero, suc, ◌<◌, ◌≤◌, List, [], ◌∷◌, map, ◌⊎◌, inl, inr, Some, slice_get, length, get_or, slice_set, refl, ap, arith}
use Rattle.sy_present.specs.declared.place.Place.{Place}
use Rattle.sy_present.specs.Machine.Asked.{asked, asking}

pub asking_set : (i : ℕ) (places : List Place) (d : Place) → i < length places → slice_set places i (asked (get_or places i d)) ≡ asking i places
asking_set zero [] d lt = absurd (omega arith)
asking_set (suc i) [] d lt = absurd (omega arith)
asking_set zero (p ∷ ps) d lt = refl
asking_set (suc i) (p ∷ ps) d lt = ap (λ l. p ∷ l) (asking_set i ps d (omega arith))

pub asking_none : (i : ℕ) (places : List Place) → length places ≤ i → places ≡ asking i places
asking_none zero [] le = refl
asking_none (suc i) [] le = refl
asking_none zero (p ∷ ps) le = absurd (omega arith)
asking_none (suc i) (p ∷ ps) le = ap (λ l. p ∷ l) (asking_none i ps (omega arith))

pub asking_forms : (i : ℕ) (places : List Place) → map (λ (place : Place). place.form) (asking i places) ≡ map (λ (place : Place). place.form) places
asking_forms zero [] = refl
asking_forms (suc i) [] = refl
asking_forms zero (p ∷ ps) = refl
asking_forms (suc i) (p ∷ ps) = ap (λ l. p.form ∷ l) (asking_forms i ps)

-- a place is the one that is exerted, or stayed
abbrev pub IsAsked : ℕ → ℕ → Place → Place → Type 0
IsAsked i k before place = ((k ≡ i) × (place ≡ asked before)) ⊎ ((k ≡ i → ⊥) × (place ≡ before))

-- what stood at a place
abbrev pub Stood : ℕ → List Place → ℕ → Place → Type 0
Stood i places k place = (before : Place) × (slice_get places k ≡ Some before) × IsAsked i k before place

later : (i k : ℕ) (places : List Place) (p place : Place) → Stood i places k place → Stood (suc i) (p ∷ places) (suc k) place
later i k places p place (before, is, inl (e, same)) = (before, is, inl (ap suc e, same))
later i k places p place (before, is, inr (e, same)) = (before, is, inr (λ s. e (omega (arith, s)), same))

pub asking_at : (i : ℕ) (places : List Place) (k : ℕ) (place : Place) → slice_get (asking i places) k ≡ Some place → Stood i places k place
asking_at zero [] k place is = cc
asking_at (suc i) [] k place is = cc
asking_at zero (p ∷ ps) zero place is = (p, refl, inl (refl, cc))
asking_at zero (p ∷ ps) (suc k) place is = (place, is, inr (λ s. omega (arith, s), refl))
asking_at (suc i) (p ∷ ps) zero place is = (p, refl, inr (λ s. omega (arith, s), cc))
asking_at (suc i) (p ∷ ps) (suc k) place is = later i k ps p place (asking_at i ps k place is)
