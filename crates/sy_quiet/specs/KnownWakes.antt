-- What is known of wake points before they come.
use Rattle.std.specs.Prelude.{◌≡◌, ℕ, zero, suc, ◌+◌, ◌<◌, pos, ◌+ℤ◌, Bool, true, false, ◌||◌, List}
use Rattle.std.specs.Ordering.{int_eq}
use Rattle.std.specs.List.{list_any}
use Rattle.sy_core.specs.declared.deed.Deed.{Deed}
use Rattle.sy_core.specs.declared.happening.Happening.{Happening}
use Rattle.sy_core.specs.Chronicle.{chronicle, moment_at}
use Rattle.sy_core.specs.Wakes.{dates_of_deed, falls_on, has_internal_event}

-- the narrative has something at the n-th point after start
abbrev pub is_told : Deed → List Happening → ℕ → Bool
is_told deed narrative n = list_any (λ h. int_eq h.point (deed.start +ℤ pos n)) narrative

-- by the moments before the n-th point after start, the value of some date term is the m-th
abbrev pub is_due : Deed → List Happening → ℕ → ℕ → Bool
is_due deed narrative n m = list_any (falls_on deed.unit (deed.start +ℤ pos m) (chronicle deed narrative n)) (dates_of_deed deed)

-- something internal happens at the n-th point after start
abbrev pub is_eventful : Deed → List Happening → ℕ → Bool
is_eventful deed narrative n = has_internal_event deed (moment_at deed narrative n)

-- the n-th point after start is a wake point, by its happenings and the moments before it
abbrev pub is_known_wake : Deed → List Happening → ℕ → Bool
is_known_wake deed narrative zero = true
is_known_wake deed narrative (suc n) =
    is_told deed narrative (suc n) || is_due deed narrative (suc n) (suc n) || is_eventful deed narrative n

-- at the m points after the n-th the narrative has nothing, and no date falls on them by the moments up to the n-th
abbrev pub NothingComes : Deed → List Happening → ℕ → ℕ → Type 0
NothingComes deed narrative n m =
    (k : ℕ) → k < m → (is_told deed narrative (suc n + k) || is_due deed narrative (suc n) (suc n + k)) ≡ false
