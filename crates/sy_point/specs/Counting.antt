-- How many points are wake points.
use Rattle.std.specs.Prelude.{ℕ, zero, suc, ℤ, ◌-ℤ◌, nat_abs, int_lt, List, if◌then◌else◌}
use Rattle.sy_core.specs.declared.deed.Deed.{Deed}
use Rattle.sy_core.specs.declared.happening.Happening.{Happening}
use Rattle.sy_core.specs.Wakes.{is_wake_after}

-- how many of the first n points from start on are wake points
abbrev pub wakes : Deed → List Happening → ℕ → ℕ
wakes deed narrative zero = 0
wakes deed narrative (suc n) = if is_wake_after deed narrative n then suc (wakes deed narrative n) else wakes deed narrative n

-- how many of the points from start to a date are, the date with them
abbrev pub wakes_up_to : Deed → List Happening → ℤ → ℕ
wakes_up_to deed narrative date = if int_lt date deed.start then 0 else wakes deed narrative (suc (nat_abs (date -ℤ deed.start)))
