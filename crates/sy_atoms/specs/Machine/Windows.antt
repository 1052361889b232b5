-- Whether a point gone by counts, by the dates that are known. A date that has no value yet comes later than every point so far.
use Rattle.std.specs.Prelude.{ℤ, Bool, true, false, ◌&&◌, Option, Some, None, int_lt, int_le}

-- each point counts
abbrev pub always : ℤ → Bool
always point = true

-- the point isn't before the date
abbrev pub from_on : Option ℤ → ℤ → Bool
from_on None point = false
from_on (Some date) point = int_le date point

-- the point is before the date
abbrev pub before_date : Option ℤ → ℤ → Bool
before_date None point = true
before_date (Some date) point = int_lt point date

-- the point is after the date
abbrev pub after_date : Option ℤ → ℤ → Bool
after_date None point = false
after_date (Some date) point = int_lt date point

-- the point lies from the one date on and before the other
abbrev pub between : Option ℤ → Option ℤ → ℤ → Bool
between from to point = from_on from point && before_date to point

-- some point from the first on and before the last lies between the dates
abbrev pub overlaps : Option ℤ → Option ℤ → ℤ → ℤ → Bool
overlaps None to first last = false
overlaps (Some d) None first last = int_lt d last && int_lt first last
overlaps (Some d) (Some d') first last = (int_lt d last && int_lt first last) && (int_lt d d' && int_lt first d')

-- a date's value once one is told: it stays where there is one
abbrev pub known : Option ℤ → Option ℤ → Option ℤ
known (Some value) told = Some value
known None told = told

-- this date, where something happens
abbrev pub learned : Bool → ℤ → Option ℤ
learned true date = Some date
learned false date = None
