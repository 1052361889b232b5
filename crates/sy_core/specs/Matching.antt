-- When what happens is of the event that a proposition names.
-- What happens matches a declared event when it is of that event and every guard is true of its values. A guard whose attribute has no
-- value there, or whose two values can't be compared, isn't true: = and != compare two values of one basic or enumeration type, and the
-- other four two numbers or two dates. An internal event matches itself: the same kind of the same target.
use Rattle.std.specs.Prelude.{ℤ, Bool, false, not, ◌&&◌, ◌==◌, List, Option, Some, None, slice_get, int_lt, nat_eq}
use Rattle.std.specs.Bool.{beq}
use Rattle.std.specs.Ordering.{int_eq}
use Rattle.std.specs.List.{list_all}
use Rattle.std.specs.Cmp.Lexicographic.{pointwise}
use Rattle.sy_words.specs.declared.comparison.Cmp.{Cmp}
use Rattle.sy_words.specs.declared.comparison.Cmp.TheVariants.{Eq, Ne, Lt, Le, Gt, Ge}
use Rattle.sy_core.specs.declared.value.Value.{Value}
use Rattle.sy_core.specs.declared.value.Value.TheVariants as V
use Rattle.sy_core.specs.declared.event.Guard.{Guard}
use Rattle.sy_core.specs.declared.event.Ev.{Ev}
use Rattle.sy_core.specs.declared.event.Ev.TheVariants.{Outer}
use Rattle.sy_core.specs.declared.happening.What.{What}
use Rattle.sy_core.specs.declared.happening.What.TheVariants.{Event}

-- two whole numbers, or two dates, under a comparison
abbrev pub numbers_compare : Cmp → ℤ → ℤ → Bool
numbers_compare Eq a b = int_eq a b
numbers_compare Ne a b = not (int_eq a b)
numbers_compare Lt a b = int_lt a b
numbers_compare Le a b = not (int_lt b a)
numbers_compare Gt a b = int_lt b a
numbers_compare Ge a b = not (int_lt a b)

-- values that can only be told apart, not ordered
abbrev pub equals_compare : Cmp → Bool → Bool
equals_compare Eq same = same
equals_compare Ne same = not same
equals_compare _ same = false

-- the comparison is true of two values; of values of two types none is
abbrev pub compares : Cmp → Value → Value → Bool
compares cmp (V.Number a) (V.Number b) = numbers_compare cmp a b
compares cmp (V.Date a) (V.Date b) = numbers_compare cmp a b
compares cmp (V.Text a) (V.Text b) = equals_compare cmp (pointwise nat_eq a b)
compares cmp (V.Boolean a) (V.Boolean b) = equals_compare cmp (beq a b)
compares cmp (V.Choice e a) (V.Choice f b) = (e == f) && equals_compare cmp (a == b)
compares cmp _ _ = false

-- the guard is true of the value of its attribute, where there is one
abbrev pub guard_holds : Guard → Option Value → Bool
guard_holds guard None = false
guard_holds guard (Some value) = compares guard.cmp value guard.value

-- every guard is true of the values
abbrev pub guards_hold : List Guard → List Value → Bool
guards_hold guards values = list_all (λ guard. guard_holds guard (slice_get values guard.attr)) guards

-- what happened in the outside world matches the event: it is of that event, and every guard is true
abbrev pub matches : Ev → What → Bool
matches (Outer event guards) (Event of values) = (event == of) && guards_hold guards values
matches _ _ = false
