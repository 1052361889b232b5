-- Events that happen at once, where the condition of each may look at others of them.
-- A set of events is a test. A condition says of each event, for a set that is taken to happen, whether the event happens then. In rounds,
-- begun with no event, each takes the events whose condition is true of the set of the round before.
use Rattle.std.specs.Prelude.{◌≡◌, ℕ, zero, suc, Bool, false}

-- the set that is reached from none, in so many rounds
abbrev pub rounds : {E : Type 0} → ((E → Bool) → E → Bool) → ℕ → E → Bool
rounds condition zero e = false
rounds condition (suc n) e = condition (rounds condition n) e

-- the conditions leave the set as it is
abbrev pub IsSettled : {E : Type 0} → ((E → Bool) → E → Bool) → (E → Bool) → Type 0
IsSettled {E} condition set = (e : E) → condition set e ≡ set e
