-- Walks up the isA chains that leave a mark at each type, and end where a mark is.
use Rattle.std.specs.Prelude.{◌≡◌, ◌⊎◌, ◌<◌, ℕ, zero, suc, List, length, get_or, Option, Some, None, option_and_then}
use Rattle.sy_chains.specs.Chains.{Bases, base_at}

-- the type so many steps up the chain from a type
abbrev pub up : Bases → ℕ → ℕ → Option ℕ
up bases zero n = Some n
up bases (suc k) n = option_and_then (up bases k) (base_at bases n)

-- a type's chain leads to another type, in one step or more
abbrev pub Leads : Bases → ℕ → ℕ → Type 0
Leads bases n m = (k : ℕ) × (up bases (suc k) n ≡ Some m)

-- for each type the type from which a walk came to it
abbrev pub Marks : Type 0
Marks = List (Option ℕ)

abbrev pub IsMarked : Marks → ℕ → Type 0
IsMarked marks n = (from : ℕ) × (get_or marks n None ≡ Some from)

-- a type that a walk marks, which has come to an end that may be none: it had no mark, the walk came to it, and it leads to the end
pub record IsPassed (bases : Bases) (from : ℕ) (before after : Marks) (end : Option ℕ) (n w : ℕ) : Type 0 where
  pub by : w ≡ from
  pub new : get_or before n None ≡ None
  pub to_end : (k : ℕ) × (up bases (suc k) n ≡ end)
  pub from_start : (k : ℕ) × (up bases k from ≡ Some n)
  pub goes_on : (b : ℕ) → base_at bases n ≡ Some b → IsMarked after b ⊎ (end ≡ Some b)

-- a walk from a type has come to an end
pub record IsWalk (bases : Bases) (from : ℕ) (before after : Marks) (end : Option ℕ) : Type 0 where
  pub same_length : length after ≡ length before
  pub kept : (n w : ℕ) → get_or before n None ≡ Some w → get_or after n None ≡ Some w
  pub passed : (n w : ℕ) → get_or after n None ≡ Some w
      → (get_or before n None ≡ Some w) ⊎ IsPassed bases from before after end n w
  pub start : IsMarked after from ⊎ (end ≡ Some from)
  pub reached : (k : ℕ) × (up bases k from ≡ end)

-- no type without a mark stands at the end
abbrev pub IsOver : Marks → Option ℕ → Type 0
IsOver marks end = (n : ℕ) → end ≡ Some n → n < length marks → IsMarked marks n

-- walks from all types below a number: those on a cycle are told by marks of their own
pub record AreWalked (bases : Bases) (below : ℕ) (marks cyclic : Marks) : Type 0 where
  pub marks_length : length marks ≡ length bases
  pub cyclic_length : length cyclic ≡ length bases
  pub walks : (n w : ℕ) → get_or marks n None ≡ Some w → w < below
  pub seen : (n : ℕ) → n < below → IsMarked marks n
  pub goes_on : (n b : ℕ) → IsMarked marks n → base_at bases n ≡ Some b → b < length bases → IsMarked marks b
  pub sound : (n : ℕ) → IsMarked cyclic n → IsMarked marks n × Leads bases n n
  pub complete : (n : ℕ) → IsMarked marks n → Leads bases n n → IsMarked cyclic n
