-- The ends of isA chains, noted at the types on them.
use Rattle.std.specs.Prelude.{◌≡◌, ◌⊎◌, ◌<◌, ℕ, length, get_or, Option, Some, None}
use Rattle.sy_chains.specs.Chains.{Bases, chain_end}
use Rattle.sy_chains.specs.Machine.Walks.{Marks, IsMarked}

-- each mark is the end of its type's chain
abbrev pub AreEnds : Bases → Marks → Type 0
AreEnds bases ends = (n e : ℕ) → get_or ends n None ≡ Some e → e ≡ chain_end bases n

-- the end of the chain from a type on is noted so far, up to a type
pub record IsNoted (bases : Bases) (from end : ℕ) (before after : Marks) (at : Option ℕ) : Type 0 where
  pub same_length : length after ≡ length before
  pub ends : AreEnds bases after
  pub kept : (n : ℕ) → IsMarked before n → IsMarked after n
  pub start : IsMarked after from ⊎ (at ≡ Some from)
  pub goes_on : (n : ℕ) → at ≡ Some n → end ≡ chain_end bases n

-- the ends of the chains of all types below a number are noted
pub record AreNoted (bases : Bases) (below : ℕ) (ends : Marks) : Type 0 where
  pub same_length : length ends ≡ length bases
  pub are_ends : AreEnds bases ends
  pub seen : (n : ℕ) → n < below → IsMarked ends n
