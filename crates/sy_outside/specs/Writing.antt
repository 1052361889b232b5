-- What writing a text does to the bytes that a sink holds.
use Rattle.std.specs.Prelude.{ℕ, ◌≤◌, ◌<◌, List, length, take, Result, MatchResult}
use Rattle.std.specs.declared.option.Option.{Option}
use Rattle.std.specs.Io.KnownBytes.{Appends}

-- a prefix of the bytes was appended
abbrev pub AppendsPrefix : Option (List ℕ) → Option (List ℕ) → List ℕ → Type 0
AppendsPrefix old new bytes = (n : ℕ) × (n ≤ length bytes) × Appends old new (take n bytes)

-- a prefix of the bytes was appended, and it isn't all of them
abbrev pub AppendsProperPrefix : Option (List ℕ) → Option (List ℕ) → List ℕ → Type 0
AppendsProperPrefix old new bytes = (n : ℕ) × (n < length bytes) × Appends old new (take n bytes)

-- all of the bytes at Ok, and a proper prefix of them at Err
abbrev pub WritesAll : {T E : Type 0} → Option (List ℕ) → Option (List ℕ) → Result T E → List ℕ → Type 0
WritesAll old new r bytes = MatchResult r (λ _. Appends old new bytes) (λ _. AppendsProperPrefix old new bytes)
