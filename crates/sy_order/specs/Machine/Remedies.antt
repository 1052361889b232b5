-- The remedies of a position, by number.
use Rattle.std.specs.Prelude.{◌≡◌, ℕ, ◌<◌, ◌==◌, ◌-◌, Bool, false, List, [], ◌∷◌, ◌++◌, length, slice_index_or, slice_get, Option, Some, None, if◌then◌else◌}
use Rattle.std.specs.List.{enumerate_from, flat_map, list_any}
use Rattle.sy_core.specs.declared.kind.Target.TheVariants as T
use Rattle.sy_core.specs.declared.position.Position.{Position}
use Rattle.sy_core.specs.Mentions.{InternalEvent, is_violation_of}
use Rattle.sy_core.specs.Conditions.{is_remedy}

-- the number of the remedy, if the violation of position number k is named
abbrev pub violated_by : ℕ → ℕ → List InternalEvent → List ℕ
violated_by number k names = if list_any (is_violation_of (T.Position k)) names then number ∷ [] else []

-- the number that is there is this one
abbrev pub is_number : ℕ → Option ℕ → Bool
is_number number None = false
is_number number (Some other) = other == number

-- the list's last item is the number
abbrev pub ends_in : ℕ → List ℕ → Bool
ends_in number list = is_number number (slice_get list (length list - 1))

-- none of the lists ends in the number
abbrev pub NoneEndsIn : ℕ → List (List ℕ) → Type 0
NoneEndsIn number lists = (k : ℕ) → ends_in number (slice_index_or lists k []) ≡ false

-- the list, with the number at its end
abbrev pub ending_in : ℕ → List ℕ → List ℕ
ending_in number list = if ends_in number list then list else list ++ number ∷ []

-- the list of the position that is violated in the event ends in the number, and the others are as they were
pub record AreNoted (number : ℕ) (event : InternalEvent) (old new : List (List ℕ)) : Type 0 where
  pub noted_length : length new ≡ length old
  pub noted : (k : ℕ) → k < length old
      → slice_index_or new k [] ≡ (if is_violation_of (T.Position k) event then ending_in number (slice_index_or old k []) else slice_index_or old k [])

-- the number of the position, if it is a remedy of position number k
abbrev pub remedy_of : ℕ → ℕ → Position → List ℕ
remedy_of number k position = if is_remedy (T.Position k) position then number ∷ [] else []

-- the numbers of the remedies of position number k
abbrev pub given_remedies : List Position → ℕ → List ℕ
given_remedies positions k = flat_map (λ n. remedy_of n.0 k n.1) (enumerate_from 0 positions)
