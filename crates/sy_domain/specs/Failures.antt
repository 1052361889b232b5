-- Where a check of a text fails, and which of its failures is the text's fault: the one that stands first in the source, of the first check
-- that fails.
use Rattle.std.specs.Prelude.{◌≡◌, ℕ, Bool, true, false, ◌||◌, ◌&&◌, if◌then◌else◌, nat_eq, nat_lt, List, [], ◌∷◌, Option, Some, None, option_map, Result, Ok, Err, ⊤}
use Rattle.std.specs.List.{fold}
use Rattle.std.specs.Option.{option_or}
use Rattle.sy_base.specs.declared.refusal.Place.{Place}
use Rattle.sy_base.specs.declared.refusal.FaultName.{FaultName}
use Rattle.sy_base.specs.declared.refusal.FileKind.{FileKind}
use Rattle.sy_base.specs.declared.refusal.FileKind.TheVariants as File
use Rattle.sy_base.specs.declared.refusal.Refusal.{Refusal}
use Rattle.sy_base.specs.declared.refusal.Refused.{Refused}
use Rattle.sy_base.specs.declared.refusal.Refused.TheVariants as Why
use Rattle.sy_lex.specs.declared.written.Written.{Written}
use Rattle.sy_domain.specs.declared.failure.Failure.{Failure}

-- the failure at a token: its place and its own text
abbrev pub at : Written → Failure
at token = record { place = Some token.place; words = token.text }

-- a failure at a token, unless all is well
abbrev pub unless : Bool → Written → List Failure
unless well token = if well then [] else at token ∷ []

-- a check of a text: the name of its fault, and where it fails, in any order
pub record Check : Type 0 where
  pub file : FileKind
  pub name : FaultName
  pub failures : List Failure

-- a check of a specification
abbrev pub of_spec : FaultName → List Failure → Check
of_spec name failures = record { file = File.Spec; name = name; failures = failures }

-- a place stands before another
abbrev pub is_before : Place → Place → Bool
is_before a b = nat_lt a.line b.line || (nat_eq a.line b.line && nat_lt a.column b.column)

-- the same of places that may be left out: nothing stands before a failure without one
abbrev pub stands_before : Option Place → Option Place → Bool
stands_before (Some a) (Some b) = is_before a b
stands_before _ _ = false

-- the one of two failures that stands first; of two at one place, the one before the other in the list
abbrev pub sooner : Option Failure → Failure → Option Failure
sooner None failure = Some failure
sooner (Some other) failure = if stands_before failure.place other.place then Some failure else Some other

-- the failure that stands first in the source
abbrev pub first : List Failure → Option Failure
first = fold sooner None

-- the refusal of a text for a failure
abbrev pub refusal : FileKind → FaultName → Failure → Refusal
refusal file name failure = record { file = file; place = failure.place; name = name; words = failure.words }

-- the refusal that a check makes, if it fails
abbrev pub refusal_of : Check → Option Refusal
refusal_of check = option_map (refusal check.file check.name) (first check.failures)

-- the fault of a text: the first failure of the first check that fails
unfoldable pub fault_of : List Check → Option Refusal
fault_of [] = None
fault_of (check ∷ checks) = option_or (refusal_of check) (fault_of checks)

-- a call refuses with this fault, and where there is none it gives a value; want of memory aside
abbrev pub Answers : {A : Type 0} → Option Refusal → Result A Refused → Type 0
Answers fault (Ok a) = fault ≡ None
Answers fault (Err (Why.Refusal r)) = fault ≡ Some r
Answers fault (Err Why.Memory) = ⊤
