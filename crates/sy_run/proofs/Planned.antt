-- A specification that was read and checked.
use Rattle.std.proofs.Common.{◌≡◌, List, ℕ, Option, Result, Ok, Err, refl}
use Rattle.sy_spec.specs.declared.contract.SpecTree.{SpecTree}
use Rattle.sy_run.specs.Machine.Stopping.{IsToldAs}
use Rattle.sy_run.specs.Texts.{IsSoundSpecIn, IsSpecIn, checked}
use Rattle.sy_run.specs.declared.stop.Stop.{Stop}
use Rattle.sy_run.specs.declared.stop.Stop.TheVariants as stop

-- what its checks say of the specification in a file
pub sound_or_refused : (told : Option (List ℕ)) (tree : SpecTree) (result : Result SpecTree Stop) → IsSpecIn told (Ok tree)
    → IsToldAs (λ (r : Result SpecTree Stop). r ≡ checked (Ok tree)) result → IsToldAs (IsSoundSpecIn told) result
sound_or_refused told tree (Ok plan) given is = (Ok tree, given, is)
sound_or_refused told tree (Err (stop.Refused refusal)) given is = (Ok tree, given, is)
sound_or_refused told tree (Err stop.ReadFault) given is = tt
sound_or_refused told tree (Err stop.Memory) given is = tt

-- a file that gives no specification gives none without a fault
pub not_read : (told : Option (List ℕ)) (why : Stop) → IsToldAs (IsSpecIn told) (Err why) → IsToldAs (IsSoundSpecIn told) (Err why)
not_read told (stop.Refused refusal) given = (Err (stop.Refused refusal), given, refl)
not_read told stop.ReadFault given = tt
not_read told stop.Memory given = tt
