-- The deed by its parts.
use Rattle.std.proofs.Common.{◌≡◌, ℕ, List, arith, rules, w64, to_z, of_z}
use Rattle.std.proofs.lemmas.Int.{ints, to_z-of_z}
use Rattle.std.specs.Prelude.{ℤ, pos, neg_ℤ, ◌≤ℤ◌}
use Rattle.sy_base.specs.declared.time.TimeUnit.{TimeUnit}
use Rattle.sy_base.specs.declared.time.TimeUnit.TheVariants.{Minute, Hour, Day}
use Rattle.sy_base.specs.Points.{IsDated}
use Rattle.sy_core.specs.declared.deed.Choices.{Choices}
use Rattle.sy_core.specs.declared.deed.EventDecl.{EventDecl}
use Rattle.sy_core.specs.declared.deed.Deed.{Deed}
use Rattle.sy_core.specs.declared.position.Position.{Position}
use Rattle.sy_core.specs.declared.proposition.Prop.{Prop}
use Rattle.sy_spec.specs.declared.contract.SpecTree.{SpecTree}
use Rattle.sy_binding.specs.declared.tree.BindTree.{BindTree}
use Rattle.sy_typing.specs.Plans.{order_of_spec}
use Rattle.sy_lower.specs.Positions.{positions, postconditions}
use Rattle.sy_bind.specs.Deeds.{basis_of, deed_of, start_of}

pub whole : (spec : SpecTree) (tree : BindTree) (u : TimeUnit) (t : ℤ) (es : List EventDecl) (cs : List Choices) (ps : List Position) (qs : List Prop) (os : List ℕ)
    → u ≡ spec.contract.unit.unit
    → t ≡ start_of spec.contract.unit.unit tree.start.text
    → es ≡ (basis_of spec tree).declared.events
    → cs ≡ (basis_of spec tree).declared.choices
    → ps ≡ positions (basis_of spec tree)
    → qs ≡ postconditions (basis_of spec tree)
    → os ≡ order_of_spec spec
    → record { unit = u; start = t; events = es; choices = cs; positions = ps; posts = qs; order = os } ≡ deed_of spec tree
unfolding deed_of
whole spec tree u t es cs ps qs os a b c d e f g =
    λ j. record { unit = a j; start = b j; events = c j; choices = d j; positions = e j; posts = f j; order = g j }

-- 1970 is within the range of dates
pub zero_dated : (unit : TimeUnit) → IsDated unit (pos 0)
zero_dated Minute = record { not_before = omega arith; not_after = omega arith }
zero_dated Hour = record { not_before = omega arith; not_after = omega arith }
zero_dated Day = record { not_before = omega arith; not_after = omega arith }

-- a point of a date is passed on as it is
pub passed_on : (unit : TimeUnit) (point : ℤ) → IsDated unit point → to_z w64 (of_z w64 point) ≡ point
passed_on Minute point d = let l = d.not_before in let h = d.not_after in to_z-of_z w64 point (search (rules, ints))
passed_on Hour point d = let l = d.not_before in let h = d.not_after in to_z-of_z w64 point (search (rules, ints))
passed_on Day point d = let l = d.not_before in let h = d.not_after in to_z-of_z w64 point (search (rules, ints))
