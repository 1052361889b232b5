-- What a plan keeps beside its specification.
use Rattle.std.specs.Prelude.{◌≡◌, ℕ, List, Option, None}
use Rattle.sy_words.specs.declared.form.Form.{Form}
use Rattle.sy_core.specs.declared.deed.Deed.{Deed}
use Rattle.sy_spec.specs.declared.contract.SpecTree.{SpecTree}
use Rattle.sy_order.specs.Nodes.{forms_of}
use Rattle.sy_scope.specs.Scopes.{Things, things_of}
use Rattle.sy_typing.specs.Outlines.{outline}
use Rattle.sy_typing.specs.Plans.{order_of_spec, spec_fault}

-- the names, the outline, the nodes and the order are those of the specification, which has no fault
pub record IsPlanned (spec : SpecTree) (things : Things) (deed : Deed) (forms : List Form) (order : List ℕ) : Type 0 where
  pub sound : spec_fault spec ≡ None
  pub named : things ≡ things_of spec
  pub outlined : deed ≡ outline spec
  pub numbered : forms ≡ forms_of deed.positions
  pub ordered : order ≡ order_of_spec spec
