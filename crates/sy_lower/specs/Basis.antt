-- What the propositions of a specification are turned by into those of a deed.
use Rattle.std.specs.Prelude.{pos, []}
use Rattle.sy_core.specs.declared.deed.Deed.{Deed}
use Rattle.sy_spec.specs.declared.contract.ContractTree.{ContractTree}
use Rattle.sy_scope.specs.Scopes.{Things}
use Rattle.sy_terms.specs.Items.{Environment}
use Rattle.sy_events.specs.Declarations.{Declarations}

-- what names stand for, the contract with its positions, what is known under the binding, and the events and enumerations
pub record Basis : Type 0 where
  pub things : Things
  pub contract : ContractTree
  pub environment : Environment
  pub declared : Declarations

-- a deed that has the unit, the events and the enumerations, and nothing else: whether a value is one of a kind goes by these alone
abbrev pub frame : Basis → Deed
frame b =
    record {
      unit = b.environment.unit;
      start = pos 0;
      events = b.declared.events;
      choices = b.declared.choices;
      positions = [];
      posts = [];
      order = [];
    }
