-- What stands in the table of a deed.
use Rattle.std.specs.Prelude.{◌≡◌, ◌≤◌, ℕ, List, length, ◌++◌}
use Rattle.std.specs.List.{flat_map}
use Rattle.sy_core.specs.declared.kind.Target.TheVariants as T
use Rattle.sy_core.specs.declared.deed.Deed.{Deed}
use Rattle.sy_core.specs.Conditions.{remedies_of}
use Rattle.sy_core.specs.Prerequisites.{Node, obligation_nodes}
use Rattle.sy_order.specs.declared.power.Power.{Power}
use Rattle.sy_order.specs.Machine.Powers.{powers_on, AreLists}
use Rattle.sy_order.specs.Machine.Remedies.{given_remedies}

-- the powers on each position and on the contract, and the remedies of each position
pub record IsTable (deed : Deed) (powers : List (List Power)) (contract_powers : List Power) (remedies : List (List ℕ)) : Type 0 where
  pub few : length deed.positions ≤ 500
  pub powers_are : AreLists (length deed.positions) (λ k. powers_on (T.Position k) deed.positions) powers
  pub contract_powers_are : contract_powers ≡ powers_on T.Contract deed.positions
  pub remedies_are : AreLists (length deed.positions) (given_remedies deed.positions) remedies

-- the nodes of position number i and of its remedies
abbrev pub with_remedies : Deed → ℕ → List Node
with_remedies deed i = obligation_nodes i ++ flat_map (λ remedy. obligation_nodes remedy.0) (remedies_of deed (T.Position i))
