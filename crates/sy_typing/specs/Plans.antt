-- What the checks of a specification say, in their order, and the order in which the nodes of a point are evaluated.
use Rattle.std.specs.Prelude.{ℕ, Bool, if◌then◌else◌, nat_eq, codes, List, [], ◌∷◌, ◌++◌, length, map, slice_get, Option, Some, None, option_and_then}
use Rattle.std.specs.List.{flat_map}
use Rattle.std.specs.Option.{option_or}
use Rattle.sy_base.specs.declared.refusal.Place.{Place}
use Rattle.sy_base.specs.declared.refusal.FaultName.TheVariants as Fault
use Rattle.sy_base.specs.declared.refusal.FileKind.TheVariants as File
use Rattle.sy_base.specs.declared.refusal.Refusal.{Refusal}
use Rattle.sy_core.specs.declared.deed.Deed.{Deed}
use Rattle.sy_core.specs.Orders.{named_cycle}
use Rattle.sy_core.specs.NodeTexts.{node_text}
use Rattle.sy_core.specs.Prerequisites.{Node, Exert, Trig, Act, End, Contract, nodes, nodes_at, numbered_needs, order_of}
use Rattle.sy_spec.specs.declared.contract.ContractTree.{ContractTree}
use Rattle.sy_spec.specs.declared.contract.SpecTree.{SpecTree}
use Rattle.sy_domain.specs.Checks.{domain_checks}
use Rattle.sy_domain.specs.Failures.{fault_of, refusal_of}
use Rattle.sy_names.specs.UnknownNames.{names_known}
use Rattle.sy_types.specs.WrongTypes.{types_right}
use Rattle.sy_literal.specs.Numbers.{numbers_in_range}
use Rattle.sy_literal.specs.Calendar.{calendar_refusal}
use Rattle.sy_literal.specs.Consequents.{consequents_without_situations}
use Rattle.sy_literal.specs.Limits.{limits_kept}
use Rattle.sy_typing.specs.Outlines.{outline}

-- the order in which the nodes of a specification are evaluated, by number
abbrev pub order_of_spec : SpecTree → List ℕ
order_of_spec spec = order_of (outline spec)

-- the order has every node: no node needs itself, by way of others or at once
abbrev pub is_ordered : SpecTree → Bool
is_ordered spec = nat_eq (length (order_of_spec spec)) (length (nodes (outline spec)))

-- the cycle that is named where there is no order: the numbers of its nodes
abbrev pub cycle_of : SpecTree → List ℕ
cycle_of spec = let deed = outline spec in named_cycle (numbered_needs deed) (length (nodes deed))

-- the places of the names of positions, by the positions' numbers
abbrev pub position_places : ContractTree → List Place
position_places contract =
    map (λ o. o.name.place) contract.obligations ++ map (λ o. o.name.place) contract.surviving
    ++ map (λ p. p.name.place) contract.powers

-- where a node stands: at the name of its position, or at the word `Contract` that begins the contract part
abbrev pub node_place : ContractTree → Node → Option Place
node_place contract (Exert i) = slice_get (position_places contract) i
node_place contract (Trig i) = slice_get (position_places contract) i
node_place contract (Act i) = slice_get (position_places contract) i
node_place contract (End i) = slice_get (position_places contract) i
node_place contract Contract = Some contract.place

-- where the first of some numbered nodes stands
abbrev pub first_place : ContractTree → Deed → List ℕ → Option Place
first_place contract deed [] = None
first_place contract deed (number ∷ numbers) = option_and_then (node_place contract) (slice_get (nodes deed) number)

-- words, with a blank between them
abbrev pub joined : List (List ℕ) → List ℕ
joined [] = []
joined (word ∷ words) = word ++ flat_map (λ next. codes " " ++ next) words

-- the texts of some numbered nodes
abbrev pub node_texts : Deed → List ℕ → List (List ℕ)
node_texts deed numbers = map (node_text deed) (nodes_at deed numbers)

-- a specification whose nodes need each other in a cycle is refused at the cycle's first node, with the nodes of the cycle
abbrev pub cycle_refusal : SpecTree → Option Refusal
cycle_refusal spec =
    if is_ordered spec then None
    else Some (record {
      file = File.Spec;
      place = first_place spec.contract (outline spec) (cycle_of spec);
      name = Fault.InstantCycle;
      words = joined (node_texts (outline spec) (cycle_of spec));
    })

-- the first of some refusals
unfoldable pub first_refusal : List (Option Refusal) → Option Refusal
first_refusal [] = None
first_refusal (refusal ∷ refusals) = option_or refusal (first_refusal refusals)

-- what the checks say that come behind those of the domain part, in their order
unfoldable pub text_refusals : SpecTree → List (Option Refusal)
text_refusals spec =
    refusal_of (names_known spec) ∷ refusal_of (types_right spec) ∷ refusal_of (numbers_in_range spec) ∷ calendar_refusal spec
    ∷ refusal_of (consequents_without_situations spec) ∷ refusal_of (limits_kept spec) ∷ []

-- the fault of a specification: the first of all that its checks say, those of the domain part first and that of its order last
unfoldable pub spec_fault : SpecTree → Option Refusal
spec_fault spec =
    option_or (fault_of (domain_checks spec)) (option_or (first_refusal (text_refusals spec)) (cycle_refusal spec))

-- a line of the order
abbrev pub order_line : List ℕ → List ℕ
order_line node = codes "order " ++ node ++ codes "\n"

-- the order of evaluation, a line for each node
abbrev pub order_text : SpecTree → List ℕ
order_text spec = flat_map order_line (node_texts (outline spec) (order_of_spec spec))
