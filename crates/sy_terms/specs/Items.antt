-- What the paths of a specification stand for under a binding: a value, or a thing that has attributes.
use Rattle.std.specs.Prelude.{ℕ, List, slice_get, Option, Some, None, option_and_then, option_map}
use Rattle.std.specs.Map.{lookup}
use Rattle.sy_base.specs.declared.time.TimeUnit.{TimeUnit}
use Rattle.sy_tree.specs.declared.term.PathTree.{PathTree}
use Rattle.sy_tree.specs.declared.term.PathTree.TheVariants as Path
use Rattle.sy_domain.specs.declared.meaning.Meaning.{Meaning}
use Rattle.sy_domain.specs.declared.meaning.Meaning.TheVariants as M
use Rattle.sy_domain.specs.Names.{same}
use Rattle.sy_scope.specs.Scopes.{Things, meaning_of}
use Rattle.sy_given.specs.declared.known.Known.TheVariants as K
use Rattle.sy_given.specs.declared.known.Bound.{Bound}
use Rattle.sy_given.specs.declared.known.Bound.TheVariants as B
use Rattle.sy_terms.specs.declared.item.Item.{Item}
use Rattle.sy_terms.specs.declared.item.Item.TheVariants as I

-- what is known where a term stands
pub record Environment : Type 0 where
  -- the unit in which the contract counts time
  pub unit : TimeUnit
  -- what each parameter is bound to, by its number
  pub parameters : List Bound
  -- what is known of the attributes of each declaration, by its number and their names
  pub declarations : List (List (List ℕ × Item))

-- a parameter stands for its value, and where it has attributes for itself
abbrev pub item_of_bound : ℕ → Bound → Item
item_of_bound i (B.Value v) = I.Value v
item_of_bound i (B.Fields fields) = I.Parameter i

-- what a meaning of a name gives: a parameter, a constant or a declaration
abbrev pub item_of_meaning : Environment → Option Meaning → Option Item
item_of_meaning e (Some (M.Parameter i)) = option_map (item_of_bound i) (slice_get e.parameters i)
item_of_meaning e (Some (M.Constant of i)) = Some (I.Value (K.Constant of i))
item_of_meaning e (Some (M.Declaration i)) = Some (I.Declaration i)
item_of_meaning e _ = None

-- what a name stands for
abbrev pub item_named : Things → Environment → List ℕ → Option Item
item_named s e name = item_of_meaning e (meaning_of s name)

-- an attribute of a parameter, by what the parameter is bound to
abbrev pub field_of : Option Bound → List ℕ → Option Item
field_of (Some (B.Fields fields)) name = option_map (λ v. I.Value v) (lookup (same name) fields)
field_of _ name = None

-- an attribute of a parameter or of a declaration; a value has none
abbrev pub attribute_of : Environment → List ℕ → Option Item → Option Item
attribute_of e name (Some (I.Parameter i)) = field_of (slice_get e.parameters i) name
attribute_of e name (Some (I.Declaration i)) = option_and_then (lookup (same name)) (slice_get e.declarations i)
attribute_of e name _ = None

-- what a path stands for: a thing, an attribute of one, or an attribute of such an attribute
abbrev pub path_item : Things → Environment → PathTree → Option Item
path_item s e (Path.Name x) = item_named s e x.text
path_item s e (Path.Attribute x a) = attribute_of e a.text (item_named s e x.text)
path_item s e (Path.Inner x a b) = attribute_of e b.text (attribute_of e a.text (item_named s e x.text))
