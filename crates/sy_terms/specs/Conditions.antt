-- Comparisons, and the conditions that are made of them.
use Rattle.std.specs.Prelude.{Bool, false, not, ◌&&◌, ◌==◌, nat_eq, Option, Some}
use Rattle.std.specs.Bool.{beq}
use Rattle.std.specs.List.{list_all, list_any}
use Rattle.sy_words.specs.declared.comparison.Cmp.{Cmp}
use Rattle.sy_tree.specs.declared.term.TermTree.{TermTree}
use Rattle.sy_tree.specs.declared.term.RhsTree.{RhsTree}
use Rattle.sy_tree.specs.declared.proposition.CmpTree.{CmpTree}
use Rattle.sy_tree.specs.declared.proposition.PropTree.{PropTree}
use Rattle.sy_tree.specs.declared.proposition.PropTree.TheOpen.{PropTree-F}
use Rattle.sy_tree.specs.declared.proposition.PropTree.TheOpen as P
use Rattle.sy_tree.specs.declared.proposition.PropTree.TheFolds.{fold-PropTree}
use Rattle.sy_core.specs.Matching.{equals_compare, numbers_compare}
use Rattle.sy_domain.specs.Names.{same}
use Rattle.sy_scope.specs.Scopes.{Things}
use Rattle.sy_given.specs.declared.known.Known.{Known}
use Rattle.sy_given.specs.declared.known.Known.TheVariants as K
use Rattle.sy_terms.specs.declared.item.Item.{Item}
use Rattle.sy_terms.specs.declared.item.Item.TheVariants as I
use Rattle.sy_terms.specs.Items.{Environment}
use Rattle.sy_terms.specs.Terms.{rhs_item, term_item}

-- a comparison is true of two values: of values of two types, or of constants of two enumerations, none is
abbrev pub known_compares : Cmp → Known → Known → Bool
known_compares cmp (K.Number a) (K.Number b) = numbers_compare cmp a b
known_compares cmp (K.Date a) (K.Date b) = numbers_compare cmp a b
known_compares cmp (K.Text a) (K.Text b) = equals_compare cmp (same a b)
known_compares cmp (K.Boolean a) (K.Boolean b) = equals_compare cmp (beq a b)
known_compares cmp (K.Constant e a) (K.Constant f b) = (e == f) && equals_compare cmp (a == b)
known_compares cmp _ _ = false

-- the same of what two terms stand for: of what has no value, or of things, none is
abbrev pub items_compare : Cmp → Option Item → Option Item → Bool
items_compare cmp (Some (I.Value a)) (Some (I.Value b)) = known_compares cmp a b
items_compare cmp _ _ = false

module _ (s : Things) (e : Environment) where
  abbrev pub comparison_holds : TermTree → CmpTree → RhsTree → Bool
  comparison_holds left cmp right = items_compare cmp.cmp (term_item s e left) (rhs_item s e right)

  -- one condition, with the truth of each part in its place; events, states and dates stand in none
  abbrev pub holds_step : PropTree-F Bool → Bool
  holds_step (P.Const value first) = value
  holds_step (P.Not part first) = not part
  holds_step (P.All parts first) = list_all (λ part. part) parts
  holds_step (P.Any parts first) = list_any (λ part. part) parts
  holds_step (P.Compare left cmp right first) = comparison_holds left cmp right
  holds_step _ = false

  -- a condition is true
  abbrev pub holds : PropTree → Bool
  holds = fold-PropTree Bool holds_step
