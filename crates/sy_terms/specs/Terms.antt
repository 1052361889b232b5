-- The values of terms. A number whose computation leaves -10^15 to 10^15 at any step, from left to right, has none: 10^15 + 1 - 1 has no
-- value, and a later `* 0` mends nothing.
use Rattle.std.specs.Prelude.{ℤ, pos, neg_ℤ, ◌+ℤ◌, ◌-ℤ◌, ◌*ℤ◌, if◌then◌else◌, List, [], ◌∷◌, Option, Some, None, option_map}
use Rattle.std.specs.List.{fold}
use Rattle.sy_tree.specs.declared.term.RhsTree.{RhsTree}
use Rattle.sy_tree.specs.declared.term.RhsTree.TheVariants as Rhs
use Rattle.sy_tree.specs.declared.term.TermTree.{TermTree}
use Rattle.sy_tree.specs.declared.term.SumTree.{SumTree}
use Rattle.sy_tree.specs.declared.term.SumTree.TheVariants as Sum
use Rattle.sy_tree.specs.declared.term.FactorTree.{FactorTree}
use Rattle.sy_tree.specs.declared.term.SingleTree.{SingleTree}
use Rattle.sy_tree.specs.declared.term.SingleTree.TheVariants as Single
use Rattle.sy_core.specs.Values.{is_in_range}
use Rattle.sy_scope.specs.Scopes.{Things}
use Rattle.sy_literal.specs.Values.{date_point, text_content}
use Rattle.sy_given.specs.Bound.{written_number}
use Rattle.sy_given.specs.declared.known.Known.TheVariants as K
use Rattle.sy_terms.specs.declared.item.Item.{Item}
use Rattle.sy_terms.specs.declared.item.Item.TheVariants as I
use Rattle.sy_terms.specs.Items.{Environment, path_item}

-- a number, where it is from -10^15 to 10^15
abbrev pub in_range : ℤ → Option ℤ
in_range n = if is_in_range n then Some n else None

-- the number that an item is
abbrev pub number_of : Option Item → Option ℤ
number_of (Some (I.Value (K.Number n))) = Some n
number_of _ = None

-- a number as an item
abbrev pub number_item : Option ℤ → Option Item
number_item number = option_map (λ n. I.Value (K.Number n)) number

-- what is computed of two numbers, where both are there and it stays in range
abbrev pub computed : (ℤ → ℤ → ℤ) → Option ℤ → Option ℤ → Option ℤ
computed by (Some a) (Some b) = in_range (by a b)
computed by _ _ = None

-- the item of a first part that stands alone, and the number of the whole where others follow
abbrev pub alone_or_number : {A : Type 0} → Option Item → Option ℤ → List A → Option Item
alone_or_number item number [] = item
alone_or_number item number (other ∷ others) = number_item number

module _ (s : Things) (e : Environment) where
  -- what a part of a product stands for
  abbrev pub single_item : SingleTree → Option Item
  single_item (Single.Number n) = number_item (written_number n)
  single_item (Single.Negative place n) = number_item (option_map neg_ℤ (written_number n))
  single_item (Single.Str t) = Some (I.Value (K.Text (text_content t.text)))
  single_item (Single.Date t) = option_map (λ p. I.Value (K.Date p)) (date_point e.unit t.text)
  single_item (Single.Path p) = path_item s e p

  -- a number, multiplied by one more part
  abbrev pub times : Option ℤ → SingleTree → Option ℤ
  times number single = computed (λ a b. a *ℤ b) number (number_of (single_item single))

  -- the number of a product
  abbrev pub product : FactorTree → Option ℤ
  product f = fold times (number_of (single_item f.first)) f.others

  -- what a product stands for: where its first part is alone, what that stands for
  abbrev pub factor_item : FactorTree → Option Item
  factor_item f = alone_or_number (single_item f.first) (product f) f.others

  -- a number, with one more product added to it or taken from it
  abbrev pub plus : Option ℤ → SumTree → Option ℤ
  plus number (Sum.Plus f) = computed (λ a b. a +ℤ b) number (product f)
  plus number (Sum.Minus f) = computed (λ a b. a -ℤ b) number (product f)

  -- the number of a sum
  abbrev pub total : TermTree → Option ℤ
  total t = fold plus (product t.first) t.others

  -- what a sum stands for: where its first part is alone, what that stands for
  abbrev pub term_item : TermTree → Option Item
  term_item t = alone_or_number (factor_item t.first) (total t) t.others

  -- what the right side of a comparison stands for, and what an attribute is given
  abbrev pub rhs_item : RhsTree → Option Item
  rhs_item (Rhs.Term t) = term_item t
  rhs_item (Rhs.Const value place) = Some (I.Value (K.Boolean value))
