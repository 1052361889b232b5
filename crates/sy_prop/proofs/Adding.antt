-- What loops over positions and postconditions add to the table.
use Rattle.std.proofs.Common.{◌≡◌, ℕ, suc, ◌+◌, ◌-◌, ◌<◌, List, [], ◌∷◌, ◌++◌, drop, length, get_or, sym, ◌∙◌, ap, arith, append_assoc, length-append, drop-cons, add-one}
use Rattle.std.specs.List.{flat_map}
use Rattle.sy_base.specs.declared.time.TimeUnit.{TimeUnit}
use Rattle.sy_core.specs.declared.proposition.Prop.{Prop}
use Rattle.sy_core.specs.declared.position.Goal.{Goal}
use Rattle.sy_core.specs.declared.position.Goal.TheVariants as G
use Rattle.sy_core.specs.declared.position.Position.{Position}
use Rattle.sy_quiet.specs.Histories.{History}
use Rattle.sy_atoms.specs.Machine.Steps.{same_step}
use Rattle.sy_prop.specs.declared.node.Node.{Node}
use Rattle.sy_prop.specs.declared.roots.PositionRoots.{PositionRoots}
use Rattle.sy_prop.specs.Machine.Tables.{nodes_of_prop, nodes_of_props}
use Rattle.sy_prop.specs.Machine.Changes.{stay, table_size}
use Rattle.sy_prop.specs.Machine.Roots.{nodes_of_goal, after_goal, after_position, after_positions, roots_at, roots_from, posts_from}
use Rattle.sy_prop.specs.Standing.{duty_props, position_props}
use Rattle.sy_prop.proofs.Sizes.{prop_sized}

-- what stands ahead of a loop
pub item_ahead : {X : Type 0} (items : List X) (i : ℕ) (x : X) → i < length items → x ≡ get_or items i x → drop i items ≡ x ∷ drop (i + 1) items
item_ahead items i x lt is = rw add-one (drop-cons items i x lt ∙ ap (λ y. y ∷ drop (suc i) items) (sym is))

module _ (unit : TimeUnit) (h : History) where
  size_is : (p : Prop) (n : ℕ) → length (nodes_of_prop unit h p n) ≡ table_size p
  size_is p n = (prop_sized (same_step stay) unit h p).0 n

  props_append : (xs ys : List Prop) (n : ℕ) → nodes_of_props unit h (xs ++ ys) n ≡ nodes_of_props unit h xs n ++ nodes_of_props unit h ys (n + length (nodes_of_props unit h xs n))
  props_append [] ys n = let e : n ≡ n + 0 = omega arith in ap (nodes_of_props unit h ys) e
  props_append (x ∷ xs) ys n =
      let part = nodes_of_prop unit h x n in
      let rest = nodes_of_props unit h xs (n + length part) in
      let e : (n + length part) + length rest ≡ n + length (part ++ rest) = omega (arith, length-append part rest) in
      ap (λ l. part ++ l) (props_append xs ys (n + length part) ∙ ap (λ m. rest ++ nodes_of_props unit h ys m) e)
      ∙ sym (append_assoc part rest (nodes_of_props unit h ys (n + length (part ++ rest))))

  -- some propositions more
  pub props_go_on : (nodes added whole : List Node) (xs rest : List Prop) → added ≡ nodes ++ nodes_of_props unit h xs (length nodes) → nodes ++ nodes_of_props unit h (xs ++ rest) (length nodes) ≡ whole → added ++ nodes_of_props unit h rest (length added) ≡ whole
  props_go_on nodes added whole xs rest made h' =
      let own = nodes_of_props unit h xs (length nodes) in
      let size : length added ≡ length nodes + length own = ap length made ∙ length-append nodes own in
      (λ j. made j ++ nodes_of_props unit h rest (size j))
      ∙ (append_assoc nodes own (nodes_of_props unit h rest (length nodes + length own))
      ∙ (ap (λ l. nodes ++ l) (sym (props_append xs rest (length nodes))) ∙ h'))

  pub after_prop : (p : Prop) (old new : List Node) → new ≡ old ++ nodes_of_prop unit h p (length old) → length new ≡ length old + table_size p
  after_prop p old new made = ap length made ∙ (length-append old (nodes_of_prop unit h p (length old)) ∙ ap (λ n. length old + n) (size_is p (length old)))

  pub after_duty : (goal : Goal) (old new : List Node) → new ≡ old ++ nodes_of_goal unit h goal (length old) → length new ≡ after_goal (length old) goal
  after_duty (G.Duty consequent) old new made = after_prop consequent old new made
  after_duty (G.Act act) old new made = ap length made ∙ (length-append old [] ∙ omega arith)

  goal_sized : (goal : Goal) (n : ℕ) → n + length (nodes_of_props unit h (duty_props goal) n) ≡ after_goal n goal
  goal_sized (G.Duty consequent) n = let e = size_is consequent n in omega (arith, e, length-append (nodes_of_prop unit h consequent n) [])
  goal_sized (G.Act act) n = omega arith

  position_size : (p : Position) (n : ℕ) → n + length (nodes_of_props unit h (position_props p) n) ≡ after_position n p
  position_size p n =
      let a = nodes_of_prop unit h p.trigger n in
      let b = nodes_of_prop unit h p.antecedent (n + length a) in
      let m = (n + length a) + length b in
      let rest = nodes_of_props unit h (duty_props p.goal) m in
      let ends : m ≡ (n + table_size p.trigger) + table_size p.antecedent = omega (arith, size_is p.trigger n, size_is p.antecedent (n + length a)) in
      omega (arith, length-append a (b ++ rest), length-append b rest, goal_sized p.goal m)
      ∙ ap (λ k. after_goal k p.goal) ends

  pub position_sized : (p : Position) (old new : List Node) → new ≡ old ++ nodes_of_props unit h (position_props p) (length old) → length new ≡ after_position (length old) p
  position_sized p old new made =
      ap length made ∙ (length-append old (nodes_of_props unit h (position_props p) (length old)) ∙ position_size p (length old))

  pub positions_sized : (ps : List Position) (n : ℕ) → n + length (nodes_of_props unit h (flat_map position_props ps) n) ≡ after_positions n ps
  positions_sized [] n = omega arith
  positions_sized (p ∷ ps) n =
      let own = nodes_of_props unit h (position_props p) n in
      let rest = nodes_of_props unit h (flat_map position_props ps) in
      let all = ap length (props_append (position_props p) (flat_map position_props ps) n) in
      omega (arith, all, length-append own (rest (n + length own)))
      ∙ (positions_sized ps (n + length own) ∙ ap (λ m. after_positions m ps) (position_size p n))

  -- the nodes of a deed are those of its positions, and then those of its postconditions
  pub all_added : (xs ys : List Prop) (first all : List Node) → first ≡ nodes_of_props unit h xs 0 → all ≡ first ++ nodes_of_props unit h ys (length first) → all ≡ nodes_of_props unit h (xs ++ ys) 0
  all_added xs ys first all a b =
      let own = nodes_of_props unit h xs 0 in
      let z : length own ≡ 0 + length own = omega arith in
      b
      ∙ ((λ j. a j ++ nodes_of_props unit h ys (length (a j)))
      ∙ (ap (λ n. own ++ nodes_of_props unit h ys n) z ∙ sym (props_append xs ys 0)))

  pub first_post : (ps : List Position) (first : List Node) → first ≡ nodes_of_props unit h (flat_map position_props ps) 0 → length first ≡ after_positions 0 ps
  first_post ps first a = ap length a ∙ (omega arith ∙ positions_sized ps 0)

  -- one proposition more
  pub prop_goes_on : (p : Prop) (rest : List Prop) (nodes added whole : List Node) → added ≡ nodes ++ nodes_of_prop unit h p (length nodes) → nodes ++ nodes_of_props unit h (p ∷ rest) (length nodes) ≡ whole → added ++ nodes_of_props unit h rest (length added) ≡ whole
  prop_goes_on p rest nodes added whole made h' =
      let own = nodes_of_prop unit h p (length nodes) in
      let size : length added ≡ length nodes + length own = ap length made ∙ length-append nodes own in
      (λ j. made j ++ nodes_of_props unit h rest (size j))
      ∙ (append_assoc nodes own (nodes_of_props unit h rest (length nodes + length own)) ∙ h')

-- where one position more ends
pub roots_go_on : (p : Position) (rest : List Position) (n m : ℕ) (roots next whole : List PositionRoots) → m ≡ after_position n p → next ≡ roots ++ roots_at n p ∷ [] → roots ++ roots_from n (p ∷ rest) ≡ whole → next ++ roots_from m rest ≡ whole
roots_go_on p rest n m roots next whole at made h =
    (λ j. made j ++ roots_from (at j) rest) ∙ (append_assoc roots (roots_at n p ∷ []) (roots_from (after_position n p) rest) ∙ h)

-- where one proposition more ends
pub posts_go_on : (p : Prop) (rest : List Prop) (n m : ℕ) (posts next whole : List ℕ) → m ≡ n + table_size p → next ≡ posts ++ (m - 1) ∷ [] → posts ++ posts_from n (p ∷ rest) ≡ whole → next ++ posts_from m rest ≡ whole
posts_go_on p rest n m posts next whole at made h =
    (λ j. (made ∙ ap (λ k. posts ++ (k - 1) ∷ []) at) j ++ posts_from (at j) rest) ∙ (append_assoc posts ((n + table_size p - 1) ∷ []) (posts_from (n + table_size p) rest) ∙ h)
