-- How many nodes a proposition has, and how many changes are made to them.
use Rattle.std.proofs.Common.{◌≡◌, ℕ, ◌+◌, ◌-◌, List, [], ◌∷◌, map, length, refl, sym, ◌∙◌, ap, subst, arith, length-append}
use Rattle.std.specs.List.{flat_map}
use Rattle.sy_base.specs.declared.time.TimeUnit.{TimeUnit}
use Rattle.sy_core.specs.declared.proposition.Prop.{Prop}
use Rattle.sy_core.specs.declared.proposition.Prop.TheOpen.{Prop-F}
use Rattle.sy_core.specs.declared.proposition.Prop.TheOpen as P
use Rattle.sy_core.specs.declared.proposition.Prop.TheViews.{roll-Prop}
use Rattle.sy_core.specs.declared.proposition.Prop.TheFolds.{fold-roll-Prop, map-Prop, ind-Prop}
use Rattle.sy_quiet.specs.Histories.{History}
use Rattle.sy_atoms.specs.Machine.Steps.{Step}
use Rattle.sy_prop.specs.declared.node.Node.{Node}
use Rattle.sy_prop.specs.declared.node.Node.TheVariants as N
use Rattle.sy_prop.specs.Machine.Tables.{chain_from, nodes_step, nodes_of_prop}
use Rattle.sy_prop.specs.Machine.Changes.{stay, and_join, changes_step, changes_of, joined_size, table_size_step, table_size}
use Rattle.sy_prop.proofs.Changing.{Change}

module _ (step : Step) (unit : TimeUnit) (h : History) where
  abbrev Sized : Prop → Type 0
  Sized p = ((n : ℕ) → length (nodes_of_prop unit h p n) ≡ table_size p) × (length (changes_of step p) ≡ table_size p)

  abbrev SizedProp : Type 0
  SizedProp = (p : Prop) × Sized p

  chain_sized : (join : ℕ → Node) (ps : List SizedProp) (n : ℕ) → length (chain_from join (map (nodes_of_prop unit h) (map (λ e. e.0) ps)) n) ≡ joined_size (map table_size (map (λ e. e.0) ps))
  chain_sized join [] n = refl
  chain_sized join (e ∷ ps) n =
      let part = nodes_of_prop unit h e.0 n in
      let rest = chain_from join (map (nodes_of_prop unit h) (map (λ e. e.0) ps)) (n + length part + 1) in
      omega (arith, e.1.0 n, length-append part (join (n - 1) ∷ rest), chain_sized join ps (n + length part + 1))

  changes_sized : (ps : List SizedProp) → length (flat_map and_join (map (changes_of step) (map (λ e. e.0) ps))) ≡ joined_size (map table_size (map (λ e. e.0) ps))
  changes_sized [] = refl
  changes_sized (e ∷ ps) =
      let own = changes_of step e.0 in
      let rest = flat_map and_join (map (changes_of step) (map (λ e. e.0) ps)) in
      omega (arith, e.1.1, length-append (and_join own) rest, length-append own (stay ∷ []), changes_sized ps)

  abbrev bare : Prop-F SizedProp → Prop-F Prop
  bare y = map-Prop SizedProp Prop (λ e. e.0) y

  layer_sized : (y : Prop-F SizedProp) → ((n : ℕ) → length (nodes_step unit h (map-Prop Prop (ℕ → List Node) (nodes_of_prop unit h) (bare y)) n) ≡ table_size_step (map-Prop Prop ℕ table_size (bare y))) × (length (changes_step step (map-Prop Prop (List Change) (changes_of step) (bare y))) ≡ table_size_step (map-Prop Prop ℕ table_size (bare y)))
  layer_sized (P.Const b) = (λ n. refl, refl)
  layer_sized (P.Not e) = (
    λ n. omega (arith, e.1.0 n, length-append (nodes_of_prop unit h e.0 n) (N.Not ∷ [])),
    omega (arith, e.1.1, length-append (changes_of step e.0) (stay ∷ [])),
  )
  layer_sized (P.All ps) = (λ n. omega (arith, chain_sized N.Both ps (n + 1)), omega (arith, changes_sized ps))
  layer_sized (P.Any ps) = (λ n. omega (arith, chain_sized N.Either ps (n + 1)), omega (arith, changes_sized ps))
  layer_sized (P.Happens e) = (λ n. refl, refl)
  layer_sized (P.Before e to) = (λ n. refl, refl)
  layer_sized (P.After e from) = (λ n. refl, refl)
  layer_sized (P.Within e from to) = (λ n. refl, refl)
  layer_sized (P.Occurs s from to) = (λ n. refl, refl)
  layer_sized (P.Holds s) = (λ n. refl, refl)

  pub prop_sized : (p : Prop) → Sized p
  prop_sized = ind-Prop Sized (λ x y is.
      let parts = bare y in
      let t = fold-roll-Prop ℕ table_size_step parts in
      let l = layer_sized y in
      subst (λ (z : Prop-F Prop). Sized (roll-Prop z)) is (
        λ n. ap (λ g. length (g n)) (fold-roll-Prop (ℕ → List Node) (nodes_step unit h) parts) ∙ (l.0 n ∙ sym t),
        ap length (fold-roll-Prop (List Change) (changes_step step) parts) ∙ (l.1 ∙ sym t),
      ))

  -- as many changes as nodes
  pub alike : (p : Prop) (n : ℕ) → length (changes_of step p) ≡ length (nodes_of_prop unit h p n)
  alike p n = let s = prop_sized p in s.1 ∙ sym (s.0 n)
