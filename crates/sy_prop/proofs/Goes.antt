-- The nodes of propositions go on from one history to the next, where each sort of atom does.
use Rattle.std.proofs.Common.{◌≡◌, ℕ, ◌+◌, ◌-◌, Bool, true, false, List, [], ◌∷◌, ◌++◌, map, length, refl, sym, ◌∙◌, ap, subst, arith, append_assoc, length-append}
use Rattle.std.specs.List.{flat_map}
use Rattle.sy_base.specs.declared.time.TimeUnit.{TimeUnit}
use Rattle.sy_core.specs.declared.proposition.Prop.{Prop}
use Rattle.sy_core.specs.declared.proposition.Prop.TheOpen.{Prop-F}
use Rattle.sy_core.specs.declared.proposition.Prop.TheOpen as P
use Rattle.sy_core.specs.declared.proposition.Prop.TheViews.{roll-Prop}
use Rattle.sy_core.specs.declared.proposition.Prop.TheFolds.{fold-roll-Prop, map-Prop, ind-Prop}
use Rattle.sy_atoms.specs.declared.atom.Atom.{Atom}
use Rattle.sy_quiet.specs.Histories.{History}
use Rattle.sy_atoms.specs.Machine.Steps.{Step, same_step, Leads}
use Rattle.sy_prop.specs.declared.node.Node.{Node}
use Rattle.sy_prop.specs.declared.node.Node.TheVariants as N
use Rattle.sy_prop.specs.Machine.Tables.{chain, chain_from, nodes_step, nodes_of_prop, nodes_of_props, on_atom}
use Rattle.sy_prop.specs.Machine.Changes.{stay, and_join, changes_step, changes_of, changed, changed_from}
use Rattle.sy_prop.proofs.Changing.{Change}
use Rattle.sy_prop.proofs.Sizes.{alike}

changed_append : (fs gs : List Change) (xs ys : List Node) → length fs ≡ length xs → changed (fs ++ gs) (xs ++ ys) ≡ changed fs xs ++ changed gs ys
changed_append [] gs [] ys e = refl
changed_append [] gs (x ∷ xs) ys e = absurd (omega (arith, e))
changed_append (f ∷ fs) gs [] ys e = absurd (omega (arith, e))
changed_append (f ∷ fs) gs (x ∷ xs) ys e = ap (λ l. on_atom f x ∷ l) (changed_append fs gs xs ys (omega (arith, e)))

pub from_first : (fs : List Change) (ns : List Node) → changed_from 0 fs ns ≡ changed fs ns
from_first fs [] = refl
from_first fs (n ∷ ns) = refl

module _ (step : Step) (unit : TimeUnit) (h k : History) where
  abbrev Told : Prop → Type 0
  Told p = (n : ℕ) → changed (changes_of step p) (nodes_of_prop unit h p n) ≡ nodes_of_prop unit k p n

  abbrev ToldProp : Type 0
  ToldProp = (p : Prop) × Told p

  pub same_size : (p : Prop) (n : ℕ) → length (nodes_of_prop unit h p n) ≡ length (nodes_of_prop unit k p n)
  same_size p n = sym (alike step unit h p n) ∙ alike step unit k p n

  told_parts : (join : ℕ → Node) → ((i : ℕ) → on_atom stay (join i) ≡ join i) → (ps : List ToldProp) (n : ℕ) → changed (flat_map and_join (map (changes_of step) (map (λ e. e.0) ps))) (chain_from join (map (nodes_of_prop unit h) (map (λ e. e.0) ps)) n) ≡ chain_from join (map (nodes_of_prop unit k) (map (λ e. e.0) ps)) n
  told_parts join same [] n = refl
  told_parts join same (e ∷ ps) n =
      let part = nodes_of_prop unit h e.0 n in
      let own = changes_of step e.0 in
      let rest = chain_from join (map (nodes_of_prop unit h) (map (λ e. e.0) ps)) (n + length part + 1) in
      let more = flat_map and_join (map (changes_of step) (map (λ e. e.0) ps)) in
      let size = same_size e.0 n in
      let rests = told_parts join same ps in
      ap (λ l. changed l (part ++ join (n - 1) ∷ rest)) (append_assoc own (stay ∷ []) more)
      ∙ (changed_append own (stay ∷ more) part (join (n - 1) ∷ rest) (alike step unit h e.0 n)
      ∙ (λ j. e.1 n j ++ same (n - 1) j ∷ rests (n + size j + 1) j))

  module _ (go : Leads unit h k step) where
    layer_told : (y : Prop-F ToldProp) (n : ℕ) → changed (changes_step step (map-Prop Prop (List Change) (changes_of step) (map-Prop ToldProp Prop (λ e. e.0) y))) (nodes_step unit h (map-Prop Prop (ℕ → List Node) (nodes_of_prop unit h) (map-Prop ToldProp Prop (λ e. e.0) y)) n) ≡ nodes_step unit k (map-Prop Prop (ℕ → List Node) (nodes_of_prop unit k) (map-Prop ToldProp Prop (λ e. e.0) y)) n
    layer_told (P.Const b) n = refl
    layer_told (P.Not e) n = changed_append (changes_of step e.0) (stay ∷ []) (nodes_of_prop unit h e.0 n) (N.Not ∷ []) (alike step unit h e.0 n) ∙ ap (λ l. l ++ N.Not ∷ []) (e.1 n)
    layer_told (P.All ps) n = ap (λ l. N.Const true ∷ l) (told_parts N.Both (λ i. refl) ps (n + 1))
    layer_told (P.Any ps) n = ap (λ l. N.Const false ∷ l) (told_parts N.Either (λ i. refl) ps (n + 1))
    layer_told (P.Happens e) n = ap (λ a. N.Atom a ∷ []) (go.happens e)
    layer_told (P.Before e to) n = ap (λ a. N.Atom a ∷ []) (go.before e to)
    layer_told (P.After e from) n = ap (λ a. N.Atom a ∷ []) (go.after e from)
    layer_told (P.Within e from to) n = ap (λ a. N.Atom a ∷ []) (go.within e from to)
    layer_told (P.Occurs s from to) n = ap (λ a. N.Atom a ∷ []) (go.occurs s from to)
    layer_told (P.Holds s) n = ap (λ a. N.Atom a ∷ []) (go.holds s)

    pub prop_told_on : (p : Prop) → Told p
    prop_told_on = ind-Prop Told (λ x y is.
        let parts = map-Prop ToldProp Prop (λ e. e.0) y in
        subst (λ (z : Prop-F Prop). Told (roll-Prop z)) is (λ n.
        (let a = fold-roll-Prop (List Change) (changes_step step) parts in let b = fold-roll-Prop (ℕ → List Node) (nodes_step unit h) parts in λ j. changed (a j) (b j n))
        ∙ (layer_told y n ∙ ap (λ g. g n) (sym (fold-roll-Prop (ℕ → List Node) (nodes_step unit k) parts)))))

    pub props_told_on : (ps : List Prop) (n : ℕ) → changed (flat_map (changes_of step) ps) (nodes_of_props unit h ps n) ≡ nodes_of_props unit k ps n
    props_told_on [] n = refl
    props_told_on (p ∷ ps) n =
        let part = nodes_of_prop unit h p n in
        let size = same_size p n in
        changed_append (changes_of step p) (flat_map (changes_of step) ps) part (nodes_of_props unit h ps (n + length part)) (alike step unit h p n)
        ∙ (λ j. prop_told_on p n j ++ props_told_on ps (n + size j) j)

  -- as many changes as nodes
  pub props_alike : (ps : List Prop) (n : ℕ) → length (flat_map (changes_of step) ps) ≡ length (nodes_of_props unit h ps n)
  props_alike [] n = refl
  props_alike (p ∷ ps) n =
      let part = nodes_of_prop unit h p n in
      omega (arith, length-append (changes_of step p) (flat_map (changes_of step) ps), length-append part (nodes_of_props unit h ps (n + length part)), alike step unit h p n, props_alike ps (n + length part))

-- the nodes of a proposition, from one history to another
module _ (unit : TimeUnit) (h k : History) (f : Atom → Atom) where
  map_append : (xs ys : List Node) → map (on_atom f) (xs ++ ys) ≡ map (on_atom f) xs ++ map (on_atom f) ys
  map_append [] ys = refl
  map_append (x ∷ xs) ys = ap (λ l. on_atom f x ∷ l) (map_append xs ys)

  length_map : (xs : List Node) → length (map (on_atom f) xs) ≡ length xs
  length_map [] = refl
  length_map (x ∷ xs) = let e = length_map xs in omega (arith, e)

  abbrev Goes : Prop → Type 0
  Goes p = (n : ℕ) → map (on_atom f) (nodes_of_prop unit h p n) ≡ nodes_of_prop unit k p n

  parts_go : (join : ℕ → Node) → ((i : ℕ) → on_atom f (join i) ≡ join i) → (ps : List ((p : Prop) × Goes p)) (n : ℕ) → map (on_atom f) (chain_from join (map (nodes_of_prop unit h) (map (λ e. e.0) ps)) n) ≡ chain_from join (map (nodes_of_prop unit k) (map (λ e. e.0) ps)) n
  parts_go join same [] n = refl
  parts_go join same (e ∷ ps) n =
      let part = nodes_of_prop unit h e.0 n in
      let rest = chain_from join (map (nodes_of_prop unit h) (map (λ e. e.0) ps)) in
      let size : length part ≡ length (nodes_of_prop unit k e.0 n) = sym (length_map part) ∙ ap length (e.1 n) in
      let rests = parts_go join same ps in
      map_append part (join (n - 1) ∷ rest (n + length part + 1))
      ∙ (λ j. e.1 n j ++ same (n - 1) j ∷ rests (n + size j + 1) j)

  chain_goes : (first : Bool) (join : ℕ → Node) → ((i : ℕ) → on_atom f (join i) ≡ join i) → (ps : List ((p : Prop) × Goes p)) (n : ℕ) → map (on_atom f) (chain first join (map (nodes_of_prop unit h) (map (λ e. e.0) ps)) n) ≡ chain first join (map (nodes_of_prop unit k) (map (λ e. e.0) ps)) n
  chain_goes first join same ps n = ap (λ l. N.Const first ∷ l) (parts_go join same ps (n + 1))

-- so does each proposition
module _ (unit : TimeUnit) (h k : History) (f : Atom → Atom) (go : Leads unit h k (same_step f)) where
  layer_goes : (y : Prop-F ((p : Prop) × Goes unit h k f p)) (n : ℕ) → map (on_atom f) (nodes_step unit h (map-Prop Prop (ℕ → List Node) (nodes_of_prop unit h) (map-Prop ((p : Prop) × Goes unit h k f p) Prop (λ e. e.0) y)) n) ≡ nodes_step unit k (map-Prop Prop (ℕ → List Node) (nodes_of_prop unit k) (map-Prop ((p : Prop) × Goes unit h k f p) Prop (λ e. e.0) y)) n
  layer_goes (P.Const b) n = refl
  layer_goes (P.Not e) n = map_append unit h k f (nodes_of_prop unit h e.0 n) (N.Not ∷ []) ∙ ap (λ l. l ++ N.Not ∷ []) (e.1 n)
  layer_goes (P.All ps) n = chain_goes unit h k f true N.Both (λ i. refl) ps n
  layer_goes (P.Any ps) n = chain_goes unit h k f false N.Either (λ i. refl) ps n
  layer_goes (P.Happens e) n = ap (λ a. N.Atom a ∷ []) (go.happens e)
  layer_goes (P.Before e to) n = ap (λ a. N.Atom a ∷ []) (go.before e to)
  layer_goes (P.After e from) n = ap (λ a. N.Atom a ∷ []) (go.after e from)
  layer_goes (P.Within e from to) n = ap (λ a. N.Atom a ∷ []) (go.within e from to)
  layer_goes (P.Occurs s from to) n = ap (λ a. N.Atom a ∷ []) (go.occurs s from to)
  layer_goes (P.Holds s) n = ap (λ a. N.Atom a ∷ []) (go.holds s)

  pub prop_goes : (p : Prop) → Goes unit h k f p
  prop_goes = ind-Prop (Goes unit h k f) (λ x y is.
      let parts = map-Prop ((p : Prop) × Goes unit h k f p) Prop (λ e. e.0) y in
      subst (λ (z : Prop-F Prop). Goes unit h k f (roll-Prop z)) is (λ n.
      ap (λ g. map (on_atom f) (g n)) (fold-roll-Prop (ℕ → List Node) (nodes_step unit h) parts)
      ∙ (layer_goes y n ∙ ap (λ g. g n) (sym (fold-roll-Prop (ℕ → List Node) (nodes_step unit k) parts)))))

  pub props_go : (ps : List Prop) (n : ℕ) → map (on_atom f) (nodes_of_props unit h ps n) ≡ nodes_of_props unit k ps n
  props_go [] n = refl
  props_go (p ∷ ps) n =
      let part = nodes_of_prop unit h p n in
      let size : length part ≡ length (nodes_of_prop unit k p n) = sym (length_map unit h k f part) ∙ ap length (prop_goes p n) in
      map_append unit h k f part (nodes_of_props unit h ps (n + length part))
      ∙ (λ j. prop_goes p n j ++ props_go ps (n + size j) j)
