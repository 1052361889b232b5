-- What a proposition with parts names, by what the parts name; and what stands in lists by parts.
use Rattle.std.proofs.Common.{◌≡◌, ℕ, ◌+◌, Bool, true, false, List, [], ◌∷◌, ◌++◌, map, length, drop, cond, ◌≤◌, ◌⊎◌, inl, inr, refl, sym, ◌∙◌, ap, subst, arith, if◌then◌else◌}
use Rattle.std.specs.List.{flat_map, filter, enumerate_from}
use Rattle.std.proofs.lemmas.Grind.{common_steps}
use Rattle.std.proofs.lemmas.List.{append-nil}
use Rattle.std.proofs.lemmas.List.Folds.{flat_map-map}
use Rattle.sy_core.specs.declared.proposition.Prop.{Prop}
use Rattle.sy_core.specs.declared.proposition.Prop.TheVariants as Props
use Rattle.sy_core.specs.declared.proposition.Prop.TheVariants.{rolls-All, rolls-Any}
use Rattle.sy_core.specs.declared.proposition.Prop.TheOpen as P
use Rattle.sy_core.specs.declared.proposition.Prop.TheFolds.{fold-roll-Prop}
use Rattle.sy_core.specs.declared.position.Position.{Position}
use Rattle.sy_core.specs.declared.deed.Deed.{Deed}
use Rattle.sy_core.specs.Mentions.{InternalEvent, names_step, names_of}
use Rattle.sy_core.specs.Conditions.{is_awaited}
use Rattle.sy_core.specs.Prerequisites.{Node, completion_nodes}
use Rattle.sy_order.specs.Machine.Tables.{with_remedies}

pub names_of-parts : (p : Prop) (ps : List Prop) → (p ≡ Props.All ps) ⊎ (p ≡ Props.Any ps) → names_of p ≡ flat_map names_of ps
names_of-parts p ps (inl e) =
    ap names_of (e ∙ sym (rolls-All ps)) ∙ (fold-roll-Prop (List InternalEvent) names_step (P.All ps) ∙ flat_map-map (λ part. part) names_of ps)
names_of-parts p ps (inr e) =
    ap names_of (e ∙ sym (rolls-Any ps)) ∙ (fold-roll-Prop (List InternalEvent) names_step (P.Any ps) ∙ flat_map-map (λ part. part) names_of ps)

-- where nothing is left of a list, all of it was added
pub all_added : {X Y : Type 0} (f : X → List Y) (xs : List X) (i : ℕ) (ys whole : List Y) → length xs ≤ i → ys ++ flat_map f (drop i xs) ≡ whole → ys ≡ whole
all_added f xs i ys whole le h = let e : drop i xs ≡ [] = grind (arith, common_steps) in sym (append-nil ys) ∙ subst (λ l. ys ++ flat_map f l ≡ whole) e h

-- the nodes of the positions from a number on that the contract's completion waits for, and of their remedies
abbrev pub awaited_from : Deed → ℕ → List Position → List Node
awaited_from deed i positions = flat_map (λ n. if is_awaited n.1.form then with_remedies deed n.0 else []) (enumerate_from i positions)

-- what is given for those that pass
of_kept : {X Y : Type 0} (kept : X → Bool) (f : X → List Y) (xs : List X) → flat_map (λ x. if kept x then f x else []) xs ≡ flat_map f (filter kept xs)
of_kept kept f [] = refl
of_kept kept f (x ∷ xs) = at (kept x) (of_kept kept f xs)
  where
    at : (b : Bool) → flat_map (λ x. if kept x then f x else []) xs ≡ flat_map f (filter kept xs) → (if b then f x else []) ++ flat_map (λ x. if kept x then f x else []) xs ≡ flat_map f (cond b (x ∷ filter kept xs) (filter kept xs))
    at true h = ap (λ l. f x ++ l) h
    at false h = h

pub awaited_are : (deed : Deed) → awaited_from deed 0 deed.positions ≡ completion_nodes deed
awaited_are deed = of_kept (λ n. is_awaited n.1.form) (λ n. with_remedies deed n.0) (enumerate_from 0 deed.positions)

pub all_mapped : {X Y : Type 0} (f : X → Y) (xs : List X) (i : ℕ) (ys whole : List Y) → length xs ≤ i → ys ++ map f (drop i xs) ≡ whole → ys ≡ whole
all_mapped f xs i ys whole le h = let e : drop i xs ≡ [] = grind (arith, common_steps) in sym (append-nil ys) ∙ subst (λ l. ys ++ map f l ≡ whole) e h

pub none_left : (deed : Deed) (positions : List Position) (i : ℕ) (nodes whole : List Node) → length positions ≤ i → nodes ++ awaited_from deed i (drop i positions) ≡ whole → nodes ≡ whole
none_left deed positions i nodes whole le h =
    let e : drop i positions ≡ [] = grind (arith, common_steps) in
    sym (append-nil nodes) ∙ subst (λ l. nodes ++ awaited_from deed i l ≡ whole) e h
