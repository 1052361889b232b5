-- What a proposition with parts mentions, by what the parts mention.
use Rattle.std.proofs.Common.{◌≡◌, ℕ, suc, ◌<◌, Bool, true, false, ◌||◌, List, [], ◌∷◌, length, map, drop, get_or, refl, sym, ◌∙◌, ap, subst, drop-cons, ◌≤◌, ◌⊎◌, inl, inr, arith}
use Rattle.std.specs.List.{list_any, flat_map}
use Rattle.std.proofs.lemmas.Grind.{common_steps}
use Rattle.std.proofs.lemmas.List.Folds.{list_any-append}
use Rattle.sy_core.proofs.Members.{any_of_all}
use Rattle.sy_core.specs.declared.kind.Target.{Target}
use Rattle.sy_core.specs.declared.proposition.Prop.{Prop}
use Rattle.sy_core.specs.declared.proposition.Prop.TheVariants as Props
use Rattle.sy_core.specs.declared.proposition.Prop.TheVariants.{rolls-All, rolls-Any}
use Rattle.sy_core.specs.declared.proposition.Prop.TheOpen as P
use Rattle.sy_core.specs.declared.proposition.Prop.TheFolds.{fold-roll-Prop}
use Rattle.sy_core.specs.Mentions.{InternalEvent, names_step, names_of, holds_step, has_holds, is_violation_of}

pub has_holds-parts : (p : Prop) (ps : List Prop) → (p ≡ Props.All ps) ⊎ (p ≡ Props.Any ps) → has_holds p ≡ list_any has_holds ps
has_holds-parts p ps (inl e) = ap has_holds (e ∙ sym (rolls-All ps)) ∙ (fold-roll-Prop Bool holds_step (P.All ps) ∙ any_of_all has_holds (λ b. b) ps)
has_holds-parts p ps (inr e) = ap has_holds (e ∙ sym (rolls-Any ps)) ∙ (fold-roll-Prop Bool holds_step (P.Any ps) ∙ any_of_all has_holds (λ b. b) ps)

any_of_named : (test : InternalEvent → Bool) (ps : List Prop) → list_any test (flat_map (λ part. part) (map names_of ps)) ≡ list_any (λ p. list_any test (names_of p)) ps
any_of_named test [] = refl
any_of_named test (p ∷ ps) = list_any-append test (names_of p) (flat_map (λ part. part) (map names_of ps)) ∙ ap (λ b. list_any test (names_of p) || b) (any_of_named test ps)

-- the violation of a target is among the events that a proposition names
abbrev pub is_named : Target → Prop → Bool
is_named violated p = list_any (is_violation_of violated) (names_of p)

pub is_named-parts : (violated : Target) (p : Prop) (ps : List Prop) → (p ≡ Props.All ps) ⊎ (p ≡ Props.Any ps) → is_named violated p ≡ list_any (is_named violated) ps
is_named-parts violated p ps (inl e) =
    ap (is_named violated) (e ∙ sym (rolls-All ps))
    ∙ (ap (list_any (is_violation_of violated)) (fold-roll-Prop (List InternalEvent) names_step (P.All ps)) ∙ any_of_named (is_violation_of violated) ps)
is_named-parts violated p ps (inr e) =
    ap (is_named violated) (e ∙ sym (rolls-Any ps))
    ∙ (ap (list_any (is_violation_of violated)) (fold-roll-Prop (List InternalEvent) names_step (P.Any ps)) ∙ any_of_named (is_violation_of violated) ps)

-- a test that passes at an item of what is left
pub found_at : (test : Prop → Bool) (ps : List Prop) (i : ℕ) (p : Prop) (whole : Bool) → i < length ps → p ≡ get_or ps i p → test p ≡ true → list_any test (drop i ps) ≡ whole → true ≡ whole
found_at test ps i p whole lt is passes h =
    let e : drop i ps ≡ p ∷ drop (suc i) ps = drop-cons ps i p lt ∙ ap (λ x. x ∷ drop (suc i) ps) (sym is) in
    sym (ap (λ b. b || list_any test (drop (suc i) ps)) passes) ∙ subst (λ xs. list_any test xs ≡ whole) e h

-- a test that passes at no item
pub none_left : (test : Prop → Bool) (ps : List Prop) (i : ℕ) (whole : Bool) → length ps ≤ i → list_any test (drop i ps) ≡ whole → false ≡ whole
none_left test ps i whole le h = let e : drop i ps ≡ [] = grind (arith, common_steps) in ap (list_any test) (sym e) ∙ h
