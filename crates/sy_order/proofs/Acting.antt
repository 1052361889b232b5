-- The exertions of the powers that act on a target are those of the definitions.
use Rattle.std.proofs.Common.{◌≡◌, ℕ, ◌+◌, ◌==◌, Bool, true, false, ◌&&◌, List, [], ◌∷◌, ◌++◌, map, cond, refl, ap, if◌then◌else◌}
use Rattle.std.specs.List.{flat_map, filter, enumerate_from}
use Rattle.sy_words.specs.declared.verb.Verb.{Verb}
use Rattle.sy_core.specs.declared.kind.Target.{Target}
use Rattle.sy_core.specs.declared.kind.Target.TheVariants as T
use Rattle.sy_core.specs.declared.position.Act.{Act}
use Rattle.sy_core.specs.declared.position.Goal.{Goal}
use Rattle.sy_core.specs.declared.position.Goal.TheVariants as G
use Rattle.sy_core.specs.declared.position.Position.{Position}
use Rattle.sy_core.specs.Mentions.{same_target}
use Rattle.sy_core.specs.Conditions.{verb_number, is_act, acts_on_contract}
use Rattle.sy_core.specs.Prerequisites.{Node, Exert, exertion_nodes}
use Rattle.sy_order.specs.declared.power.Power.{Power}
use Rattle.sy_order.specs.Machine.Powers.{power_on, powers_from, exertion}

pub exertions_are : (verb : Verb) (target : Target) (i : ℕ) (ps : List Position) → flat_map (exertion verb) (powers_from target i ps) ≡ exertion_nodes (filter (λ n. is_act verb target n.1.goal) (enumerate_from i ps))
exertions_are verb target i [] = refl
exertions_are verb target i (p ∷ ps) = at p.goal (exertions_are verb target (i + 1) ps)
  where
    rest : List (ℕ × Position)
    rest = filter (λ n. is_act verb target n.1.goal) (enumerate_from (i + 1) ps)

    later : List Power
    later = powers_from target (i + 1) ps

    does : (v : Verb) (does_it : Bool) → flat_map (exertion verb) later ≡ exertion_nodes rest → (if does_it then Exert i ∷ [] else []) ++ flat_map (exertion verb) later ≡ exertion_nodes (cond (does_it && true) ((i, p) ∷ rest) rest)
    does v true h = ap (λ l. Exert i ∷ l) h
    does v false h = h

    acts : (v : Verb) (on_it : Bool) → flat_map (exertion verb) later ≡ exertion_nodes rest → flat_map (exertion verb) ((if on_it then record { verb = v; number = i } ∷ [] else []) ++ later) ≡ exertion_nodes (cond ((verb_number v == verb_number verb) && on_it) ((i, p) ∷ rest) rest)
    acts v true h = does v (verb_number v == verb_number verb) h
    acts v false h = not_on_it (verb_number v == verb_number verb)
      where
        not_on_it : (does_it : Bool) → flat_map (exertion verb) later ≡ exertion_nodes (cond (does_it && false) ((i, p) ∷ rest) rest)
        not_on_it true = h
        not_on_it false = h

    at : (goal : Goal) → flat_map (exertion verb) later ≡ exertion_nodes rest → flat_map (exertion verb) (power_on target i goal ++ later) ≡ exertion_nodes (cond (is_act verb target goal) ((i, p) ∷ rest) rest)
    at (G.Duty consequent) h = h
    at (G.Act act) h = acts act.verb (same_target act.target target) h

pub all_exertions_are : (i : ℕ) (ps : List Position) → map (λ power. Exert power.number) (powers_from T.Contract i ps) ≡ exertion_nodes (filter (λ n. acts_on_contract n.1.goal) (enumerate_from i ps))
all_exertions_are i [] = refl
all_exertions_are i (p ∷ ps) = at p.goal (all_exertions_are (i + 1) ps)
  where
    rest : List (ℕ × Position)
    rest = filter (λ n. acts_on_contract n.1.goal) (enumerate_from (i + 1) ps)

    later : List Power
    later = powers_from T.Contract (i + 1) ps

    acts : (v : Verb) (on_it : Bool) → map (λ power. Exert power.number) later ≡ exertion_nodes rest → map (λ power. Exert power.number) ((if on_it then record { verb = v; number = i } ∷ [] else []) ++ later) ≡ exertion_nodes (cond on_it ((i, p) ∷ rest) rest)
    acts v true h = ap (λ l. Exert i ∷ l) h
    acts v false h = h

    at : (goal : Goal) → map (λ power. Exert power.number) later ≡ exertion_nodes rest → map (λ power. Exert power.number) (power_on T.Contract i goal ++ later) ≡ exertion_nodes (cond (acts_on_contract goal) ((i, p) ∷ rest) rest)
    at (G.Duty consequent) h = h
    at (G.Act act) h = acts act.verb (same_target act.target T.Contract) h
