-- What is read of a position for the order of evaluation is read of it when it is bare.
use Rattle.std.proofs.Common.{◌≡◌, ◌&&◌, List, [], ◌∷◌, ◌++◌, map, refl, sym, ◌∙◌, ap}
use Rattle.std.specs.List.{flat_map, list_any}
use Rattle.sy_words.specs.declared.verb.Verb.{Verb}
use Rattle.sy_core.specs.declared.event.Ev.TheVariants.{Inner}
use Rattle.sy_core.specs.declared.kind.Target.{Target}
use Rattle.sy_core.specs.declared.proposition.Prop.{Prop}
use Rattle.sy_core.specs.declared.proposition.Prop.TheVariants.{rolls-Any, rolls-Happens}
use Rattle.sy_core.specs.declared.proposition.Prop.TheOpen as P
use Rattle.sy_core.specs.declared.proposition.Prop.TheFolds.{fold-roll-Prop}
use Rattle.sy_core.specs.declared.position.Goal.{Goal}
use Rattle.sy_core.specs.declared.position.Goal.TheVariants as G
use Rattle.sy_core.specs.declared.position.Position.{Position}
use Rattle.sy_core.specs.Mentions.{InternalEvent, is_violation_of, names_of, names_of_duty, names_step}
use Rattle.sy_core.specs.Conditions.{acts_on_contract, is_act, is_obligation, is_remedy}
use Rattle.sy_parts.specs.Bare.{bare, bare_goal, bare_prop, happens, one_happens}

names_mapped : (events : List InternalEvent) → flat_map (λ part. part) (map names_of (map happens events)) ≡ events
names_mapped [] = refl
names_mapped (event ∷ events) =
    let e = Inner event.0 event.1 in
    ap (λ l. l ++ flat_map (λ part. part) (map names_of (map happens events)))
    (ap names_of (sym (rolls-Happens e)) ∙ fold-roll-Prop (List InternalEvent) names_step (P.Happens e))
    ∙ ap (λ l. event ∷ l) (names_mapped events)

-- that one of some events happens names these
pub names_of_one : (events : List InternalEvent) → names_of (one_happens events) ≡ events
names_of_one events =
    ap names_of (sym (rolls-Any (map happens events)))
    ∙ fold-roll-Prop (List InternalEvent) names_step (P.Any (map happens events))
    ∙ names_mapped events

pub names_of_bare : (prop : Prop) → names_of (bare_prop prop) ≡ names_of prop
names_of_bare prop = names_of_one (names_of prop)

pub names_of_bare_goal : (goal : Goal) → names_of_duty (bare_goal goal) ≡ names_of_duty goal
names_of_bare_goal (G.Duty consequent) = names_of_bare consequent
names_of_bare_goal (G.Act act) = refl

pub bare_acts : (verb : Verb) (target : Target) (goal : Goal) → is_act verb target (bare_goal goal) ≡ is_act verb target goal
bare_acts verb target (G.Duty consequent) = refl
bare_acts verb target (G.Act act) = refl

pub bare_acts_on_contract : (goal : Goal) → acts_on_contract (bare_goal goal) ≡ acts_on_contract goal
bare_acts_on_contract (G.Duty consequent) = refl
bare_acts_on_contract (G.Act act) = refl

pub bare_is_remedy : (violated : Target) (p : Position) → is_remedy violated (bare p) ≡ is_remedy violated p
bare_is_remedy violated p = ap (λ l. is_obligation p.form && list_any (is_violation_of violated) l) (names_of_bare p.trigger)

-- a bare position is bare already
pub bare_prop_again : (prop : Prop) → bare_prop (bare_prop prop) ≡ bare_prop prop
bare_prop_again prop = ap one_happens (names_of_bare prop)

pub bare_goal_again : (goal : Goal) → bare_goal (bare_goal goal) ≡ bare_goal goal
bare_goal_again (G.Duty consequent) = ap G.Duty (bare_prop_again consequent)
bare_goal_again (G.Act act) = refl

pub bare_again : (p : Position) → bare (bare p) ≡ bare p
bare_again p =
    λ j. record p { trigger = bare_prop_again p.trigger j; antecedent = bare_prop_again p.antecedent j; goal = bare_goal_again p.goal j }

-- positions with the same names, form and parties, whose propositions name the same events, are the same when they are bare
pub same_duty : (c d : Prop) → names_of c ≡ names_of d → bare_goal (G.Duty c) ≡ bare_goal (G.Duty d)
same_duty c d h = ap (λ events. G.Duty (one_happens events)) h

pub same_bare : (p q : Position) → p.name ≡ q.name → p.form ≡ q.form → p.first ≡ q.first → p.second ≡ q.second
    → names_of p.trigger ≡ names_of q.trigger → names_of p.antecedent ≡ names_of q.antecedent → bare_goal p.goal ≡ bare_goal q.goal → bare p ≡ bare q
same_bare p q name form first second trigger antecedent goal =
    λ j.
    record {
      name = name j;
      form = form j;
      first = first j;
      second = second j;
      trigger = one_happens (trigger j);
      antecedent = one_happens (antecedent j);
      goal = goal j;
    }
