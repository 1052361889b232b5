-- The counts of a deed's parts, as code sums them up, are those of the definitions.
use Rattle.std.proofs.Common.{◌≡◌, ℕ, ◌+◌, ◌-◌, ◌^◌, ◌<◌, ◌≤◌, Bool, true, ◌&&◌, List, ◌++◌, map, length, min, ◌⊎◌, inl, inr, refl, sym, ◌∙◌, ap, arith, length-append}
use Rattle.std.proofs.lemmas.Bool.Decides.{nat_tests}
use Rattle.std.proofs.lemmas.List.Concat.{length-flat_map}
use Rattle.std.proofs.lemmas.List.Folds.{fold-map}
use Rattle.std.specs.Prelude.{IsTrue}
use Rattle.std.specs.List.{flat_map, list_all, sum, sum_by}
use Rattle.sy_core.specs.declared.date_term.DateTerm.{DateTerm}
use Rattle.sy_core.specs.declared.proposition.Prop.{Prop}
use Rattle.sy_core.specs.declared.proposition.Prop.TheVariants as Props
use Rattle.sy_core.specs.declared.proposition.Prop.TheVariants.{rolls-All, rolls-Any}
use Rattle.sy_core.specs.declared.proposition.Prop.TheOpen as P
use Rattle.sy_core.specs.declared.proposition.Prop.TheFolds.{fold-roll-Prop}
use Rattle.sy_core.specs.declared.position.Goal.{Goal}
use Rattle.sy_core.specs.declared.position.Goal.TheVariants as G
use Rattle.sy_core.specs.declared.position.Position.{Position}
use Rattle.sy_core.specs.declared.deed.Deed.{Deed}
use Rattle.sy_core.specs.Limits.{KeepsLimits, atoms_of, guards_of, is_few, of_deed, of_duty, of_position, size_of}
use Rattle.sy_core.specs.Mentions.{dates_of, dates_of_duty, dates_step}
use Rattle.sy_core.specs.Wakes.{dates_of_deed, dates_of_position}
use Rattle.sy_core.proofs.Listing.{and_left, and_right}
use Rattle.sy_parts.specs.Counts.{dates_in, has_few_parts}

-- the date terms of a proposition with parts
dates_in_all : (ps : List Prop) → length (flat_map (λ part. part) (map dates_of ps)) ≡ sum (map dates_in ps)
dates_in_all ps =
    length-flat_map (λ (part : List DateTerm). part) (map dates_of ps)
    ∙ fold-map (λ (n : ℕ) (dates : List DateTerm). n + length dates) dates_of 0 ps
    ∙ sym (fold-map (λ (n m : ℕ). n + m) dates_in 0 ps)

pub dates_in_parts : (p : Prop) (ps : List Prop) → (p ≡ Props.All ps) ⊎ (p ≡ Props.Any ps) → dates_in p ≡ sum (map dates_in ps)
dates_in_parts p ps (inl e) =
    ap dates_in (e ∙ sym (rolls-All ps)) ∙ (ap length (fold-roll-Prop (List DateTerm) dates_step (P.All ps)) ∙ dates_in_all ps)
dates_in_parts p ps (inr e) =
    ap dates_in (e ∙ sym (rolls-Any ps)) ∙ (ap length (fold-roll-Prop (List DateTerm) dates_step (P.Any ps)) ∙ dates_in_all ps)

-- nothing and the count of the parts together
pub with_nothing : (n whole nothing parts all : ℕ) → whole ≡ n → nothing ≡ 0 → parts ≡ min n (2 ^ 64 - 1) → all ≡ min (nothing + parts) (2 ^ 64 - 1) → all ≡ min whole (2 ^ 64 - 1)
with_nothing n whole nothing parts all same none counted together = grind arith

-- a count that stops at the greatest `usize` is few exactly where the whole one is
pub few_stopped : (n : ℕ) → is_few (min n (2 ^ 64 - 1)) ≡ is_few n
few_stopped n = grind (arith, nat_tests)

-- the date terms of a deed
dates_of_goal : (goal : Goal) → length (dates_of_duty goal) ≡ of_duty dates_in goal
dates_of_goal (G.Duty consequent) = refl
dates_of_goal (G.Act act) = refl

dates_of_one : (p : Position) → length (dates_of_position p) ≡ of_position dates_in p
dates_of_one p =
    let a = length-append (dates_of p.trigger ++ dates_of p.antecedent) (dates_of_duty p.goal) in
    let b = length-append (dates_of p.trigger) (dates_of p.antecedent) in
    let goal = dates_of_goal p.goal in
    omega (arith, a, b, goal)

pub dates_counted : (deed : Deed) → length (dates_of_deed deed) ≡ of_deed dates_in deed
dates_counted deed =
    length-append (flat_map dates_of_position deed.positions) (flat_map dates_of deed.posts)
    ∙ (λ j. length-flat_map dates_of_position deed.positions j + length-flat_map dates_of deed.posts j)
    ∙ (λ j. sum_by (λ p. dates_of_one p j) deed.positions + sum_by dates_in deed.posts)

-- the three counts of propositions, stopped or not
pub phrases_counted : (deed : Deed) (propositions guards dates : ℕ) → propositions ≡ min (of_deed size_of deed) (2 ^ 64 - 1) → guards ≡ min (of_deed guards_of deed) (2 ^ 64 - 1) → dates ≡ min (of_deed dates_in deed) (2 ^ 64 - 1)
    → (is_few propositions && is_few guards && is_few dates) ≡ (is_few (of_deed size_of deed) && is_few (of_deed guards_of deed) && is_few (length (dates_of_deed deed)))
phrases_counted deed propositions guards dates p g d =
    let propositions_few = ap is_few p ∙ few_stopped (of_deed size_of deed) in
    let guards_few = ap is_few g ∙ few_stopped (of_deed guards_of deed) in
    let dates_few = ap is_few d ∙ few_stopped (of_deed dates_in deed) ∙ ap is_few (sym (dates_counted deed)) in
    λ j. propositions_few j && guards_few j && dates_few j

-- with the limits that checks of the text keep, few parts are all that a deed's limits ask for
fits : (n : ℕ) → is_few n ≡ true → n < 2 ^ 32
fits n h = grind (arith, nat_tests)

is_within : (n : ℕ) → n < 2 ^ 32 → is_few n ≡ true
is_within n h = grind (arith, nat_tests)

module _ (deed : Deed) where
  abbrev attributes : Bool
  attributes = list_all (λ event. is_few (length event.attrs)) deed.events

  abbrev constants : Bool
  constants = list_all (λ choices. is_few (length choices.names)) deed.choices

  pub limits_kept : length deed.positions ≤ 500 → length deed.events ≤ 500 → of_deed atoms_of deed ≤ 4000 → IsTrue (has_few_parts deed) → KeepsLimits deed
  limits_kept positions events atoms few =
      let a = is_few (of_deed size_of deed) in
      let b = is_few (of_deed guards_of deed) in
      let c = is_few (length (dates_of_deed deed)) in
      let d = is_few (length deed.posts) in
      let f = is_few (length deed.choices) in
      let six = and_left (a && b && c && d && attributes && f) constants few in
      let five = and_left (a && b && c && d && attributes) f six in
      let four = and_left (a && b && c && d) attributes five in
      let three = and_left (a && b && c) d four in
      let two = and_left (a && b) c three in
      record {
        positions = positions;
        events = events;
        atoms = atoms;
        propositions = fits (of_deed size_of deed) (and_left a b two);
        guards = fits (of_deed guards_of deed) (and_right a b two);
        dates = fits (length (dates_of_deed deed)) (and_right (a && b) c three);
        posts = fits (length deed.posts) (and_right (a && b && c) d four);
        attributes = and_right (a && b && c && d) attributes five;
        enumerations = fits (length deed.choices) (and_right (a && b && c && d && attributes) f six);
        constants = and_right (a && b && c && d && attributes && f) constants few;
      }

  pub few_kept : KeepsLimits deed → IsTrue (has_few_parts deed)
  few_kept keeps =
      let a = is_within (of_deed size_of deed) keeps.propositions in
      let b = is_within (of_deed guards_of deed) keeps.guards in
      let c = is_within (length (dates_of_deed deed)) keeps.dates in
      let d = is_within (length deed.posts) keeps.posts in
      let f = is_within (length deed.choices) keeps.enumerations in
      λ j. a j && b j && c j && d j && keeps.attributes j && f j && keeps.constants j
