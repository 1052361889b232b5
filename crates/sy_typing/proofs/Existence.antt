-- The events and acts of an outline name positions that are there and take them.
use Rattle.std.proofs.Common.{◌≡◌, ℕ, zero, suc, ◌+◌, ◌<◌, ◌≤◌, ◌&&◌, Bool, true, false, if◌then◌else◌, nat_lt, List, [], ◌∷◌, ◌++◌, length, map, slice_get, Option, Some, None, refl, sym, ap, ◌∙◌, subst, arith, length-append}
use Rattle.std.specs.List.{list_all, flat_map}
use Rattle.std.proofs.lemmas.List.{length-map}
use Rattle.std.proofs.lemmas.List.Folds.{list_all-append}
use Rattle.std.proofs.lemmas.Bool.{ltb-true}
use Rattle.sy_words.specs.declared.form.Form.{Form}
use Rattle.sy_words.specs.declared.form.Form.TheVariants as Form
use Rattle.sy_words.specs.declared.kind.Kind.{Kind}
use Rattle.sy_core.specs.declared.kind.Target.{Target}
use Rattle.sy_core.specs.declared.kind.Target.TheVariants as T
use Rattle.sy_core.specs.declared.event.Ev.TheVariants.{Inner}
use Rattle.sy_core.specs.declared.proposition.Prop.TheVariants.{rolls-Any, rolls-Happens}
use Rattle.sy_core.specs.declared.proposition.Prop.TheOpen as P
use Rattle.sy_core.specs.declared.proposition.Prop.TheFolds.{fold-roll-Prop}
use Rattle.sy_core.specs.declared.position.Position.{Position}
use Rattle.sy_core.specs.declared.deed.Deed.{Deed}
use Rattle.sy_core.specs.Mentions.{InternalEvent, names_step, names_of, names_of_duty}
use Rattle.sy_core.specs.Soundness.{form_passes, is_contract_kind, is_kind_of, is_sound_inner}
use Rattle.sy_core.proofs.Listing.{and_left, and_right}
use Rattle.sy_order.specs.Naming.{acts_as_power, are_there, names_what_is_there}
use Rattle.sy_tree.specs.declared.target.TargetTree.{TargetTree}
use Rattle.sy_tree.specs.declared.target.TargetTree.TheVariants as Trees
use Rattle.sy_tree.specs.declared.date.DateTree.{DateTree}
use Rattle.sy_tree.specs.declared.date.MomentTree.{MomentTree}
use Rattle.sy_tree.specs.declared.date.MomentTree.TheVariants as Moment
use Rattle.sy_tree.specs.declared.proposition.EventTree.{EventTree}
use Rattle.sy_tree.specs.declared.proposition.EventTree.TheVariants as Event
use Rattle.sy_tree.specs.declared.proposition.PropTree.{PropTree}
use Rattle.sy_tree.specs.declared.proposition.PropTree.TheOpen.{PropTree-F}
use Rattle.sy_tree.specs.declared.proposition.PropTree.TheOpen as Tree
use Rattle.sy_tree.specs.declared.proposition.PropTree.TheFolds.{fold-roll-PropTree, map-PropTree, ind-PropTree}
use Rattle.sy_tree.specs.declared.proposition.PropTree.TheViews.{roll-PropTree}
use Rattle.sy_spec.specs.declared.position.ObligTree.{ObligTree}
use Rattle.sy_spec.specs.declared.position.PowerTree.{PowerTree}
use Rattle.sy_spec.specs.declared.position.ActTree.{ActTree}
use Rattle.sy_spec.specs.declared.contract.ContractTree.{ContractTree}
use Rattle.sy_domain.specs.declared.meaning.Meaning.{Meaning}
use Rattle.sy_domain.specs.declared.meaning.Meaning.TheVariants as M
use Rattle.sy_domain.specs.Names.{Table, meaning_in}
use Rattle.sy_typing.specs.Positions.{act_target, before_form, contract_if, count_of, event_target, number_of, position_if, position_with}
use Rattle.sy_typing.specs.Outlines.{act_or_none, act_outline, date_mentions, event_if, event_mentions, happens, mentions, mentions_step, moment_mentions, obligation_outline, one_happens, position_outlines, power_outline, trigger_mentions}

-- ---- an item of lists that stand one behind the other

front : {X : Type 0} (xs ys : List X) (i : ℕ) → i < length xs → slice_get (xs ++ ys) i ≡ slice_get xs i
front [] ys i lt = absurd (omega (arith, lt))
front (x ∷ xs) ys zero lt = refl
front (x ∷ xs) ys (suc i) lt = front xs ys i (omega (arith, lt))

behind : {X : Type 0} (xs ys : List X) (j i : ℕ) → j ≡ length xs + i → slice_get (xs ++ ys) j ≡ slice_get ys i
behind [] ys j i e = let same : j ≡ i = omega (arith, e) in ap (slice_get ys) same
behind (x ∷ xs) ys zero i e = absurd (omega (arith, e))
behind (x ∷ xs) ys (suc j) i e = behind xs ys j i (omega (arith, e))

-- ---- a position by its form and its number

-- a position of a form is the outline of a tree
passes_mapped : {X : Type 0} (test : Form → Bool) (form : Form) (f : X → Position) → ((x : X) → (f x).form ≡ form)
    → (xs : List X) (i : ℕ) → i < length xs → form_passes test (slice_get (map f xs) i) ≡ test form
passes_mapped test form f of_form [] i lt = absurd (omega (arith, lt))
passes_mapped test form f of_form (x ∷ xs) zero lt = ap test (of_form x)
passes_mapped test form f of_form (x ∷ xs) (suc i) lt = passes_mapped test form f of_form xs i (omega (arith, lt))

module _ (table : Table) (contract : ContractTree) where
  abbrev obligations : List Position
  obligations = map (obligation_outline table contract Form.Obligation) contract.obligations

  abbrev surviving : List Position
  surviving = map (obligation_outline table contract Form.Surviving) contract.surviving

  abbrev powers : List Position
  powers = map (power_outline table contract) contract.powers

  pub numbered_passes : (test : Form → Bool) (form : Form) (i : ℕ) → i < count_of contract form
      → form_passes test (slice_get (position_outlines table contract) (number_of contract form i)) ≡ test form
  numbered_passes test Form.Obligation i lt =
      let within : i < length obligations = subst (λ n. i < n) (sym (length-map contract.obligations (obligation_outline table contract Form.Obligation))) lt in
      let here : i < length (obligations ++ surviving) = omega (arith, within, length-append obligations surviving) in
      let same : before_form contract Form.Obligation + i ≡ i = omega arith in
      ap (form_passes test)
      (ap (slice_get (position_outlines table contract)) same
      ∙ front (obligations ++ surviving) powers i here
      ∙ front obligations surviving i within)
      ∙ passes_mapped test Form.Obligation (obligation_outline table contract Form.Obligation) (λ x. refl) contract.obligations i lt
  numbered_passes test Form.Surviving i lt =
      let many = length-map contract.obligations (obligation_outline table contract Form.Obligation) in
      let more = length-map contract.surviving (obligation_outline table contract Form.Surviving) in
      let here : length contract.obligations + i < length (obligations ++ surviving) = omega (arith, lt, many, more, length-append obligations surviving) in
      let same : length contract.obligations + i ≡ length obligations + i = omega (arith, many) in
      ap (form_passes test)
      (front (obligations ++ surviving) powers (length contract.obligations + i) here
      ∙ behind obligations surviving (length contract.obligations + i) i same)
      ∙ passes_mapped test Form.Surviving (obligation_outline table contract Form.Surviving) (λ x. refl) contract.surviving i lt
  numbered_passes test Form.Power i lt =
      let many = length-map contract.obligations (obligation_outline table contract Form.Obligation) in
      let more = length-map contract.surviving (obligation_outline table contract Form.Surviving) in
      let same : length contract.obligations + length contract.surviving + i ≡ length (obligations ++ surviving) + i =
      omega (arith, many, more, length-append obligations surviving) in
      ap (form_passes test) (behind (obligations ++ surviving) powers (length contract.obligations + length contract.surviving + i) i same)
      ∙ passes_mapped test Form.Power (power_outline table contract) (λ x. refl) contract.powers i lt

-- ---- what the outline of a proposition names

names_mapped : (events : List InternalEvent) → flat_map (λ part. part) (map names_of (map happens events)) ≡ events
names_mapped [] = refl
names_mapped (event ∷ events) =
    ap (λ l. l ++ flat_map (λ part. part) (map names_of (map happens events)))
    (ap names_of (sym (rolls-Happens (Inner event.0 event.1))) ∙ fold-roll-Prop (List InternalEvent) names_step (P.Happens (Inner event.0 event.1)))
    ∙ ap (λ l. event ∷ l) (names_mapped events)

pub names_of_one : (events : List InternalEvent) → names_of (one_happens events) ≡ events
names_of_one events =
    ap names_of (sym (rolls-Any (map happens events)))
    ∙ fold-roll-Prop (List InternalEvent) names_step (P.Any (map happens events))
    ∙ names_mapped events

-- ---- truth values

and_both : (a b c : Bool) → a ≡ true → (b && c) ≡ true → (a && b && c) ≡ true
and_both true b c e h = h
and_both false b c e h = cc

-- ---- each of the events is there

module _ (deed : Deed) (table : Table) (contract : ContractTree) (same : deed.positions ≡ position_outlines table contract) where
  there_append : (xs ys : List InternalEvent) → are_there deed xs ≡ true → are_there deed ys ≡ true → are_there deed (xs ++ ys) ≡ true
  there_append xs ys h k =
      list_all-append (λ event. is_sound_inner deed event.0 event.1) xs ys ∙ (λ j. h j && k j)

  position_there : (kind : Kind) (form : Form) (i : ℕ) → are_there deed (event_if kind (position_if contract (is_kind_of form kind) form i)) ≡ true
  position_there kind form i = at (nat_lt i (count_of contract form) && is_kind_of form kind) refl
    where
      at : (b : Bool) → (nat_lt i (count_of contract form) && is_kind_of form kind) ≡ b
          → are_there deed (event_if kind (if b then Some (T.Position (number_of contract form i)) else None)) ≡ true
      at false e = refl
      at true e =
          let lt = ltb-true i (count_of contract form) (and_left (nat_lt i (count_of contract form)) (is_kind_of form kind) e) in
          let takes = and_right (nat_lt i (count_of contract form)) (is_kind_of form kind) e in
          let passes = numbered_passes table contract (λ form. is_kind_of form kind) form i lt ∙ takes in
          let sound = ap (λ ps. form_passes (λ form. is_kind_of form kind) (slice_get ps (number_of contract form i))) same ∙ passes in
          λ j. sound j && true

  meaning_there : (kind : Kind) (meaning : Option Meaning) → are_there deed (event_if kind (position_with contract kind meaning)) ≡ true
  meaning_there kind None = refl
  meaning_there kind (Some (M.Type sort)) = refl
  meaning_there kind (Some (M.Constant of i)) = refl
  meaning_there kind (Some (M.Parameter i)) = refl
  meaning_there kind (Some (M.Declaration i)) = refl
  meaning_there kind (Some (M.Position form i)) = position_there kind form i

  contract_there : (kind : Kind) → are_there deed (event_if kind (contract_if (is_contract_kind kind))) ≡ true
  contract_there kind = at (is_contract_kind kind) refl
    where
      at : (b : Bool) → is_contract_kind kind ≡ b → are_there deed (event_if kind (contract_if b)) ≡ true
      at false e = refl
      at true e = λ j. e j && true

  target_there : (kind : Kind) (target : TargetTree) → are_there deed (event_if kind (event_target table contract kind target)) ≡ true
  target_there kind (Trees.Named name) = meaning_there kind (meaning_in table name.text)
  target_there kind (Trees.Contract place) = contract_there kind

  event_there : (event : EventTree) → are_there deed (event_mentions table contract event) ≡ true
  event_there (Event.Declared name guards) = refl
  event_there (Event.Internal kind place target) = target_there kind target

  moment_there : (moment : MomentTree) → are_there deed (moment_mentions table contract moment) ≡ true
  moment_there (Moment.Fixed date) = refl
  moment_there (Moment.Path path) = refl
  moment_there (Moment.Time place event) = event_there event

  date_there : (date : DateTree) → are_there deed (date_mentions table contract date) ≡ true
  date_there date = moment_there date.moment

  abbrev AreThere : PropTree → Type 0
  AreThere tree = are_there deed (mentions table contract tree) ≡ true

  parts_there : (parts : List ((tree : PropTree) × AreThere tree))
      → are_there deed (flat_map (λ part. part) (map (mentions table contract) (map (λ e. e.0) parts))) ≡ true
  parts_there [] = refl
  parts_there (e ∷ parts) =
      there_append (mentions table contract e.0)
      (flat_map (λ part. part) (map (mentions table contract) (map (λ (q : (tree : PropTree) × AreThere tree). q.0) parts)))
      e.1 (parts_there parts)

  -- one layer, with the fact of each part beside it
  layer_there : (y : PropTree-F ((tree : PropTree) × AreThere tree))
      → are_there deed (mentions_step table contract (map-PropTree PropTree (List InternalEvent) (mentions table contract) (map-PropTree ((tree : PropTree) × AreThere tree) PropTree (λ e. e.0) y))) ≡ true
  layer_there (Tree.Const value first) = refl
  layer_there (Tree.Not e first) = e.1
  layer_there (Tree.All parts first) = parts_there parts
  layer_there (Tree.Any parts first) = parts_there parts
  layer_there (Tree.Compare left cmp right first) = refl
  layer_there (Tree.Happens event first) = event_there event
  layer_there (Tree.Before event date first) = there_append (event_mentions table contract event) (date_mentions table contract date) (event_there event) (date_there date)
  layer_there (Tree.After event date first) = there_append (event_mentions table contract event) (date_mentions table contract date) (event_there event) (date_there date)
  layer_there (Tree.Within event from to first) =
      there_append (event_mentions table contract event) (date_mentions table contract from ++ date_mentions table contract to) (event_there event)
      (there_append (date_mentions table contract from) (date_mentions table contract to) (date_there from) (date_there to))
  layer_there (Tree.Occurs situation from to first) =
      there_append (date_mentions table contract from) (date_mentions table contract to) (date_there from) (date_there to)
  layer_there (Tree.Holds situation first) = refl

  mentions_there : (tree : PropTree) → AreThere tree
  mentions_there = ind-PropTree AreThere (λ x y is.
      let parts = λ (z : PropTree-F ((tree : PropTree) × AreThere tree)). map-PropTree ((tree : PropTree) × AreThere tree) PropTree (λ e. e.0) z in
      subst (λ (z : PropTree-F PropTree). AreThere (roll-PropTree z)) is
      (ap (are_there deed) (fold-roll-PropTree (List InternalEvent) (mentions_step table contract) (parts y)) ∙ layer_there y))

  -- ---- each position names what is there

  prop_there : (tree : PropTree) → are_there deed (names_of (one_happens (mentions table contract tree))) ≡ true
  prop_there tree = ap (are_there deed) (names_of_one (mentions table contract tree)) ∙ mentions_there tree

  trigger_there : (trigger : Option PropTree) → are_there deed (names_of (one_happens (trigger_mentions table contract trigger))) ≡ true
  trigger_there None = ap (are_there deed) (names_of_one [])
  trigger_there (Some tree) = prop_there tree

  obligation_there : (form : Form) (o : ObligTree) → names_what_is_there deed (obligation_outline table contract form o) ≡ true
  obligation_there form o =
      let trigger = trigger_there o.trigger in
      let antecedent = prop_there o.antecedent in
      let consequent = prop_there o.consequent in
      λ j. trigger j && antecedent j && consequent j && true

  act_there : (act : ActTree) → (are_there deed (names_of_duty (act_outline table contract act)) && acts_as_power Form.Power (act_outline table contract act)) ≡ true
  act_there act = at (act_target table contract act.verb.verb act.target)
    where
      at : (o : Option Target) → (are_there deed (names_of_duty (act_or_none act.verb.verb o)) && acts_as_power Form.Power (act_or_none act.verb.verb o)) ≡ true
      at None = refl
      at (Some target) = refl

  all_mapped : {X : Type 0} (test : Position → Bool) (f : X → Position) → ((x : X) → test (f x) ≡ true) → (xs : List X) → list_all test (map f xs) ≡ true
  all_mapped test f passes [] = refl
  all_mapped test f passes (x ∷ xs) = let first = passes x in let rest = all_mapped test f passes xs in λ j. first j && rest j

  power_there : (p : PowerTree) → names_what_is_there deed (power_outline table contract p) ≡ true
  power_there p =
      let trigger = trigger_there p.trigger in
      let antecedent = prop_there p.antecedent in
      let act = act_there p.act in
      and_both (are_there deed (names_of (one_happens (trigger_mentions table contract p.trigger))) && are_there deed (names_of (one_happens (mentions table contract p.antecedent))))
      (are_there deed (names_of_duty (act_outline table contract p.act))) (acts_as_power Form.Power (act_outline table contract p.act))
      (λ j. trigger j && antecedent j) act

  -- the order of evaluation may be asked for
  pub all_there : list_all (names_what_is_there deed) (position_outlines table contract) ≡ true
  all_there =
      let test = names_what_is_there deed in
      let first = all_mapped test (obligation_outline table contract Form.Obligation) (obligation_there Form.Obligation) contract.obligations in
      let second = all_mapped test (obligation_outline table contract Form.Surviving) (obligation_there Form.Surviving) contract.surviving in
      let third = all_mapped test (power_outline table contract) power_there contract.powers in
      list_all-append test (obligations table contract ++ surviving table contract) (powers table contract)
      ∙ ap (λ b. b && list_all test (powers table contract)) (list_all-append test (obligations table contract) (surviving table contract))
      ∙ (λ j. first j && second j && third j)

-- the outline has as many positions as the contract
pub position_number : (table : Table) (contract : ContractTree)
    → length (position_outlines table contract) ≡ length contract.obligations + length contract.surviving + length contract.powers
position_number table contract =
    omega (
      arith,
      length-append (obligations table contract ++ surviving table contract) (powers table contract),
      length-append (obligations table contract) (surviving table contract),
      length-map contract.obligations (obligation_outline table contract Form.Obligation),
      length-map contract.surviving (obligation_outline table contract Form.Surviving),
      length-map contract.powers (power_outline table contract),
    )
