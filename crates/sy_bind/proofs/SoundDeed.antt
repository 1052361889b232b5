-- The deed of an accepted specification is sound.
use Rattle.std.proofs.Common.{◌≡◌, ℕ, if◌then◌else◌, ◌+◌, ◌≤◌, Bool, true, false, List, [], ◌∷◌, ◌++◌, length, map, Option, Some, None, refl, sym, ap, ◌∙◌, subst, arith, length-append}
use Rattle.std.specs.Prelude.{filter, IsTrue, cond}
use Rattle.std.specs.List.{count_by, flat_map, fold, list_all, sum_by}
use Rattle.std.proofs.lemmas.List.{length-map}
use Rattle.std.proofs.lemmas.List.Sums.{sum_by-append, sum_by-cons}
use Rattle.sy_base.specs.Points.{IsDated}
use Rattle.sy_words.specs.declared.form.Form.{Form}
use Rattle.sy_words.specs.declared.form.Form.TheVariants as Form
use Rattle.sy_core.specs.declared.position.Position.{Position}
use Rattle.sy_core.specs.declared.position.Goal.{Goal}
use Rattle.sy_core.specs.declared.deed.EventDecl.{EventDecl}
use Rattle.sy_core.specs.declared.deed.Deed.{Deed}
use Rattle.sy_core.specs.declared.kind.Target.{Target}
use Rattle.sy_core.specs.declared.proposition.Prop.TheVariants as Prop
use Rattle.sy_core.specs.declared.proposition.Prop.TheOpen as P
use Rattle.sy_core.specs.declared.proposition.Prop.TheFolds.{fold-roll-Prop}
use Rattle.sy_core.specs.Limits.{KeepsLimits, atoms_of, atoms_step, of_deed, of_duty, of_position}
use Rattle.sy_core.specs.Soundness.{HasNamesApart, HasSoundParts, IsOrdered, IsSound, is_sound_decl, is_sound_position, is_sound_prop}
use Rattle.sy_tree.specs.declared.proposition.PropTree.{PropTree}
use Rattle.sy_spec.specs.declared.position.ActTree.{ActTree}
use Rattle.sy_spec.specs.declared.position.ObligTree.{ObligTree}
use Rattle.sy_spec.specs.declared.position.PowerTree.{PowerTree}
use Rattle.sy_spec.specs.declared.contract.ContractTree.{ContractTree}
use Rattle.sy_spec.specs.declared.contract.DeclTree.{DeclTree}
use Rattle.sy_spec.specs.declared.contract.SpecTree.{SpecTree}
use Rattle.sy_binding.specs.declared.tree.BindTree.{BindTree}
use Rattle.sy_scope.specs.Scopes.{Things, declaration_sort, things_of}
use Rattle.sy_scope.specs.Walks.{obligation_propositions, power_propositions, written_trigger}
use Rattle.sy_literal.specs.Limits.{atom_count, atoms, counted_propositions, event_count, is_event_sort, position_count}
use Rattle.sy_typing.specs.Outlines.{act_or_none, act_outline, position_outlines}
use Rattle.sy_typing.specs.Positions.{act_target}
use Rattle.sy_typing.specs.Plans.{order_of_spec, spec_fault}
use Rattle.sy_given.specs.Bound.{bound_values}
use Rattle.sy_terms.specs.Items.{Environment}
use Rattle.sy_terms.specs.Environments.{bound_alone, declare}
use Rattle.sy_parts.specs.Counts.{has_few_parts}
use Rattle.sy_parts.proofs.Counting.{limits_kept}
use Rattle.sy_apart.specs.Apart as apart
use Rattle.sy_apart.proofs.Accepted.{names_passed, none_repeated}
use Rattle.sy_events.specs.Enumerations.{choice_numbers, choices_of}
use Rattle.sy_events.specs.Events.{attribute, declares_event, event_declarations, event_of}
use Rattle.sy_events.proofs.Attributes.{events_sound, linked}
use Rattle.sy_lower.specs.Basis.{Basis}
use Rattle.sy_lower.specs.Positions.{obligation, positions, postconditions, power}
use Rattle.sy_lower.specs.Propositions.{lowered, trigger}
use Rattle.sy_lower.proofs.Counted.{lowered_counted, of_const}
use Rattle.sy_lower.proofs.Sound.{positions_sound, posts_sound}
use Rattle.sy_bind.specs.Deeds.{basis_of, deed_of}
use Rattle.sy_bind.proofs.Accepted.{acyclic, domain_none, few_atoms, few_events, few_positions}
use Rattle.sy_bind.proofs.Apart.{names_apart}
use Rattle.sy_bind.proofs.Ordered.{forms_same, ordered}

-- ---- atoms

module _ (b : Basis) where
  trigger_counted : (tree : Option PropTree) → atoms_of (trigger b tree) ≤ sum_by atoms (written_trigger tree)
  trigger_counted None = omega (arith, of_const true)
  trigger_counted (Some tree) = omega (arith, lowered_counted b tree, sum_by-cons atoms tree [])

  obligation_counted : (form : Form) (o : ObligTree) → of_position atoms_of (obligation b form o) ≤ sum_by atoms (obligation_propositions o)
  obligation_counted form o =
      omega (
        arith,
        trigger_counted o.trigger,
        lowered_counted b o.antecedent,
        lowered_counted b o.consequent,
        sum_by-append atoms (written_trigger o.trigger) (o.antecedent ∷ o.consequent ∷ []),
        sum_by-cons atoms o.antecedent (o.consequent ∷ []),
        sum_by-cons atoms o.consequent [],
      )

  act_counted : (act : ActTree) → of_duty atoms_of (act_outline b.things.domain.table b.contract act) ≡ 0
  act_counted act = at (act_target b.things.domain.table b.contract act.verb.verb act.target)
    where
      at : (o : Option Target) → of_duty atoms_of (act_or_none act.verb.verb o) ≡ 0
      at None = refl
      at (Some t) = refl

  power_counted : (p : PowerTree) → of_position atoms_of (power b p) ≤ sum_by atoms (power_propositions p)
  power_counted p =
      omega (
        arith,
        trigger_counted p.trigger,
        lowered_counted b p.antecedent,
        act_counted p.act,
        sum_by-append atoms (written_trigger p.trigger) (p.antecedent ∷ []),
        sum_by-cons atoms p.antecedent [],
      )

  each_counted : {X : Type 0} (f : X → Position) (parts : X → List PropTree) → ((x : X) → of_position atoms_of (f x) ≤ sum_by atoms (parts x)) → (xs : List X)
      → sum_by (of_position atoms_of) (map f xs) ≤ sum_by atoms (flat_map parts xs)
  each_counted f parts few [] = omega arith
  each_counted f parts few (x ∷ xs) =
      omega (
        arith,
        few x,
        each_counted f parts few xs,
        sum_by-cons (of_position atoms_of) (f x) (map f xs),
        sum_by-append atoms (parts x) (flat_map parts xs),
      )

  posts_counted : (trees : List PropTree) → sum_by atoms_of (map (lowered b) trees) ≤ sum_by atoms trees
  posts_counted [] = omega arith
  posts_counted (tree ∷ trees) =
      omega (
        arith,
        lowered_counted b tree,
        posts_counted trees,
        sum_by-cons atoms_of (lowered b tree) (map (lowered b) trees),
        sum_by-cons atoms tree trees,
      )

  all_counted : sum_by (of_position atoms_of) (positions b) + sum_by atoms_of (postconditions b) ≤ atom_count b.contract
  all_counted =
      let f = sum_by-append (of_position atoms_of) in
      let g = sum_by-append atoms in
      let c = b.contract in
      let first = map (obligation b Form.Obligation) c.obligations in
      let second = map (obligation b Form.Surviving) c.surviving in
      let third = map (power b) c.powers in
      omega (
        arith,
        f (first ++ second) third,
        f first second,
        each_counted (obligation b Form.Obligation) obligation_propositions (obligation_counted Form.Obligation) c.obligations,
        each_counted (obligation b Form.Surviving) obligation_propositions (obligation_counted Form.Surviving) c.surviving,
        each_counted (power b) power_propositions power_counted c.powers,
        posts_counted c.postconditions,
        g (c.postconditions ++ flat_map obligation_propositions c.obligations ++ flat_map obligation_propositions c.surviving) (flat_map power_propositions c.powers),
        g (c.postconditions ++ flat_map obligation_propositions c.obligations) (flat_map obligation_propositions c.surviving),
        g c.postconditions (flat_map obligation_propositions c.obligations),
      )

  positions_few : length (positions b) ≤ position_count b.contract
  positions_few =
      let first = map (obligation b Form.Obligation) b.contract.obligations in
      let second = map (obligation b Form.Surviving) b.contract.surviving in
      omega (
        arith,
        length-append (first ++ second) (map (power b) b.contract.powers),
        length-append first second,
        length-map b.contract.obligations (obligation b Form.Obligation),
        length-map b.contract.surviving (obligation b Form.Surviving),
        length-map b.contract.powers (power b),
      )

-- ---- the unit

unit_kept : (s : Things) (declarations : List DeclTree) (e : Environment) → (fold (declare s) e declarations).unit ≡ e.unit
unit_kept s [] e = refl
unit_kept s (d ∷ declarations) e = unit_kept s declarations (declare s e d)

-- ---- events

events_counted : (s : Things) (declarations : List DeclTree)
    → length (event_declarations s declarations) ≡ count_by (is_event_sort s) (map (declaration_sort s.domain.table) declarations)
events_counted s [] = refl
events_counted s (d ∷ declarations) =
    at (declares_event s d) (events_counted s declarations)
    ∙ sym (sum_by-cons (λ sort. cond (is_event_sort s sort) 1 0) (declaration_sort s.domain.table d) (map (declaration_sort s.domain.table) declarations))
  where
    at : (c : Bool) → length (event_declarations s declarations) ≡ count_by (is_event_sort s) (map (declaration_sort s.domain.table) declarations)
        → length (if c then d ∷ event_declarations s declarations else event_declarations s declarations)
        ≡ cond c 1 0 + count_by (is_event_sort s) (map (declaration_sort s.domain.table) declarations)
    at true h = omega (arith, h)
    at false h = omega (arith, h)

-- ---- the whole

module _ (spec : SpecTree) (tree : BindTree) (accepted : spec_fault spec ≡ None) (deed : Deed) (is : deed ≡ deed_of spec tree) where
  abbrev b : Basis
  b = basis_of spec tree

  abbrev s : Things
  s = things_of spec

  abbrev declared : List EventDecl
  declared = map (event_of s (choice_numbers spec.domain.types)) (event_declarations s spec.contract.declarations)

  -- ---- what the deed has

  unit : deed.unit ≡ b.environment.unit
  unfolding deed_of
  unit =
      ap (λ (d : Deed). d.unit) is
      ∙ sym (unit_kept s spec.contract.declarations (bound_alone spec.contract.unit.unit (bound_values s spec.contract.unit.unit spec tree)))

  events : deed.events ≡ declared
  unfolding deed_of
  events = ap (λ (d : Deed). d.events) is

  choices : deed.choices ≡ choices_of spec.domain.types
  unfolding deed_of
  choices = ap (λ (d : Deed). d.choices) is

  placed : deed.positions ≡ positions b
  unfolding deed_of
  placed = ap (λ (d : Deed). d.positions) is

  posts : deed.posts ≡ postconditions b
  unfolding deed_of
  posts = ap (λ (d : Deed). d.posts) is

  order : deed.order ≡ order_of_spec spec
  unfolding deed_of
  order = ap (λ (d : Deed). d.order) is

  -- ---- the parts of soundness

  linked_attributes : map (λ (e : EventDecl). e.attrs) deed.events ≡ map (map attribute) b.declared.kinds
  linked_attributes =
      ap (map (λ (e : EventDecl). e.attrs)) events
      ∙ linked s (choice_numbers spec.domain.types) (event_declarations s spec.contract.declarations)

  forms : map (λ (p : Position). p.form) deed.positions ≡ map (λ (p : Position). p.form) (position_outlines b.things.domain.table b.contract)
  forms = ap (map (λ (p : Position). p.form)) placed ∙ forms_same b

  parts : IsDated deed.unit deed.start → HasSoundParts deed
  parts dated =
      record {
        start_dated = dated;
        events_sound =
            ap (list_all (is_sound_decl deed)) events
            ∙ events_sound deed spec.domain.types choices s (event_declarations s spec.contract.declarations);
        positions_sound = ap (list_all (is_sound_position deed)) placed ∙ positions_sound b deed unit choices linked_attributes forms;
        posts_sound = ap (list_all (is_sound_prop deed)) posts ∙ posts_sound b deed unit choices linked_attributes forms;
      }

  few_of_position : length deed.positions ≤ 500
  few_of_position = omega (arith, ap length placed, positions_few b, few_positions spec accepted)

  few_of_events : length deed.events ≤ 500
  few_of_events =
      omega (
        arith,
        ap length events,
        length-map (event_declarations s spec.contract.declarations) (event_of s (choice_numbers spec.domain.types)),
        events_counted s spec.contract.declarations,
        few_events spec accepted,
      )

  few_of_atoms : of_deed atoms_of deed ≤ 4000
  few_of_atoms =
      omega (
        arith,
        ap (sum_by (of_position atoms_of)) placed,
        ap (sum_by atoms_of) posts,
        all_counted b,
        few_atoms spec accepted,
      )

  pub sound : IsDated deed.unit deed.start → IsTrue (has_few_parts deed) → IsSound deed
  sound dated few =
      record {
        parts = parts dated;
        names = names_apart spec s b deed (none_repeated spec (names_passed spec (domain_none spec accepted))) refl events choices placed;
        limits = limits_kept deed few_of_position few_of_events few_of_atoms few;
        ordered = ordered spec b refl refl deed placed order (acyclic spec accepted);
      }
