-- What a proposition with sound parts names is there.
use Rattle.std.proofs.Common.{◌≡◌, Bool, true, false, ◌&&◌, List, [], ◌∷◌, ◌++◌, map, length, nat_le, refl, sym, ◌∙◌, ap, subst}
use Rattle.std.specs.List.{flat_map, list_all}
use Rattle.sy_core.specs.declared.event.Ev.{Ev}
use Rattle.sy_core.specs.declared.event.Ev.TheVariants.{Outer, Inner}
use Rattle.sy_core.specs.declared.date_term.Base.{Base}
use Rattle.sy_core.specs.declared.date_term.Base.TheVariants.{Fixed, First}
use Rattle.sy_core.specs.declared.date_term.DateTerm.{DateTerm}
use Rattle.sy_core.specs.declared.proposition.Prop.{Prop}
use Rattle.sy_core.specs.declared.proposition.Prop.TheOpen.{Prop-F}
use Rattle.sy_core.specs.declared.proposition.Prop.TheOpen as P
use Rattle.sy_core.specs.declared.proposition.Prop.TheFolds.{fold-roll-Prop, map-Prop, ind-Prop}
use Rattle.sy_core.specs.declared.proposition.Prop.TheViews.{roll-Prop}
use Rattle.sy_words.specs.declared.form.Form.{Form}
use Rattle.sy_core.specs.declared.position.Goal.{Goal}
use Rattle.sy_core.specs.declared.position.Goal.TheVariants as G
use Rattle.sy_core.specs.declared.position.Position.{Position}
use Rattle.sy_core.specs.declared.deed.Deed.{Deed}
use Rattle.sy_core.specs.Mentions.{InternalEvent, named_by_event, named_by_date, names_step, names_of, names_of_duty}
use Rattle.sy_core.specs.Conditions.{is_power, is_obligation}
use Rattle.sy_core.specs.Soundness.{is_duration_of, is_sound_inner, is_sound_event, is_sound_base, is_sound_date, is_sound_situation, is_sound_step, is_sound_prop, is_sound_act, is_sound_goal, is_sound_position}
use Rattle.sy_core.proofs.Listing.{and_left, and_right}
use Rattle.sy_order.specs.Naming.{are_there, acts_as_power, names_what_is_there}

module _ (deed : Deed) where
  there_append : (xs ys : List InternalEvent) → are_there deed xs ≡ true → are_there deed ys ≡ true → are_there deed (xs ++ ys) ≡ true
  there_append [] ys h k = k
  there_append (e ∷ xs) ys h k =
      let first = is_sound_inner deed e.0 e.1 in
      let here = and_left first (are_there deed xs) h in
      let later = there_append xs ys (and_right first (are_there deed xs) h) k in
      λ j. here j && later j

  event_there : (e : Ev) → is_sound_event deed e ≡ true → are_there deed (named_by_event e) ≡ true
  event_there (Outer event guards) h = refl
  event_there (Inner kind target) h = λ j. h j && true

  date_there : (term : DateTerm) → is_sound_date deed term ≡ true → are_there deed (named_by_date term) ≡ true
  date_there term h = at term.base (and_left (is_sound_base deed term.base) (nat_le (length term.plus) 8) (and_left (is_sound_base deed term.base && nat_le (length term.plus) 8) (list_all (is_duration_of deed.unit) term.plus) h))
    where
      at : (base : Base) → is_sound_base deed base ≡ true → are_there deed (named_by_date (record { base = base; plus = term.plus })) ≡ true
      at (Fixed point) h = refl
      at (First e) h = event_there e h

  abbrev Named : Prop → Type 0
  Named p = is_sound_prop deed p ≡ true → are_there deed (names_of p) ≡ true

  all_there : (ps : List ((p : Prop) × Named p)) → list_all (λ b. b) (map (is_sound_prop deed) (map (λ e. e.0) ps)) ≡ true → are_there deed (flat_map (λ part. part) (map names_of (map (λ e. e.0) ps))) ≡ true
  all_there [] h = refl
  all_there (e ∷ ps) h =
      let rest = list_all (λ b. b) (map (is_sound_prop deed) (map (λ (q : (p : Prop) × Named p). q.0) ps)) in
      there_append (names_of e.0) (flat_map (λ part. part) (map names_of (map (λ (q : (p : Prop) × Named p). q.0) ps)))
      (e.1 (and_left (is_sound_prop deed e.0) rest h)) (all_there ps (and_right (is_sound_prop deed e.0) rest h))

  dates_there : (from to : DateTerm) → is_sound_date deed from ≡ true → is_sound_date deed to ≡ true → are_there deed (named_by_date from ++ named_by_date to) ≡ true
  dates_there from to h k = there_append (named_by_date from) (named_by_date to) (date_there from h) (date_there to k)

  one_date_there : (e : Ev) (term : DateTerm) → (is_sound_event deed e && is_sound_date deed term) ≡ true → are_there deed (named_by_event e ++ named_by_date term) ≡ true
  one_date_there e term h =
      there_append (named_by_event e) (named_by_date term) (event_there e (and_left (is_sound_event deed e) (is_sound_date deed term) h)) (date_there term (and_right (is_sound_event deed e) (is_sound_date deed term) h))

  -- one layer, with the fact of each part beside it
  layer_there : (y : Prop-F ((p : Prop) × Named p)) → is_sound_step deed (map-Prop Prop Bool (is_sound_prop deed) (map-Prop ((p : Prop) × Named p) Prop (λ e. e.0) y)) ≡ true → are_there deed (names_step (map-Prop Prop (List InternalEvent) names_of (map-Prop ((p : Prop) × Named p) Prop (λ e. e.0) y))) ≡ true
  layer_there (P.Const b) h = refl
  layer_there (P.Not e) h = e.1 h
  layer_there (P.All ps) h = all_there ps h
  layer_there (P.Any ps) h = all_there ps h
  layer_there (P.Happens e) h = event_there e h
  layer_there (P.Before e to) h = one_date_there e to h
  layer_there (P.After e from) h = one_date_there e from h
  layer_there (P.Within e from to) h =
      let two = and_left (is_sound_event deed e && is_sound_date deed from) (is_sound_date deed to) h in
      there_append (named_by_event e) (named_by_date from ++ named_by_date to) (event_there e (and_left (is_sound_event deed e) (is_sound_date deed from) two))
      (dates_there from to (and_right (is_sound_event deed e) (is_sound_date deed from) two) (and_right (is_sound_event deed e && is_sound_date deed from) (is_sound_date deed to) h))
  layer_there (P.Occurs s from to) h =
      let two = and_left (is_sound_situation deed s && is_sound_date deed from) (is_sound_date deed to) h in
      dates_there from to (and_right (is_sound_situation deed s) (is_sound_date deed from) two) (and_right (is_sound_situation deed s && is_sound_date deed from) (is_sound_date deed to) h)
  layer_there (P.Holds s) h = refl

  names_there : (p : Prop) → Named p
  names_there = ind-Prop Named (λ x y is.
      let parts = λ (z : Prop-F ((p : Prop) × Named p)). map-Prop ((p : Prop) × Named p) Prop (λ e. e.0) z in
      subst (λ (z : Prop-F Prop). Named (roll-Prop z)) is (λ h.
      ap (are_there deed) (fold-roll-Prop (List InternalEvent) names_step (parts y))
      ∙ layer_there y (sym (fold-roll-Prop Bool (is_sound_step deed) (parts y)) ∙ h)))

  goal_there : (form : Form) (goal : Goal) → is_sound_goal deed form goal ≡ true → (are_there deed (names_of_duty goal) ≡ true) × (acts_as_power form goal ≡ true)
  goal_there form (G.Act act) h = (refl, and_left (is_power form) (is_sound_act deed act.verb act.target) h)
  goal_there form (G.Duty consequent) h = (names_there consequent (and_right (is_obligation form) (is_sound_prop deed consequent) h), refl)

  position_there : (p : Position) → is_sound_position deed p ≡ true → names_what_is_there deed p ≡ true
  position_there p h =
      let two = and_left (is_sound_prop deed p.trigger && is_sound_prop deed p.antecedent) (is_sound_goal deed p.form p.goal) h in
      let goal = goal_there p.form p.goal (and_right (is_sound_prop deed p.trigger && is_sound_prop deed p.antecedent) (is_sound_goal deed p.form p.goal) h) in
      let trigger = names_there p.trigger (and_left (is_sound_prop deed p.trigger) (is_sound_prop deed p.antecedent) two) in
      let antecedent = names_there p.antecedent (and_right (is_sound_prop deed p.trigger) (is_sound_prop deed p.antecedent) two) in
      λ j. trigger j && antecedent j && goal.0 j && goal.1 j

  pub positions_there : (ps : List Position) → list_all (is_sound_position deed) ps ≡ true → list_all (names_what_is_there deed) ps ≡ true
  positions_there [] h = refl
  positions_there (p ∷ ps) h =
      let first = position_there p (and_left (is_sound_position deed p) (list_all (is_sound_position deed) ps) h) in
      let rest = positions_there ps (and_right (is_sound_position deed p) (list_all (is_sound_position deed) ps) h) in
      λ j. first j && rest j
