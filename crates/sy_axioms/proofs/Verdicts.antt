-- The verdict and the soundness of a proposition with parts, by those of the parts.
use Rattle.std.proofs.Common.{◌≡◌, ℕ, suc, ◌+◌, ◌<◌, Bool, true, ◌&&◌, List, ◌∷◌, length, map, drop, get_or, refl, sym, ◌∙◌, ap, add-one, drop-cons}
use Rattle.std.specs.List.{list_all}
use Rattle.std.proofs.lemmas.List.Folds.{list_all-map}
use Rattle.sy_base.specs.declared.time.TimeUnit.{TimeUnit}
use Rattle.sy_core.specs.declared.table.Verdict.{Verdict}
use Rattle.sy_core.specs.declared.table.Verdict.TheVariants.{False, Open, True}
use Rattle.sy_core.specs.declared.proposition.Prop.{Prop}
use Rattle.sy_core.specs.declared.proposition.Prop.TheVariants as Props
use Rattle.sy_core.specs.declared.proposition.Prop.TheVariants.{rolls-All, rolls-Any, rolls-Within, rolls-Occurs}
use Rattle.sy_core.specs.declared.proposition.Prop.TheOpen as P
use Rattle.sy_core.specs.declared.proposition.Prop.TheFolds.{fold-roll-Prop}
use Rattle.sy_core.specs.declared.event.Ev.{Ev}
use Rattle.sy_core.specs.declared.date_term.DateTerm.{DateTerm}
use Rattle.sy_core.specs.declared.proposition.Situation.{Situation}
use Rattle.sy_core.specs.declared.deed.Deed.{Deed}
use Rattle.sy_core.specs.Moments.{Moment}
use Rattle.sy_core.specs.Propositions.{lesser, greater, least, greatest, verdict_step, verdict_at}
use Rattle.sy_core.specs.Soundness.{is_sound_event, is_sound_date, is_sound_situation, is_sound_step, is_sound_prop}
use Rattle.sy_axioms.proofs.Passing.{first, second, passes_at}

lesser_assoc : (a b c : Verdict) → lesser (lesser a b) c ≡ lesser a (lesser b c)
lesser_assoc False b c = refl
lesser_assoc True b c = refl
lesser_assoc Open False c = refl
lesser_assoc Open True c = refl
lesser_assoc Open Open False = refl
lesser_assoc Open Open True = refl
lesser_assoc Open Open Open = refl

pub lesser-true : (a : Verdict) → lesser a True ≡ a
lesser-true False = refl
lesser-true Open = refl
lesser-true True = refl

greater_assoc : (a b c : Verdict) → greater (greater a b) c ≡ greater a (greater b c)
greater_assoc True b c = refl
greater_assoc False b c = refl
greater_assoc Open False c = refl
greater_assoc Open True c = refl
greater_assoc Open Open False = refl
greater_assoc Open Open True = refl
greater_assoc Open Open Open = refl

pub greater-false : (a : Verdict) → greater a False ≡ a
greater-false False = refl
greater-false Open = refl
greater-false True = refl

module _ (unit : TimeUnit) (now : Moment) (before : List Moment) where
  pub verdict-all : (ps : List Prop) → verdict_at unit now before (Props.All ps) ≡ least (map (verdict_at unit now before) ps)
  verdict-all ps = ap (verdict_at unit now before) (sym (rolls-All ps)) ∙ fold-roll-Prop Verdict (verdict_step unit now before) (P.All ps)

  pub verdict-any : (ps : List Prop) → verdict_at unit now before (Props.Any ps) ≡ greatest (map (verdict_at unit now before) ps)
  verdict-any ps = ap (verdict_at unit now before) (sym (rolls-Any ps)) ∙ fold-roll-Prop Verdict (verdict_step unit now before) (P.Any ps)

  pub verdict-within : (e : Ev) (from to : DateTerm) → verdict_at unit now before (Props.Within e from to) ≡ verdict_step unit now before (P.Within e from to)
  verdict-within e from to = ap (verdict_at unit now before) (sym (rolls-Within e from to)) ∙ fold-roll-Prop Verdict (verdict_step unit now before) (P.Within e from to)

  pub verdict-occurs : (s : Situation) (from to : DateTerm) → verdict_at unit now before (Props.Occurs s from to) ≡ verdict_step unit now before (P.Occurs s from to)
  verdict-occurs s from to = ap (verdict_at unit now before) (sym (rolls-Occurs s from to)) ∙ fold-roll-Prop Verdict (verdict_step unit now before) (P.Occurs s from to)

module _ (each : Prop → Verdict) (items : List Prop) (i : ℕ) (here : i < length items) (part : Prop) (is : part ≡ get_or items i part) where
  ahead : drop i items ≡ part ∷ drop (i + 1) items
  ahead = rw add-one (drop-cons items i part here ∙ ap (λ x. x ∷ drop (suc i) items) (sym is))

  -- a running least goes on by one part
  pub least_goes_on : (so_far verdict next whole : Verdict) → next ≡ lesser so_far verdict → verdict ≡ each part → lesser so_far (least (map each (drop i items))) ≡ whole → lesser next (least (map each (drop (i + 1) items))) ≡ whole
  least_goes_on so_far verdict next whole e v h =
      rw (e, v, lesser_assoc so_far (each part)) (ap (λ xs. lesser so_far (least (map each xs))) (sym ahead) ∙ h)

  -- a running greatest goes on by one part
  pub greatest_goes_on : (so_far verdict next whole : Verdict) → next ≡ greater so_far verdict → verdict ≡ each part → greater so_far (greatest (map each (drop i items))) ≡ whole → greater next (greatest (map each (drop (i + 1) items))) ≡ whole
  greatest_goes_on so_far verdict next whole e v h =
      rw (e, v, greater_assoc so_far (each part)) (ap (λ xs. greater so_far (greatest (map each xs))) (sym ahead) ∙ h)

-- each part of a sound proposition is sound
module _ (deed : Deed) where
  sound-all : (ps : List Prop) → is_sound_prop deed (Props.All ps) ≡ list_all (λ b. b) (map (is_sound_prop deed) ps)
  sound-all ps = ap (is_sound_prop deed) (sym (rolls-All ps)) ∙ fold-roll-Prop Bool (is_sound_step deed) (P.All ps)

  sound-any : (ps : List Prop) → is_sound_prop deed (Props.Any ps) ≡ list_all (λ b. b) (map (is_sound_prop deed) ps)
  sound-any ps = ap (is_sound_prop deed) (sym (rolls-Any ps)) ∙ fold-roll-Prop Bool (is_sound_step deed) (P.Any ps)

  pub sound_part_of_all : (p : Prop) (ps items : List Prop) (i : ℕ) (part : Prop) → is_sound_prop deed p ≡ true → p ≡ Props.All ps → items ≡ ps → i < length items → part ≡ get_or items i part → is_sound_prop deed part ≡ true
  sound_part_of_all p ps items i part h e is lt at =
      passes_at (is_sound_prop deed) items i part (ap (list_all (is_sound_prop deed)) is ∙ (sym (ap (is_sound_prop deed) e ∙ (sound-all ps ∙ list_all-map (λ b. b) (is_sound_prop deed) ps)) ∙ h)) lt at

  pub sound_part_of_any : (p : Prop) (ps items : List Prop) (i : ℕ) (part : Prop) → is_sound_prop deed p ≡ true → p ≡ Props.Any ps → items ≡ ps → i < length items → part ≡ get_or items i part → is_sound_prop deed part ≡ true
  sound_part_of_any p ps items i part h e is lt at =
      passes_at (is_sound_prop deed) items i part (ap (list_all (is_sound_prop deed)) is ∙ (sym (ap (is_sound_prop deed) e ∙ (sound-any ps ∙ list_all-map (λ b. b) (is_sound_prop deed) ps)) ∙ h)) lt at

  -- both dates of a sound proposition with two dates are sound
  within_is : (e : Ev) (from to : DateTerm) → is_sound_prop deed (Props.Within e from to) ≡ ((is_sound_event deed e && is_sound_date deed from) && is_sound_date deed to)
  within_is e from to = ap (is_sound_prop deed) (sym (rolls-Within e from to)) ∙ fold-roll-Prop Bool (is_sound_step deed) (P.Within e from to)

  pub sound_start_of_within : (e : Ev) (from to : DateTerm) → is_sound_prop deed (Props.Within e from to) ≡ true → is_sound_date deed from ≡ true
  sound_start_of_within e from to h =
      second (is_sound_event deed e) (is_sound_date deed from)
      (first (is_sound_event deed e && is_sound_date deed from) (is_sound_date deed to) (sym (within_is e from to) ∙ h))

  pub sound_end_of_within : (e : Ev) (from to : DateTerm) → is_sound_prop deed (Props.Within e from to) ≡ true → is_sound_date deed to ≡ true
  sound_end_of_within e from to h =
      second (is_sound_event deed e && is_sound_date deed from) (is_sound_date deed to) (sym (within_is e from to) ∙ h)

  occurs_is : (s : Situation) (from to : DateTerm) → is_sound_prop deed (Props.Occurs s from to) ≡ ((is_sound_situation deed s && is_sound_date deed from) && is_sound_date deed to)
  occurs_is s from to = ap (is_sound_prop deed) (sym (rolls-Occurs s from to)) ∙ fold-roll-Prop Bool (is_sound_step deed) (P.Occurs s from to)

  pub sound_start_of_occurs : (s : Situation) (from to : DateTerm) → is_sound_prop deed (Props.Occurs s from to) ≡ true → is_sound_date deed from ≡ true
  sound_start_of_occurs s from to h =
      second (is_sound_situation deed s) (is_sound_date deed from)
      (first (is_sound_situation deed s && is_sound_date deed from) (is_sound_date deed to) (sym (occurs_is s from to) ∙ h))

  pub sound_end_of_occurs : (s : Situation) (from to : DateTerm) → is_sound_prop deed (Props.Occurs s from to) ≡ true → is_sound_date deed to ≡ true
  sound_end_of_occurs s from to h =
      second (is_sound_situation deed s && is_sound_date deed from) (is_sound_date deed to) (sym (occurs_is s from to) ∙ h)
