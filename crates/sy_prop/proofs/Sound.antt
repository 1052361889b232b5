-- The parts and the dates of a sound proposition are sound.
use Rattle.std.proofs.Common.{◌≡◌, ℕ, ◌<◌, Bool, true, ◌&&◌, List, length, map, get_or, sym, ◌∙◌, ap}
use Rattle.std.specs.List.{list_all}
use Rattle.std.proofs.lemmas.List.Folds.{list_all-map}
use Rattle.sy_core.specs.declared.proposition.Prop.{Prop}
use Rattle.sy_core.specs.declared.proposition.Prop.TheVariants as Props
use Rattle.sy_core.specs.declared.proposition.Prop.TheVariants.{rolls-All, rolls-Any, rolls-Within, rolls-Occurs}
use Rattle.sy_core.specs.declared.proposition.Prop.TheOpen as P
use Rattle.sy_core.specs.declared.proposition.Prop.TheFolds.{fold-roll-Prop}
use Rattle.sy_core.specs.declared.event.Ev.{Ev}
use Rattle.sy_core.specs.declared.date_term.DateTerm.{DateTerm}
use Rattle.sy_core.specs.declared.proposition.Situation.{Situation}
use Rattle.sy_core.specs.declared.deed.Deed.{Deed}
use Rattle.sy_core.specs.Soundness.{is_sound_event, is_sound_date, is_sound_situation, is_sound_step, is_sound_prop}
use Rattle.sy_atoms.proofs.Passing.{first, second, passes_at}

-- each part of a sound proposition is sound
module _ (deed : Deed) where
  sound-all : (ps : List Prop) → is_sound_prop deed (Props.All ps) ≡ list_all (λ b. b) (map (is_sound_prop deed) ps)
  sound-all ps = ap (is_sound_prop deed) (sym (rolls-All ps)) ∙ fold-roll-Prop Bool (is_sound_step deed) (P.All ps)

  sound-any : (ps : List Prop) → is_sound_prop deed (Props.Any ps) ≡ list_all (λ b. b) (map (is_sound_prop deed) ps)
  sound-any ps = ap (is_sound_prop deed) (sym (rolls-Any ps)) ∙ fold-roll-Prop Bool (is_sound_step deed) (P.Any ps)

  pub sound_part_of_all : (p : Prop) (ps items : List Prop) (i : ℕ) (part : Prop) → is_sound_prop deed p ≡ true → p ≡ Props.All ps → items ≡ ps → i < length items → part ≡ get_or items i part → is_sound_prop deed part ≡ true
  sound_part_of_all p ps items i part h e is lt at =
      passes_at (is_sound_prop deed) items i part (ap (list_all (is_sound_prop deed)) is ∙ (sym (ap (is_sound_prop deed) e ∙ (sound-all ps ∙ list_all-map (λ b. b) (is_sound_prop deed) ps)) ∙ h)) lt at

  pub sound_part_of_any : (p : Prop) (ps items : List Prop) (i : ℕ) (part : Prop) → is_sound_prop deed p ≡ true → p ≡ Props.Any ps → items ≡ ps → i < length items → part ≡ get_or items i part → is_sound_prop deed part ≡ true
  sound_part_of_any p ps items i part h e is lt at =
      passes_at (is_sound_prop deed) items i part (ap (list_all (is_sound_prop deed)) is ∙ (sym (ap (is_sound_prop deed) e ∙ (sound-any ps ∙ list_all-map (λ b. b) (is_sound_prop deed) ps)) ∙ h)) lt at

  -- both dates of a sound proposition with two dates are sound
  within_is : (e : Ev) (from to : DateTerm) → is_sound_prop deed (Props.Within e from to) ≡ ((is_sound_event deed e && is_sound_date deed from) && is_sound_date deed to)
  within_is e from to = ap (is_sound_prop deed) (sym (rolls-Within e from to)) ∙ fold-roll-Prop Bool (is_sound_step deed) (P.Within e from to)

  pub sound_start_of_within : (e : Ev) (from to : DateTerm) → is_sound_prop deed (Props.Within e from to) ≡ true → is_sound_date deed from ≡ true
  sound_start_of_within e from to h =
      second (is_sound_event deed e) (is_sound_date deed from)
      (first (is_sound_event deed e && is_sound_date deed from) (is_sound_date deed to) (sym (within_is e from to) ∙ h))

  pub sound_end_of_within : (e : Ev) (from to : DateTerm) → is_sound_prop deed (Props.Within e from to) ≡ true → is_sound_date deed to ≡ true
  sound_end_of_within e from to h =
      second (is_sound_event deed e && is_sound_date deed from) (is_sound_date deed to) (sym (within_is e from to) ∙ h)

  occurs_is : (s : Situation) (from to : DateTerm) → is_sound_prop deed (Props.Occurs s from to) ≡ ((is_sound_situation deed s && is_sound_date deed from) && is_sound_date deed to)
  occurs_is s from to = ap (is_sound_prop deed) (sym (rolls-Occurs s from to)) ∙ fold-roll-Prop Bool (is_sound_step deed) (P.Occurs s from to)

  pub sound_start_of_occurs : (s : Situation) (from to : DateTerm) → is_sound_prop deed (Props.Occurs s from to) ≡ true → is_sound_date deed from ≡ true
  sound_start_of_occurs s from to h =
      second (is_sound_situation deed s) (is_sound_date deed from)
      (first (is_sound_situation deed s && is_sound_date deed from) (is_sound_date deed to) (sym (occurs_is s from to) ∙ h))

  pub sound_end_of_occurs : (s : Situation) (from to : DateTerm) → is_sound_prop deed (Props.Occurs s from to) ≡ true → is_sound_date deed to ≡ true
  sound_end_of_occurs s from to h =
      second (is_sound_situation deed s && is_sound_date deed from) (is_sound_date deed to) (sym (occurs_is s from to) ∙ h)
