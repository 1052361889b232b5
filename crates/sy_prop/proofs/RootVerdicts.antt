-- The value at a proposition's root is its verdict.
use Rattle.std.proofs.Common.{◌≡◌, ℕ, zero, suc, ◌+◌, ◌-◌, List, [], ◌∷◌, ◌++◌, length, get_or, Some, slice_get, refl, ◌∙◌, ap, subst, arith, append_assoc, length-append}
use Rattle.std.proofs.Math.Seq.{get_or-append_seam}
use Rattle.sy_base.specs.declared.time.TimeUnit.{TimeUnit}
use Rattle.sy_core.specs.declared.proposition.Prop.{Prop}
use Rattle.sy_core.specs.declared.table.Verdict.{Verdict}
use Rattle.sy_core.specs.declared.table.Verdict.TheVariants as V
use Rattle.sy_core.specs.Propositions.{verdict_at}
use Rattle.sy_quiet.specs.Histories.{History}
use Rattle.sy_atoms.specs.Machine.Steps.{same_step}
use Rattle.sy_prop.specs.Machine.Tables.{nodes_of_prop, nodes_of_props, values_from}
use Rattle.sy_prop.proofs.Values.{ToldBy, prop_told, values_append}
use Rattle.sy_prop.proofs.Walking.{more_values}
use Rattle.sy_prop.specs.Machine.Changes.{stay, table_size}
use Rattle.sy_prop.specs.Machine.Roots.{root_from}
use Rattle.sy_prop.proofs.Sizes.{prop_sized}

module _ (unit : TimeUnit) (h : History) where
  root_in : (acc : List Verdict) (ps : List Prop) (k : ℕ) (p : Prop) → slice_get ps k ≡ Some p → get_or (values_from h.now.point acc (nodes_of_props unit h ps (length acc))) (root_from ps (length acc) k) V.Open ≡ verdict_at unit h.now h.before p
  unfolding ToldBy
  root_in acc [] k p is = cc
  root_in acc (q ∷ ps) zero p is =
      let n = length acc in
      let part = nodes_of_prop unit h q n in
      let t = prop_told h.now.point unit h refl q acc in
      let v = verdict_at unit h.now h.before q in
      let some = acc ++ t.0 ++ v ∷ [] in
      let m = more_values h.now.point some (nodes_of_props unit h ps (n + length part)) in
      let whole = values_append h.now.point acc part (nodes_of_props unit h ps (n + length part)) ∙ (ap (λ a. values_from h.now.point a (nodes_of_props unit h ps (n + length part))) t.1 ∙ (m.1 ∙ append_assoc (acc ++ t.0) (v ∷ []) m.0)) in
      let wide = (prop_sized (same_step stay) unit h q).0 n in
      let place : n + table_size q - 1 ≡ length (acc ++ t.0) = omega (arith, t.2, wide, length-append acc t.0) in
      let same : q ≡ p = cc in
      (λ j. get_or (whole j) (place j) V.Open) ∙ (get_or-append_seam (acc ++ t.0) v m.0 V.Open ∙ ap (verdict_at unit h.now h.before) same)
  root_in acc (q ∷ ps) (suc k) p is =
      let n = length acc in
      let part = nodes_of_prop unit h q n in
      let t = prop_told h.now.point unit h refl q acc in
      let v = verdict_at unit h.now h.before q in
      let some = acc ++ t.0 ++ v ∷ [] in
      let size : length some ≡ n + length part = omega (arith, t.2, length-append acc t.0, length-append (acc ++ t.0) (v ∷ [])) in
      let whole = values_append h.now.point acc part (nodes_of_props unit h ps (n + length part)) ∙ ap (λ a. values_from h.now.point a (nodes_of_props unit h ps (n + length part))) t.1 in
      let wide : n + table_size q ≡ n + length part = omega (arith, (prop_sized (same_step stay) unit h q).0 n) in
      ap (λ l. get_or l (root_from ps (n + table_size q) k) V.Open) whole
      ∙ (ap (λ s. get_or (values_from h.now.point some (nodes_of_props unit h ps (n + length part))) (root_from ps s k) V.Open) wide
      ∙ subst (λ s. get_or (values_from h.now.point some (nodes_of_props unit h ps s)) (root_from ps s k) V.Open ≡ verdict_at unit h.now h.before p) size (root_in some ps k p is))

  pub root_tells : (ps : List Prop) (k : ℕ) (p : Prop) → slice_get ps k ≡ Some p → get_or (values_from h.now.point [] (nodes_of_props unit h ps 0)) (root_from ps 0 k) V.Open ≡ verdict_at unit h.now h.before p
  root_tells ps k p is = root_in [] ps k p is
