-- The derived comparison of values and happenings is equality, and only equal happenings stand level in their order.
use Rattle.std.proofs.Common.{◌≡◌, Bool, true, false, refl, sym, ◌∙◌, ap, int_eq, ◌↔◌}
use Rattle.std.specs.Bool.{Decides}
use Rattle.std.specs.Cmp.{Equal-is}
use Rattle.std.specs.declared.cmp.Ordering.{Ordering}
use Rattle.std.specs.declared.cmp.Ordering.TheVariants.{Equal}
use Rattle.std.proofs.lemmas.Bool.Decides.{Decides-int_eq, Decides-eqb, Decides-like, Decides-and}
use Rattle.std.proofs.lemmas.Slice.Eq.{bytes_eq-Decides, slice_eq-Decides}
use Rattle.sy_core.specs.declared.value.Value.{Value}
use Rattle.sy_core.specs.declared.value.Value.TheVariants as V
use Rattle.sy_core.specs.declared.happening.What.{What}
use Rattle.sy_core.specs.declared.happening.What.TheVariants.{Event, Exert}
use Rattle.sy_core.specs.declared.happening.Happening.{Happening}
use Rattle.sy_core.specs.contracts.value.ValuePartialEq.TheImpl as value
use Rattle.sy_core.specs.contracts.happening.WhatPartialEq.TheImpl as what
use Rattle.sy_core.specs.contracts.happening.HappeningPartialEq.TheImpl as happening
use Rattle.sy_core.specs.contracts.happening.HappeningOrd.TheImpl as ordered
use Rattle.sy_core.specs.contracts.happening.HappeningOrd.TheImpl.Laws.{matches_eq-law}

abbrev value_eq : Value → Value → Bool
value_eq = value.eq-value.it

abbrev what_eq : What → What → Bool
what_eq = what.eq-value.it

abbrev happening_eq : Happening → Happening → Bool
happening_eq = happening.eq-value.it

bool_Decides : (a b : Bool) → Decides (value_eq (V.Boolean a) (V.Boolean b)) (V.Boolean a ≡ V.Boolean b)
bool_Decides true true = (λ h. refl, λ h. refl)
bool_Decides false false = (λ h. refl, λ h. refl)
bool_Decides true false = (λ h. cc, λ h. cc)
bool_Decides false true = (λ h. cc, λ h. cc)

pub value_Decides : (a b : Value) → Decides (value_eq a b) (a ≡ b)
value_Decides (V.Number x) (V.Number y) = Decides-like (int_eq x y) (ap V.Number) (λ h. cc) (Decides-int_eq x y)
value_Decides (V.Date x) (V.Date y) = Decides-like (int_eq x y) (ap V.Date) (λ h. cc) (Decides-int_eq x y)
value_Decides (V.Text x) (V.Text y) = let d = bytes_eq-Decides x y in (λ h. ap V.Text (d.0 h), λ h. d.1 (cc))
value_Decides (V.Boolean x) (V.Boolean y) = bool_Decides x y
value_Decides (V.Choice e x) (V.Choice f y) =
    let d = Decides-and _ _ (Decides-eqb e f) (Decides-eqb x y) in
    (λ h. let p = d.0 h in cc, λ h. d.1 (cc, cc))
value_Decides _ _ = (λ h. cc, λ h. cc)

pub what_Decides : (a b : What) → Decides (what_eq a b) (a ≡ b)
what_Decides (Event e xs) (Event f ys) =
    let d = Decides-and _ _ (Decides-eqb e f) (slice_eq-Decides value_Decides xs ys _ refl) in
    (λ h. let p = d.0 h in cc, λ h. d.1 (cc, cc))
what_Decides (Exert i) (Exert j) = let d = Decides-eqb i j in (λ h. ap Exert (d.0 h), λ h. d.1 (cc))
what_Decides _ _ = (λ h. cc, λ h. cc)

pub happening_Decides : (a b : Happening) → Decides (happening_eq a b) (a ≡ b)
happening_Decides a b =
    let d = Decides-and _ _ (Decides-int_eq a.point b.point) (what_Decides a.what b.what) in
    (λ h. let p = d.0 h in λ i. record { point = p.0 i; what = p.1 i }, λ h. d.1 (ap (λ x. x.point) h, ap (λ x. x.what) h))

abbrev happening_cmp : Happening → Happening → Ordering
happening_cmp = ordered.cmp-value.it

pub happening_ties : (a b : Happening) → (happening_cmp a b ≡ Equal) ↔ (a ≡ b)
happening_ties a b =
    let d = happening_Decides a b in
    let e = Equal-is (happening_cmp a b) in
    let t = matches_eq-law a b in
    (λ h. d.0 (t ∙ e.1 h), λ h. e.0 (sym t ∙ d.1 h))
