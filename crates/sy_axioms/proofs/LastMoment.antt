-- The last of the moments that stand for a chronicle is its last moment.
use Rattle.std.proofs.Common.{◌≡◌, ℕ, suc, List, [], ◌∷◌, ◌++◌, length, map, refl, sym, ◌∙◌, ap, arith, length-append}
use Rattle.std.proofs.lemmas.List.{map-append}
use Rattle.sy_core.specs.declared.deed.Deed.{Deed}
use Rattle.sy_core.specs.declared.happening.Happening.{Happening}
use Rattle.sy_core.specs.Chronicle.{chronicle, moment_at}
use Rattle.sy_axioms.specs.declared.moment.Moment.{Moment as KeptMoment}
use Rattle.sy_axioms.specs.Machine.KeptMoments.{moment_of}

-- two lists that are the same have the same last item, and the same items before it
same_last : {X : Type 0} (xs ys : List X) (x y : X) → xs ++ x ∷ [] ≡ ys ++ y ∷ [] → (xs ≡ ys) × (x ≡ y)
same_last [] [] x y h = (refl, cc)
same_last {X = X} [] (z ∷ zs) x y h = let l = ap length h in let e = length-append zs (y ∷ []) in absurd (omega arith)
same_last {X = X} (w ∷ ws) [] x y h = let l = ap length h in let e = length-append ws (x ∷ []) in absurd (omega arith)
same_last (w ∷ ws) (z ∷ zs) x y h =
    let r = same_last ws zs x y (cc) in
    let e : w ≡ z = cc in
    ((λ j. e j ∷ r.0 j), r.1)

module _ (deed : Deed) (narrative : List Happening) (n : ℕ) (moments before : List KeptMoment) (now : KeptMoment) (is : moments ≡ before ++ now ∷ []) where
  split : map moment_of before ++ moment_of now ∷ [] ≡ map moment_of moments
  split = sym (ap (map moment_of) is ∙ map-append moment_of before (now ∷ []))

  pub last_is : map moment_of moments ≡ chronicle deed narrative (suc n) → (map moment_of before ≡ chronicle deed narrative n) × (moment_of now ≡ moment_at deed narrative n)
  last_is kept = same_last (map moment_of before) (chronicle deed narrative n) (moment_of now) (moment_at deed narrative n) (split ∙ kept)
