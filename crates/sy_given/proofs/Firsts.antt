-- The first failure of a list whose failures stand at no place: the one in front.
use Rattle.std.proofs.Common.{◌≡◌, ℕ, ◌+◌, ◌<◌, Bool, false, List, [], ◌∷◌, ◌++◌, length, take, drop, get_or, flat_map, fold, Option, Some, None, if◌then◌else◌, refl, sym, ap, ◌∙◌}
use Rattle.std.proofs.lemmas.List.{take_more, drop_more, take-append-drop, append-nil}
use Rattle.std.proofs.lemmas.Grind.{fold-append, flat_map-append}
use Rattle.sy_base.specs.declared.refusal.Place.{Place}
use Rattle.sy_domain.specs.declared.failure.Failure.{Failure}
use Rattle.sy_domain.specs.Failures.{first, sooner, stands_before}

-- no place stands before none
before_none : (p : Option Place) → stands_before p None ≡ false
before_none None = refl
before_none (Some a) = refl

stays_one : (f g : Failure) → f.place ≡ None → sooner (Some f) g ≡ Some f
stays_one f g nowhere =
    ap (λ b. if b then Some g else Some f) (ap (stands_before g.place) nowhere ∙ before_none g.place)

-- a failure at no place stays the first, whatever stands behind it
stays : (f : Failure) (fs : List Failure) → f.place ≡ None → fold sooner (Some f) fs ≡ Some f
stays f [] nowhere = refl
stays f (g ∷ gs) nowhere = ap (λ o. fold sooner o gs) (stays_one f g nowhere) ∙ stays f gs nowhere

-- the first of what stands behind no failures
behind_none : (before fs : List Failure) → first before ≡ None → first (before ++ fs) ≡ first fs
behind_none before fs none = fold-append sooner None before fs ∙ ap (λ o. fold sooner o fs) none

-- the first of failures at no place is that of all, whatever stands behind
first_stays : (fs behind : List Failure) (f : Failure) → first fs ≡ Some f → f.place ≡ None
    → first (fs ++ behind) ≡ Some f
first_stays fs behind f found nowhere =
    fold-append sooner None fs behind ∙ ap (λ o. fold sooner o behind) found ∙ stays f behind nowhere

-- none of the items so far has failed, nor has this one
pub none_turn : {A : Type 0} (g : A → List Failure) (xs : List A) (i : ℕ) (x : A)
    → i < length xs → x ≡ get_or xs i x → first (flat_map g (take i xs)) ≡ None → first (g x) ≡ None
    → first (flat_map g (take (i + 1) xs)) ≡ None
none_turn g xs i x within is none here =
    ap (λ l. first (flat_map g l)) (take_more xs i x within)
    ∙ ap first (flat_map-append g (take i xs) (get_or xs i x ∷ []))
    ∙ behind_none (flat_map g (take i xs)) (g (get_or xs i x) ++ []) none
    ∙ ap first (append-nil (g (get_or xs i x)))
    ∙ ap (λ a. first (g a)) (sym is)
    ∙ here

-- none of the items before this one has failed, and this one has, at no place
pub found_turn : {A : Type 0} (g : A → List Failure) (xs : List A) (i : ℕ) (x : A) (f : Failure)
    → i < length xs → x ≡ get_or xs i x → first (flat_map g (take i xs)) ≡ None → first (g x) ≡ Some f → f.place ≡ None
    → Some f ≡ first (flat_map g xs)
found_turn g xs i x f within is none here nowhere =
    let left = flat_map g (drop (i + 1) xs) in
    sym
    (ap (λ l. first (flat_map g l)) (sym (take-append-drop i xs))
    ∙ ap first (flat_map-append g (take i xs) (drop i xs))
    ∙ behind_none (flat_map g (take i xs)) (flat_map g (drop i xs)) none
    ∙ ap (λ l. first (flat_map g l)) (drop_more xs i x within)
    ∙ ap (λ a. first (g a ++ left)) (sym is)
    ∙ first_stays (g x) left f here nowhere)
