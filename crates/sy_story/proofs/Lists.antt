-- Lists of happenings by their points: what a point has, and what putting one in does.
use Rattle.std.proofs.Common.{◌≡◌, ℤ, Bool, true, false, cond, List, [], ◌∷◌, ◌++◌, Some, None, int_eq, refl, sym, ap, subst, ◌∙◌, true≢false, append-nil}
use Rattle.std.specs.List.{AllByRecursion}
use Rattle.std.specs.Map.{lookup, keys_of}
use Rattle.std.specs.BTreeMap.{is_at}
use Rattle.std.specs.Ordering.{int_cmp, is_eq}
use Rattle.std.specs.List.Sorted.{IsStrictlySortedBy}
use Rattle.std.proofs.lemmas.Cmp.{int_cmp_total, tied_itself}
use Rattle.std.specs.declared.cmp.Ordering.{Ordering}
use Rattle.std.specs.declared.cmp.Ordering.TheVariants.{Less, Equal, Greater}
use Rattle.std.proofs.lemmas.Map.Keys.{sorted_head, sorted_tail}
use Rattle.std.proofs.lemmas.Map.Lookups.{exact_signed}
use Rattle.std.proofs.lemmas.List.Elements.{filter-append}
use Rattle.std.proofs.lemmas.Bool.Decides.{Decides-int_eq}
use Rattle.sy_core.specs.declared.happening.Happening.{Happening}
use Rattle.sy_story.specs.Narratives.{happenings_at}
use Rattle.sy_story.specs.Machine.ByPoint.{IsByPoint, listed}

abbrev pub Dated : ℤ → List Happening → Type 0
Dated point list = AllByRecursion (λ h. h.point ≡ point) list

abbrev pub AllDated : List (ℤ × List Happening) → Type 0
AllDated lists = AllByRecursion (λ e. AllByRecursion (λ h. h.point ≡ e.0) e.1) lists

int_eq-self : (a b : ℤ) → a ≡ b → int_eq a b ≡ true
int_eq-self a b e = (Decides-int_eq a b).1 e

int_eq-apart : (a b : ℤ) → (a ≡ b → ⊥) → int_eq a b ≡ false
int_eq-apart a b n = not_true (int_eq a b) refl
  where
    not_true : (t : Bool) → int_eq a b ≡ t → int_eq a b ≡ false
    not_true true e = absurd (n ((Decides-int_eq a b).0 e))
    not_true false e = e

-- all of a point
own : (point : ℤ) (list : List Happening) → Dated point list → happenings_at point list ≡ list
own point [] d = refl
own point (h ∷ hs) d =
    ap (λ t. cond t (h ∷ happenings_at point hs) (happenings_at point hs)) (int_eq-self h.point point d.0)
    ∙ ap (λ (rest : List Happening). h ∷ rest) (own point hs d.1)

-- none of another point
others : (point other : ℤ) (list : List Happening) → Dated other list → (other ≡ point → ⊥) → happenings_at point list ≡ []
others point other [] d n = refl
others point other (h ∷ hs) d n =
    ap (λ t. cond t (h ∷ happenings_at point hs) (happenings_at point hs)) (int_eq-apart h.point point (λ e. n (sym d.0 ∙ e)))
    ∙ others point other hs d.1 n

-- a point isn't one that stands behind it
apart : (a b : ℤ) → int_cmp a b ≡ Less → a ≡ b → ⊥
apart a b less same =
    let tied : int_cmp a a ≡ Equal = tied_itself int_cmp_total a in
    let level : int_cmp a a ≡ Less = subst (λ (k : ℤ). int_cmp a k ≡ Less) (sym same) less in
    cc

-- none behind its place
later : (point : ℤ) (lists : List (ℤ × List Happening)) → AllByRecursion (λ k. int_cmp point k ≡ Less) (keys_of lists) → AllDated lists
    → happenings_at point (listed lists) ≡ []
later point [] above d = refl
later point (e ∷ es) above d =
    filter-append (λ h. int_eq h.point point) e.1 (listed es)
    ∙ ap (λ (front : List Happening). front ++ happenings_at point (listed es)) (others point e.0 e.1 d.0 (λ same. apart point e.0 above.0 (sym same)))
    ∙ later point es above.1 d.1

-- the list of a point has all that it has
found_in : (point : ℤ) (lists : List (ℤ × List Happening)) (list : List Happening) → IsStrictlySortedBy int_cmp (keys_of lists) → AllDated lists
    → lookup (is_at (int_cmp point)) lists ≡ Some list → happenings_at point (listed lists) ≡ list
found_in point [] list sorted d found = absurd cc
found_in point (e ∷ es) list sorted d found =
    filter-append (λ h. int_eq h.point point) e.1 (listed es)
    ∙ by (int_cmp point e.0) refl (found_in point es list (sorted_tail int_cmp e.0 (keys_of es) sorted) d.1) found
  where
    by : (o : Ordering) → int_cmp point e.0 ≡ o
        → (lookup (is_at (int_cmp point)) es ≡ Some list → happenings_at point (listed es) ≡ list)
        → cond (is_eq o) (Some e.1) (lookup (is_at (int_cmp point)) es) ≡ Some list
        → happenings_at point e.1 ++ happenings_at point (listed es) ≡ list
    by Equal level more is =
        let same : point ≡ e.0 = exact_signed point e.0 level in
        let dated : Dated point e.1 = subst (λ (k : ℤ). Dated k e.1) (sym same) d.0 in
        let above : AllByRecursion (λ k. int_cmp point k ≡ Less) (keys_of es) =
        subst (λ (k : ℤ). AllByRecursion (λ q. int_cmp k q ≡ Less) (keys_of es)) (sym same) (sorted_head int_cmp e.0 (keys_of es) sorted) in
        let its : e.1 ≡ list = cc in
        ap (λ (rest : List Happening). happenings_at point e.1 ++ rest) (later point es above d.1) ∙ append-nil (happenings_at point e.1)
        ∙ own point e.1 dated ∙ its
    by Less level more is =
        ap (λ (front : List Happening). front ++ happenings_at point (listed es)) (others point e.0 e.1 d.0 (λ same. apart point e.0 level (sym same)))
        ∙ more is
    by Greater level more is =
        ap (λ (front : List Happening). front ++ happenings_at point (listed es)) (others point e.0 e.1 d.0 (λ same. unequal level (sym same)))
        ∙ more is
      where
        unequal : int_cmp point e.0 ≡ Greater → point ≡ e.0 → ⊥
        unequal greater same =
            let tied : int_cmp point point ≡ Equal = tied_itself int_cmp_total point in
            let level : int_cmp point point ≡ Greater = subst (λ (k : ℤ). int_cmp point k ≡ Greater) (sym same) greater in
            cc

pub found_at : (point : ℤ) (lists : List (ℤ × List Happening)) (list : List Happening) → IsByPoint lists
    → lookup (is_at (int_cmp point)) lists ≡ Some list → happenings_at point (listed lists) ≡ list
found_at point lists list by found = found_in point lists list by.ordered by.dated found

-- a point without a list has none
none_in : (point : ℤ) (lists : List (ℤ × List Happening)) → AllDated lists
    → lookup (is_at (int_cmp point)) lists ≡ None → happenings_at point (listed lists) ≡ []
none_in point [] d found = refl
none_in point (e ∷ es) d found =
    filter-append (λ h. int_eq h.point point) e.1 (listed es)
    ∙ by (int_cmp point e.0) refl (none_in point es d.1) found
  where
    differ : (o : Ordering) → int_cmp point e.0 ≡ o → is_eq o ≡ false → e.0 ≡ point → ⊥
    differ o level other same =
        let tied : int_cmp point point ≡ Equal = tied_itself int_cmp_total point in
        let there : int_cmp point point ≡ o = subst (λ (k : ℤ). int_cmp point k ≡ o) same level in
        let equal : o ≡ Equal = sym there ∙ tied in
        let equals : is_eq o ≡ true = ap is_eq equal in
        true≢false (sym equals ∙ other)

    by : (o : Ordering) → int_cmp point e.0 ≡ o
        → (lookup (is_at (int_cmp point)) es ≡ None → happenings_at point (listed es) ≡ [])
        → cond (is_eq o) (Some e.1) (lookup (is_at (int_cmp point)) es) ≡ None
        → happenings_at point e.1 ++ happenings_at point (listed es) ≡ []
    by Equal level more is = absurd cc
    by Less level more is =
        ap (λ (front : List Happening). front ++ happenings_at point (listed es)) (others point e.0 e.1 d.0 (differ Less level refl))
        ∙ more is
    by Greater level more is =
        ap (λ (front : List Happening). front ++ happenings_at point (listed es)) (others point e.0 e.1 d.0 (differ Greater level refl))
        ∙ more is

pub none_at : (point : ℤ) (lists : List (ℤ × List Happening)) → IsByPoint lists
    → lookup (is_at (int_cmp point)) lists ≡ None → happenings_at point (listed lists) ≡ []
none_at point lists by found = none_in point lists by.dated found
