-- The next point that has a happening.
use Rattle.std.proofs.Common.{◌≡◌, ◌⊎◌, inl, inr, ◌<◌, ℤ, ◌<ℤ◌, ◌≤ℤ◌, Bool, true, false, cond, ◌&&◌, List, [], ◌∷◌, ◌++◌, length, filter, Some, None, refl, sym, ap, subst, ◌∙◌, true≢false, arith}
use Rattle.std.specs.List.{AllByRecursion}
use Rattle.std.specs.Map.{keys_of}
use Rattle.std.specs.BTreeMap.Range.{entries_between, range_contains}
use Rattle.std.specs.declared.ops.Bound.TheVariants.{Excluded, Unbounded}
use Rattle.std.specs.Ordering.{int_cmp, is_lt}
use Rattle.std.specs.List.Sorted.{IsStrictlySortedBy}
use Rattle.std.specs.Cmp.{int_ranks}
use Rattle.std.specs.Int.Signed.{≤ℤ_refl}
use Rattle.std.specs.declared.cmp.Ordering.{Ordering}
use Rattle.std.specs.declared.cmp.Ordering.TheVariants.{Less, Equal, Greater}
use Rattle.std.proofs.lemmas.Int.{ints}
use Rattle.std.proofs.lemmas.Map.Keys.{sorted_head, sorted_tail}
use Rattle.sy_core.specs.declared.happening.Happening.{Happening}
use Rattle.sy_core.proofs.Members.{Among, among, contained}
use Rattle.sy_story.specs.Narratives.{IsNextAfter}
use Rattle.sy_story.specs.Machine.ByPoint.{IsByPoint, listed}
use Rattle.sy_story.proofs.Lists.{Dated, AllDated}
use Rattle.sy_story.proofs.Placing.{among_front, among_back, among_parts}
use Rattle.sy_story.proofs.Putting.{Some_of}

-- what is in a list of a point is at it
dated : (point : ℤ) (list : List Happening) → Dated point list → (h : Happening) → Among list h → h.point ≡ point
dated point [] d h a = absurd a
dated point (k ∷ ks) d h (inl e) = ap (λ (x : Happening). x.point) (sym e) ∙ d.0
dated point (k ∷ ks) d h (inr a) = dated point ks d.1 h a

-- the entries behind a point
abbrev pub behind : ℤ → List (ℤ × List Happening) → List (ℤ × List Happening)
behind point lists = entries_between int_cmp (Excluded point) Unbounded lists

-- each happening stands in the list of its point
entry_of : (lists : List (ℤ × List Happening)) → AllDated lists → (h : Happening) → Among (listed lists) h → (e : ℤ × List Happening) × Among lists e × (h.point ≡ e.0)
entry_of [] d h a = absurd a
entry_of (e ∷ es) d h a =
    elim (among_parts e.1 (listed es) h a) [
      | inl b ↦ (e, inl refl, dated e.0 e.1 d.0 h b)
      | inr b ↦ let found = entry_of es d.1 h b in (found.0, inr found.1, found.2)
    ]

first_of_list : (point : ℤ) (list : List Happening) → 0 < length list → Dated point list → (h : Happening) × Among list h × (h.point ≡ point)
first_of_list point [] some d = absurd (omega arith)
first_of_list point (h ∷ hs) some d = (h, inl refl, d.0)

among_passing : (test : (ℤ × List Happening) → Bool) (lists : List (ℤ × List Happening)) (e : ℤ × List Happening) → Among lists e → test e ≡ true
    → Among (filter test lists) e
among_passing test [] e a t = absurd a
among_passing test (f ∷ fs) e a t = by (test f) refl a (λ b. among_passing test fs e b t)
  where
    by : (s : Bool) → test f ≡ s → Among (f ∷ fs) e → (Among fs e → Among (filter test fs) e) → Among (cond s (f ∷ filter test fs) (filter test fs)) e
    by true is (inl same) more = inl same
    by true is (inr b) more = inr (more b)
    by false is (inl same) more = absurd (true≢false (sym t ∙ ap test (sym same) ∙ is))
    by false is (inr b) more = more b

ranked_less : (a b : ℤ) → int_cmp a b ≡ Less → a <ℤ b
ranked_less a b less = let ranks = int_ranks a b in rw less at ranks

le_of_less : (a b : ℤ) → a <ℤ b → a ≤ℤ b
le_of_less a b less = omega (arith, ints)

le_of_same : (a b : ℤ) → a ≡ b → b ≤ℤ a
le_of_same a b same = subst (λ (k : ℤ). k ≤ℤ a) same (≤ℤ_refl a)

not_behind : (a b : ℤ) (o : Ordering) → int_cmp a b ≡ o → is_lt o ≡ false → b ≤ℤ a
not_behind a b Less is other = absurd (true≢false other)
not_behind a b Equal is other = let ranks = int_ranks a b in le_of_same a b (rw is at ranks)
not_behind a b Greater is other = let ranks = int_ranks a b in le_of_less b a (rw is at ranks)

-- where no point behind this one has a list, no happening is behind it
pub none_later : (point : ℤ) (lists : List (ℤ × List Happening)) → IsByPoint lists → behind point lists ≡ [] → IsNextAfter (listed lists) point None
none_later point lists by none h c =
    let found = entry_of lists by.dated h (among (listed lists) h c) in
    at found.0 found.1 found.2 (int_cmp point found.0.0) refl
  where
    at : (e : ℤ × List Happening) → Among lists e → h.point ≡ e.0 → (o : Ordering) → int_cmp point e.0 ≡ o → h.point ≤ℤ point
    at e a same Less is =
        let test : (is_lt (int_cmp point e.0) && true) ≡ true = ap (λ o. is_lt o && true) is in
        absurd (subst (λ (xs : List (ℤ × List Happening)). Among xs e) none (among_passing (λ f. range_contains int_cmp (Excluded point) Unbounded f.0) lists e a test))
    at e a same Equal is = subst (λ (p : ℤ). p ≤ℤ point) (sym same) (not_behind point e.0 Equal is refl)
    at e a same Greater is = subst (λ (p : ℤ). p ≤ℤ point) (sym same) (not_behind point e.0 Greater is refl)

abbrev IsNext : ℤ → List Happening → ℤ → Type 0
IsNext point happenings next =
    (point <ℤ next) × ((h : Happening) × Among happenings h × (h.point ≡ next))
    × ((h : Happening) → Among happenings h → (h.point ≤ℤ point) ⊎ (next ≤ℤ h.point))

next_in : (point : ℤ) (lists : List (ℤ × List Happening)) → IsStrictlySortedBy int_cmp (keys_of lists) → AllDated lists → Some_of lists
    → (e : ℤ × List Happening) (rest : List (ℤ × List Happening)) → behind point lists ≡ e ∷ rest → IsNext point (listed lists) e.0
next_in point [] sorted d some e rest is = absurd cc
next_in point (f ∷ fs) sorted d some e rest is =
    by (int_cmp point f.0) refl (next_in point fs (sorted_tail int_cmp f.0 (keys_of fs) sorted) d.1 some.1 e rest) is
  where
    above : (lists : List (ℤ × List Happening)) → AllByRecursion (λ k. int_cmp f.0 k ≡ Less) (keys_of lists) → (g : ℤ × List Happening) → Among lists g → f.0 ≤ℤ g.0
    above [] all g a = absurd a
    above (x ∷ xs) all g (inl same) =
        let less : f.0 <ℤ x.0 = ranked_less f.0 x.0 all.0 in
        subst (λ (k : ℤ). f.0 ≤ℤ k) (ap (λ (y : ℤ × List Happening). y.0) same) (le_of_less f.0 x.0 less)
    above (x ∷ xs) all g (inr a) = above xs all.1 g a

    no_less : (o : Ordering) → int_cmp point f.0 ≡ o → is_lt o ≡ false → IsNext point (listed fs) e.0 → IsNext point (f.1 ++ listed fs) e.0
    no_less o level other next = (
      next.0,
      (next.1.0, among_back f.1 (listed fs) next.1.0 next.1.1, next.1.2),
      λ h a. elim (among_parts f.1 (listed fs) h a) [
        | inl b ↦ inl (subst (λ (p : ℤ). p ≤ℤ point) (sym (dated f.0 f.1 d.0 h b)) (not_behind point f.0 o level other))
        | inr b ↦ next.2 h b
      ],
    )

    by : (o : Ordering) → int_cmp point f.0 ≡ o → (behind point fs ≡ e ∷ rest → IsNext point (listed fs) e.0)
        → cond (is_lt o && true) (f ∷ behind point fs) (behind point fs) ≡ e ∷ rest → IsNext point (f.1 ++ listed fs) e.0
    by Less level more is =
        let same : f ≡ e = cc in
        let its = first_of_list f.0 f.1 some.0 d.0 in
        subst (λ (g : ℤ × List Happening). IsNext point (f.1 ++ listed fs) g.0) same (
          ranked_less point f.0 level,
          (its.0, among_front f.1 (listed fs) its.0 its.1, its.2),
          λ h a. elim (among_parts f.1 (listed fs) h a) [
            | inl b ↦ inr (subst (λ (p : ℤ). f.0 ≤ℤ p) (sym (dated f.0 f.1 d.0 h b)) (≤ℤ_refl f.0))
            | inr b ↦ let found = entry_of fs d.1 h b in
                inr (subst (λ (p : ℤ). f.0 ≤ℤ p) (sym found.2) (above fs (sorted_head int_cmp f.0 (keys_of fs) sorted) found.0 found.1))
          ],
        )
    by Equal level more is = no_less Equal level refl (more is)
    by Greater level more is = no_less Greater level refl (more is)

pub some_later : (point : ℤ) (lists : List (ℤ × List Happening)) → IsByPoint lists → (e : ℤ × List Happening) (rest : List (ℤ × List Happening))
    → behind point lists ≡ e ∷ rest → IsNextAfter (listed lists) point (Some e.0)
some_later point lists by e rest is =
    let next = next_in point lists by.ordered by.dated by.some e rest is in
    (next.0, (next.1.0, contained (listed lists) next.1.0 next.1.1, next.1.2), λ h c. next.2 h (among (listed lists) h c))

-- the same, of happenings that are listed so
pub some_after : (point next : ℤ) (value happenings : List Happening) (lists rest : List (ℤ × List Happening)) → IsByPoint lists → listed lists ≡ happenings
    → behind point lists ≡ (next, value) ∷ rest → IsNextAfter happenings point (Some next)
some_after point next value happenings lists rest by view is =
    subst (λ (xs : List Happening). IsNextAfter xs point (Some next)) view (some_later point lists by (next, value) rest is)

pub none_after : (point : ℤ) (happenings : List Happening) (lists : List (ℤ × List Happening)) → IsByPoint lists → listed lists ≡ happenings
    → behind point lists ≡ [] → IsNextAfter happenings point None
none_after point happenings lists by view is =
    subst (λ (xs : List Happening). IsNextAfter xs point None) view (none_later point lists by is)
