-- What a story keeps stays right as happenings are noted.
use Rattle.std.proofs.Common.{◌≡◌, ◌↔◌, inl, inr, ◌+◌, ◌<◌, ◌≤◌, ℤ, ◌≤ℤ◌, ◌<ℤ◌, Bool, true, false, cond, not, List, length, IsTrue, Result, Ok, Err, refl, sym, ap, subst, ◌∙◌, true≢false, arith}
use Rattle.std.specs.Int.Signed.{clash_ℤ}
use Rattle.std.specs.List.{Contains}
use Rattle.std.specs.Result.{is_err, OnErr, OnOk}
use Rattle.std.specs.BTreeMap.{is_at}
use Rattle.std.specs.BTreeSet.{BTreeSet, contains}
use Rattle.std.specs.Ordering.{is_eq}
use Rattle.std.specs.declared.cmp.Ordering.{Ordering}
use Rattle.std.specs.declared.cmp.Ordering.TheVariants.{Less, Equal, Greater}
use Rattle.std.proofs.lemmas.Map.Lookups.{CmpEqualImpliesEq}
use Rattle.std.proofs.lemmas.Map.Views.{btree_set_contains_iff}
use Rattle.sy_core.specs.declared.happening.Happening.{Happening}
use Rattle.sy_core.specs.contracts.happening.HappeningOrd.TheImpl as ordered
use Rattle.sy_core.specs.contracts.happening.HappeningOrd.TheImpl.Laws.{total-law}
use Rattle.sy_core.proofs.Equal.{happening_ties}
use Rattle.sy_story.specs.Narratives.{HasOneMore, IsNews, Joins, limit}
use Rattle.sy_story.specs.Machine.ByPoint.{IsPutIn}
use Rattle.sy_story.specs.Machine.Holding.{HoldsWell}
use Rattle.sy_story.proofs.Placing.{one_more, once_more}

-- the order of happenings
abbrev pub cmp : Happening → Happening → Ordering
cmp = ordered.cmp-value.it

exact : CmpEqualImpliesEq cmp
exact a b level = (happening_ties a b).0 level

-- a set has just the happenings that are among its keys
keyed : (set : BTreeSet Happening) (h : Happening) → IsTrue (contains cmp set h) ↔ Contains set.keys h
keyed set h = btree_set_contains_iff total-law exact set h

-- one is at its own place
at_itself : (h : Happening) → is_at (cmp h) h ≡ true
at_itself h = ap is_eq ((happening_ties h h).1 refl)

-- and at no other's
same_at : (h k : Happening) → is_at (cmp h) k ≡ true → h ≡ k
same_at h k at = by (cmp h k) refl at
  where
    by : (o : Ordering) → cmp h k ≡ o → is_eq o ≡ true → h ≡ k
    by Equal level t = exact h k level
    by Less level t = absurd (true≢false (sym t))
    by Greater level t = absurd (true≢false (sym t))

-- after one was put in
abbrev pub Inserted : BTreeSet Happening → Happening → BTreeSet Happening → Type 0
Inserted old h new = (q : Happening) → contains cmp new q ≡ cond (is_at (cmp h) q) true (contains cmp old q)

-- and it wasn't there
abbrev pub IsLonger : BTreeSet Happening → Happening → BTreeSet Happening → Type 0
IsLonger old h new = Inserted old h new × (length new.keys ≡ length old.keys + 1)

-- from what an insertion answers
pub longer_by : (old new : BTreeSet Happening) (key h : Happening) → key ≡ h → contains cmp old h ≡ false → Inserted old key new → (added : Bool)
    → added ≡ not (contains cmp old key) → length new.keys ≡ length old.keys + cond added 1 0 → IsLonger old h new
longer_by old new key h same missing inserted added is longer = (
  subst (λ (k : Happening). Inserted old k new) same inserted,
  longer ∙ ap (λ t. length old.keys + cond t 1 0) (is ∙ ap (λ (k : Happening). not (contains cmp old k)) same ∙ ap not missing),
)

-- after one was taken out
abbrev pub Removed : BTreeSet Happening → Happening → BTreeSet Happening → Type 0
Removed old h new = (q : Happening) → contains cmp new q ≡ cond (is_at (cmp h) q) false (contains cmp old q)

module _ (start : ℤ) (known : BTreeSet Happening) (happenings : List Happening) (holds : HoldsWell start known happenings) where
  pub is_held : (h : Happening) → contains cmp known h ≡ true → Contains happenings h
  is_held h found = (holds.same h).0 ((keyed known h).0 found)

  pub isnt_held : (h : Happening) → contains cmp known h ≡ false → Contains happenings h → ⊥
  isnt_held h missing c = true≢false (sym ((keyed known h).1 ((holds.same h).1 c)) ∙ missing)

  pub answers : (h : Happening) (found : Bool) → found ≡ contains cmp known h → IsTrue found ↔ Contains happenings h
  answers h found is = (λ t. is_held h (sym is ∙ t), λ c. is ∙ (keyed known h).1 ((holds.same h).1 c))

  pub isnt_early : (h : Happening) → h.point <ℤ start → Contains happenings h → ⊥
  isnt_early h early c = clash_ℤ early (holds.timely h c)

  pub is_news : (h : Happening) → contains cmp known h ≡ false → start ≤ℤ h.point → IsNews (record { start = start; happenings = happenings }) h
  is_news h missing timely = record { absent = isnt_held h missing; timely = timely }

  pub is_full : limit ≤ length known.keys → length happenings ≡ limit
  is_full full = omega (arith, holds.counted, holds.few)

  pub has_room : length known.keys < limit → length happenings < limit
  has_room room = omega (arith, holds.counted)

  pub unchanged : (set : BTreeSet Happening) → set.keys ≡ known.keys → HoldsWell start set happenings
  unchanged set same = record {
    same = λ h. subst (λ (ks : List Happening). Contains ks h ↔ Contains happenings h) (sym same) (holds.same h);
    counted = ap (λ (ks : List Happening). length ks) same ∙ holds.counted;
    few = holds.few;
    once = holds.once;
    timely = holds.timely;
  }

  -- one is put into the set and taken out again
  pub undone : (h : Happening) (more less : BTreeSet Happening) → contains cmp known h ≡ false → IsLonger known h more → Removed more h less
      → (there : Bool) → there ≡ contains cmp more h → length less.keys + cond there 1 0 ≡ length more.keys → HoldsWell start less happenings
  undone h more less missing longer removed there is shorter = record {
    same = λ k. (
      λ c. (holds.same k).0 ((keyed known k).0 (sym (level k) ∙ (keyed less k).1 c)),
      λ c. (keyed less k).0 (level k ∙ (keyed known k).1 ((holds.same k).1 c)),
    );
    counted = let a = holds.counted in let b = longer.1 in omega (arith, a, b, shorter_by_one);
    few = holds.few;
    once = holds.once;
    timely = holds.timely;
  }
    where
      found : there ≡ true
      found = is ∙ longer.0 h ∙ ap (λ t. cond t true (contains cmp known h)) (at_itself h)

      shorter_by_one : length less.keys + 1 ≡ length more.keys
      shorter_by_one = sym (ap (λ t. length less.keys + cond t 1 0) found) ∙ shorter

      level : (k : Happening) → contains cmp less k ≡ contains cmp known k
      level k = by (is_at (cmp h) k) refl
        where
          by : (t : Bool) → is_at (cmp h) k ≡ t → contains cmp less k ≡ contains cmp known k
          by true at =
              removed k ∙ ap (λ t. cond t false (contains cmp more k)) at
              ∙ sym (subst (λ (q : Happening). contains cmp known q ≡ false) (same_at h k at) missing)
          by false at =
              removed k ∙ ap (λ t. cond t false (contains cmp more k)) at
              ∙ longer.0 k ∙ ap (λ t. cond t true (contains cmp known k)) at

  -- one is put into the set and among the others
  pub joined : (h : Happening) (more : BTreeSet Happening) (new : List Happening) → contains cmp known h ≡ false → start ≤ℤ h.point
      → length known.keys < limit → IsLonger known h more → IsPutIn happenings h new → HoldsWell start more new
  joined h more new missing timely room longer put = record {
    same = λ k. (λ c. into k ((keyed more k).1 c), λ c. (keyed more k).0 (out k c));
    counted = let a = holds.counted in let b = grown.count in let l = longer.1 in omega (arith, a, b, l);
    few = let a = holds.counted in let b = grown.count in omega (arith, a, b, room);
    once = once_more happenings new h put holds.once (isnt_held h missing);
    timely = λ k c. elim ((grown.members k).0 c) [
      | inl old ↦ holds.timely k old
      | inr same ↦ subst (λ (q : Happening). start ≤ℤ q.point) (sym same) timely
    ];
  }
    where
      grown : HasOneMore happenings h new
      grown = one_more happenings new h put

      into : (k : Happening) → contains cmp more k ≡ true → Contains new k
      into k found = by (is_at (cmp h) k) refl
        where
          by : (t : Bool) → is_at (cmp h) k ≡ t → Contains new k
          by true at = (grown.members k).1 (inr (sym (same_at h k at)))
          by false at =
              (grown.members k).1 (inl (is_held k (sym (ap (λ t. cond t true (contains cmp known k)) at) ∙ sym (longer.0 k) ∙ found)))

      out : (k : Happening) → Contains new k → contains cmp more k ≡ true
      out k c = elim ((grown.members k).0 c) [
        | inl old ↦ longer.0 k ∙ kept (is_at (cmp h) k) ((keyed known k).1 ((holds.same k).1 old))
        | inr same ↦ longer.0 k ∙ ap (λ t. cond t true (contains cmp known k)) (subst (λ (q : Happening). is_at (cmp h) q ≡ true) (sym same) (at_itself h))
      ]
        where
          kept : (t : Bool) → contains cmp known k ≡ true → cond t true (contains cmp known k) ≡ true
          kept true found = refl
          kept false found = found

  pub joins : (h : Happening) (new : List Happening) → IsPutIn happenings h new
      → Joins (record { start = start; happenings = happenings }) h (record { start = start; happenings = new })
  joins h new put = record { start = refl; more = one_more happenings new h put }

-- what a call that failed says of it, and one that didn't
pub on_err : {A E : Type 0} (P : Type 0) (result : Result A E) → true ≡ is_err result → OnErr result P → P
on_err P (Ok x) failed says = absurd (true≢false failed)
on_err P (Err e) failed says = says

pub on_ok : {A E : Type 0} (P : Type 0) (result : Result A E) → false ≡ is_err result → OnOk result P → P
on_ok P (Ok x) worked says = says
on_ok P (Err e) worked says = absurd (true≢false (sym worked))
