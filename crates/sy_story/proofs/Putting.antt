-- A happening is put into the list of its point, or into a new one.
use Rattle.std.proofs.Common.{◌≡◌, ◌<◌, ℤ, Bool, true, false, cond, List, [], ◌∷◌, ◌++◌, length, Some, None, Result, Ok, Err, refl, sym, ap, subst, ◌∙◌, true≢false, arith, length-append}
use Rattle.std.specs.List.{AllByRecursion}
use Rattle.std.specs.Map.{lookup, set_value, keys_of}
use Rattle.std.specs.BTreeMap.{is_at, insert_entry}
use Rattle.std.specs.Ordering.{int_cmp, is_eq, match_ordering}
use Rattle.std.specs.List.Sorted.{IsStrictlySortedBy}
use Rattle.std.specs.declared.cmp.Ordering.{Ordering}
use Rattle.std.specs.declared.cmp.Ordering.TheVariants.{Less, Equal, Greater}
use Rattle.std.specs.Result.{OnOk, OnErr}
use Rattle.std.proofs.lemmas.Map.Lookups.{exact_signed}
use Rattle.std.proofs.lemmas.Map.Steps.{set_value_same}
use Rattle.sy_base.specs.declared.memory.Memory.{Memory}
use Rattle.sy_core.specs.declared.happening.Happening.{Happening}
use Rattle.sy_story.specs.Machine.ByPoint.{IsByPoint, IsPutIn, listed}
use Rattle.sy_story.proofs.Lists.{Dated, AllDated}
use Rattle.sy_story.proofs.Placing.{put_last, put_first, put_behind, put_before}

abbrev pub Some_of : List (ℤ × List Happening) → Type 0
Some_of lists = AllByRecursion (λ e. 0 < length e.1) lists

abbrev test : ℤ → ℤ → Bool
test point = is_at (int_cmp point)

dated_push : (point : ℤ) (list : List Happening) (h : Happening) → Dated point list → h.point ≡ point → Dated point (list ++ h ∷ [])
dated_push point [] h d e = (e, tt)
dated_push point (k ∷ ks) h d e = (d.0, dated_push point ks h d.1 e)

-- what a look-up found has one more at its end
pub put_found : (h : Happening) (lists : List (ℤ × List Happening)) (list : List Happening) → lookup (test h.point) lists ≡ Some list
    → IsPutIn (listed lists) h (listed (set_value (test h.point) lists (list ++ h ∷ [])))
put_found h [] list found = absurd cc
put_found h (e ∷ es) list found = by (test h.point e.0) refl (put_found h es list) found
  where
    by : (t : Bool) → test h.point e.0 ≡ t
        → (lookup (test h.point) es ≡ Some list → IsPutIn (listed es) h (listed (set_value (test h.point) es (list ++ h ∷ []))))
        → cond t (Some e.1) (lookup (test h.point) es) ≡ Some list
        → IsPutIn (e.1 ++ listed es) h (listed (cond t ((e.0, list ++ h ∷ []) ∷ es) (e ∷ set_value (test h.point) es (list ++ h ∷ []))))
    by true at more is =
        let its : e.1 ≡ list = cc in
        subst (λ (xs : List Happening). IsPutIn (xs ++ listed es) h ((list ++ h ∷ []) ++ listed es)) (sym its)
        (put_before list (list ++ h ∷ []) (listed es) h (put_last list h))
    by false at more is = put_behind e.1 (listed es) _ h (more is)

pub dated_found : (h : Happening) (lists : List (ℤ × List Happening)) (list : List Happening) → AllDated lists → lookup (test h.point) lists ≡ Some list
    → AllDated (set_value (test h.point) lists (list ++ h ∷ []))
dated_found h [] list d found = absurd cc
dated_found h (e ∷ es) list d found = by (test h.point e.0) refl (dated_found h es list d.1) found
  where
    equal : (o : Ordering) → int_cmp h.point e.0 ≡ o → is_eq o ≡ true → h.point ≡ e.0
    equal Equal level t = exact_signed h.point e.0 level
    equal Less level t = absurd (true≢false (sym t))
    equal Greater level t = absurd (true≢false (sym t))

    by : (t : Bool) → test h.point e.0 ≡ t
        → (lookup (test h.point) es ≡ Some list → AllDated (set_value (test h.point) es (list ++ h ∷ [])))
        → cond t (Some e.1) (lookup (test h.point) es) ≡ Some list
        → AllDated (cond t ((e.0, list ++ h ∷ []) ∷ es) (e ∷ set_value (test h.point) es (list ++ h ∷ [])))
    by true at more is =
        let its : e.1 ≡ list = cc in
        (dated_push e.0 list h (subst (λ (xs : List Happening). Dated e.0 xs) its d.0) (equal (int_cmp h.point e.0) refl at), d.1)
    by false at more is = (d.0, more is)

pub some_found : (h : Happening) (lists : List (ℤ × List Happening)) (list : List Happening) → Some_of lists
    → Some_of (set_value (test h.point) lists (list ++ h ∷ []))
some_found h [] list some = tt
some_found h (e ∷ es) list some = by (test h.point e.0) (some_found h es list some.1)
  where
    by : (t : Bool) → Some_of (set_value (test h.point) es (list ++ h ∷ []))
        → Some_of (cond t ((e.0, list ++ h ∷ []) ∷ es) (e ∷ set_value (test h.point) es (list ++ h ∷ [])))
    by true more = (let a = length-append list (h ∷ []) in omega (arith, a), some.1)
    by false more = (some.0, more)

-- a new list, of it alone
abbrev opened : Happening → List (ℤ × List Happening) → List (ℤ × List Happening)
opened h lists = insert_entry int_cmp lists h.point (h ∷ [])

pub put_new : (h : Happening) (lists : List (ℤ × List Happening)) → lookup (test h.point) lists ≡ None → IsPutIn (listed lists) h (listed (opened h lists))
put_new h [] found = put_first [] h
put_new h (e ∷ es) found = by (int_cmp h.point e.0) (put_new h es) found
  where
    by : (o : Ordering) → (lookup (test h.point) es ≡ None → IsPutIn (listed es) h (listed (opened h es)))
        → cond (is_eq o) (Some e.1) (lookup (test h.point) es) ≡ None
        → IsPutIn (e.1 ++ listed es) h (listed (match_ordering o ((h.point, h ∷ []) ∷ e ∷ es) ((e.0, h ∷ []) ∷ es) (e ∷ opened h es)))
    by Less more is = put_first (e.1 ++ listed es) h
    by Equal more is = absurd cc
    by Greater more is = put_behind e.1 (listed es) _ h (more is)

pub dated_new : (h : Happening) (lists : List (ℤ × List Happening)) → AllDated lists → lookup (test h.point) lists ≡ None → AllDated (opened h lists)
dated_new h [] d found = ((refl, tt), tt)
dated_new h (e ∷ es) d found = by (int_cmp h.point e.0) (dated_new h es d.1) found
  where
    by : (o : Ordering) → (lookup (test h.point) es ≡ None → AllDated (opened h es))
        → cond (is_eq o) (Some e.1) (lookup (test h.point) es) ≡ None
        → AllDated (match_ordering o ((h.point, h ∷ []) ∷ e ∷ es) ((e.0, h ∷ []) ∷ es) (e ∷ opened h es))
    by Less more is = ((refl, tt), d)
    by Equal more is = absurd cc
    by Greater more is = (d.0, more is)

pub some_new : (h : Happening) (lists : List (ℤ × List Happening)) → Some_of lists → Some_of (opened h lists)
some_new h [] some = (omega arith, tt)
some_new h (e ∷ es) some = by (int_cmp h.point e.0) (some_new h es some.1)
  where
    by : (o : Ordering) → Some_of (opened h es)
        → Some_of (match_ordering o ((h.point, h ∷ []) ∷ e ∷ es) ((e.0, h ∷ []) ∷ es) (e ∷ opened h es))
    by Less more = (omega arith, some)
    by Equal more = (omega arith, some.1)
    by Greater more = (some.0, more)

-- what a push through a look-up leaves, whether it had memory or not
pub record Pushed (lists new : List (ℤ × List Happening)) (h : Happening) (result : Result (Unit {0}) Memory) : Type 0 where
  pub by_point : IsByPoint new
  pub ok : OnOk result (IsPutIn (listed lists) h (listed new))
  pub err : OnErr result (listed new ≡ listed lists)

pub pushed_through : (h copy : Happening) (lists new : List (ℤ × List Happening)) (list pushed : List Happening) (result : Result (Unit {0}) Memory)
    → IsByPoint lists → copy ≡ h → lookup (test h.point) lists ≡ Some list → new ≡ set_value (test h.point) lists pushed
    → IsStrictlySortedBy int_cmp (keys_of new) → OnOk result (pushed ≡ list ++ copy ∷ []) → OnErr result (pushed ≡ list) → Pushed lists new h result
pushed_through h copy lists new list pushed (Ok unit) by same found is sorted ok err =
    let more : pushed ≡ list ++ h ∷ [] = ok ∙ ap (λ (k : Happening). list ++ k ∷ []) same in
    let now : new ≡ set_value (test h.point) lists (list ++ h ∷ []) = is ∙ ap (set_value (test h.point) lists) more in
    record {
      by_point = record {
        ordered = sorted;
        dated = subst AllDated (sym now) (dated_found h lists list by.dated found);
        some = subst Some_of (sym now) (some_found h lists list by.some);
      };
      ok = subst (λ (es : List (ℤ × List Happening)). IsPutIn (listed lists) h (listed es)) (sym now) (put_found h lists list found);
      err = tt;
    }
pushed_through h copy lists new list pushed (Err e) by same found is sorted ok err =
    let now : new ≡ lists = is ∙ ap (set_value (test h.point) lists) err ∙ set_value_same (test h.point) lists list found in
    record {
      by_point = subst IsByPoint (sym now) by;
      ok = tt;
      err = ap listed now;
    }

-- what a new list leaves
pub opened_anew : (h : Happening) (lists new : List (ℤ × List Happening)) (alone : List Happening) → IsByPoint lists → alone ≡ h ∷ []
    → lookup (test h.point) lists ≡ None → new ≡ insert_entry int_cmp lists h.point alone → IsStrictlySortedBy int_cmp (keys_of new)
    → IsByPoint new × IsPutIn (listed lists) h (listed new)
opened_anew h lists new alone by one missing is sorted =
    let now : new ≡ opened h lists = is ∙ ap (insert_entry int_cmp lists h.point) one in (
      record {
        ordered = sorted;
        dated = subst AllDated (sym now) (dated_new h lists by.dated missing);
        some = subst Some_of (sym now) (some_new h lists by.some);
      },
      subst (λ (es : List (ℤ × List Happening)). IsPutIn (listed lists) h (listed es)) (sym now) (put_new h lists missing),
    )
