-- Scans through the numbered items of a list, which end at the first item that decides.
use Rattle.std.proofs.Common.{◌≡◌, ◌∙◌, ℕ, ◌+◌, ◌<◌, ◌≤◌, Bool, true, false, ◌&&◌, ◌||◌, List, ◌∷◌, length, drop, get_or, Some, slice_get, sym, ap}
use Rattle.std.specs.List.{list_any, list_all, enumerate_from}
use Rattle.std.proofs.lemmas.List.{at_drop_more, at_drop_all}
use Rattle.std.proofs.lemmas.Option.{slice_get-get_or}

-- the item of a turn is the one of its number
pub item-there : {X : Type 0} (items xs : List X) (n i : ℕ) (x : X) → items ≡ xs → n ≡ i → i < length items → x ≡ get_or items i x → slice_get xs n ≡ Some x
item-there items xs n i x same number within is =
    ap (slice_get xs) number ∙ (ap (λ ys. slice_get ys i) (sym same) ∙ (slice_get-get_or items i x within ∙ ap Some (sym is)))

module _ {X : Type 0} (test : ℕ × X → Bool) (items : List X) (n i : ℕ) (whole : Bool) where
  -- some item from here on passes the test where the whole says so
  any-here : (x : X) → i < length items → x ≡ get_or items i x → list_any test (enumerate_from n (drop i items)) ≡ whole → (test (n, x) || list_any test (enumerate_from (n + 1) (drop (i + 1) items))) ≡ whole
  any-here x within is so =
      ap (λ y. list_any test (enumerate_from n (y ∷ drop (i + 1) items))) is ∙ (sym (at_drop_more (λ ys. list_any test (enumerate_from n ys)) items i x within) ∙ so)

  pub any-found : (x : X) → i < length items → x ≡ get_or items i x → true ≡ test (n, x) → list_any test (enumerate_from n (drop i items)) ≡ whole → true ≡ whole
  any-found x within is passed so = ap (λ b. b || list_any test (enumerate_from (n + 1) (drop (i + 1) items))) passed ∙ any-here x within is so

  pub any-later : (x : X) → i < length items → x ≡ get_or items i x → false ≡ test (n, x) → list_any test (enumerate_from n (drop i items)) ≡ whole → list_any test (enumerate_from (n + 1) (drop (i + 1) items)) ≡ whole
  any-later x within is failed so = ap (λ b. b || list_any test (enumerate_from (n + 1) (drop (i + 1) items))) failed ∙ any-here x within is so

  pub any-end : length items ≤ i → list_any test (enumerate_from n (drop i items)) ≡ whole → false ≡ whole
  any-end past so = sym (at_drop_all (λ ys. list_any test (enumerate_from n ys)) items i past) ∙ so

  -- each item from here on passes the test where the whole says so
  all-here : (x : X) → i < length items → x ≡ get_or items i x → list_all test (enumerate_from n (drop i items)) ≡ whole → (test (n, x) && list_all test (enumerate_from (n + 1) (drop (i + 1) items))) ≡ whole
  all-here x within is so =
      ap (λ y. list_all test (enumerate_from n (y ∷ drop (i + 1) items))) is ∙ (sym (at_drop_more (λ ys. list_all test (enumerate_from n ys)) items i x within) ∙ so)

  pub all-failed : (x : X) → i < length items → x ≡ get_or items i x → false ≡ test (n, x) → list_all test (enumerate_from n (drop i items)) ≡ whole → false ≡ whole
  all-failed x within is failed so = ap (λ b. b && list_all test (enumerate_from (n + 1) (drop (i + 1) items))) failed ∙ all-here x within is so

  pub all-later : (x : X) → i < length items → x ≡ get_or items i x → true ≡ test (n, x) → list_all test (enumerate_from n (drop i items)) ≡ whole → list_all test (enumerate_from (n + 1) (drop (i + 1) items)) ≡ whole
  all-later x within is passed so = ap (λ b. b && list_all test (enumerate_from (n + 1) (drop (i + 1) items))) passed ∙ all-here x within is so

  pub all-end : length items ≤ i → list_all test (enumerate_from n (drop i items)) ≡ whole → true ≡ whole
  all-end past so = sym (at_drop_all (λ ys. list_all test (enumerate_from n ys)) items i past) ∙ so
