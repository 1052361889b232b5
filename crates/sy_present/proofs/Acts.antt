-- What the powers that are exerted do, after one more internal event.
use Rattle.std.proofs.Common.{◌≡◌, ℕ, zero, suc, ◌+◌, ◌<◌, ◌≤◌, ◌==◌, Bool, true, false, ◌&&◌, ◌||◌, List, [], ◌∷◌, Some, slice_get, get_or, length, refl, ◌∙◌, ap, arith}
use Rattle.std.specs.List.{list_any, enumerate_from}
use Rattle.std.proofs.lemmas.Option.{slice_get_within, get_or_from_slice_get}
use Rattle.std.proofs.lemmas.Bool.Decides.{Decides-eqb}
use Rattle.sy_words.specs.declared.kind.Kind.{Kind}
use Rattle.sy_words.specs.declared.kind.Kind.TheVariants.{Exerted}
use Rattle.sy_words.specs.declared.verb.Verb.{Verb}
use Rattle.sy_core.specs.declared.kind.Target.{Target}
use Rattle.sy_core.specs.declared.kind.Target.TheVariants as T
use Rattle.sy_core.specs.declared.event.Ev.TheVariants.{Inner}
use Rattle.sy_core.specs.declared.position.Position.{Position}
use Rattle.sy_core.specs.declared.deed.Deed.{Deed}
use Rattle.sy_core.specs.Conditions.{is_act, numbered, powers_to, by}
use Rattle.sy_core.proofs.Listing.{not_same}
use Rattle.sy_passes.specs.Passes.{kind_number}
use Rattle.sy_quiet.specs.Histories.{History, firing}
use Rattle.sy_quiet.proofs.Numbered.{any-kept}
use Rattle.sy_present.specs.Machine.Happened.{is_event_of, does_to}

pub and_false : (b : Bool) → (b && false) ≡ false
and_false true = refl
and_false false = refl

-- some item passes one of two tests exactly where some item passes the first, or some the second
any_either : {X : Type 0} (f g : X → Bool) (xs : List X) → list_any (λ x. f x || g x) xs ≡ (list_any f xs || list_any g xs)
any_either f g [] = refl
any_either f g (x ∷ xs) = here (f x) (g x) (list_any f xs) (list_any g xs) (any_either f g xs)
  where
    here : (a b c d : Bool) → list_any (λ x. f x || g x) xs ≡ (c || d) → ((a || b) || list_any (λ x. f x || g x) xs) ≡ ((a || c) || (b || d))
    here true b c d later = refl
    here false true true d later = refl
    here false true false d later = refl
    here false false c d later = later

-- no item passes a test that none passes
any_never : {X : Type 0} (f : X → Bool) (xs : List X) → ((x : X) → f x ≡ false) → list_any f xs ≡ false
any_never f [] never = refl
any_never f (x ∷ xs) never = ap (λ b. b || list_any f xs) (never x) ∙ any_never f xs never

module _ (b : Bool) (goes : Position → Bool) where
  -- the number is below all those of the positions
  none_here : (m j : ℕ) (ps : List Position) → m < j → list_any (λ n. goes n.1 && (b && (m == n.0))) (enumerate_from j ps) ≡ false
  none_here m j [] lt = refl
  none_here m j (p ∷ ps) lt =
      let apart : (m == j) ≡ false = not_same m j (λ e. absurd (omega (arith, lt, e))) in
      ap (λ t. (goes p && (b && t)) || list_any (λ n. goes n.1 && (b && (m == n.0))) (enumerate_from (j + 1) ps)) apart
      ∙ (ap (λ t. (goes p && t) || list_any (λ n. goes n.1 && (b && (m == n.0))) (enumerate_from (j + 1) ps)) (and_false b)
      ∙ (ap (λ t. t || list_any (λ n. goes n.1 && (b && (m == n.0))) (enumerate_from (j + 1) ps)) (and_false (goes p))
      ∙ none_here m (j + 1) ps (omega (arith, lt))))

  swapped : (a c : Bool) → ((a && (c && true)) || false) ≡ (c && a)
  swapped true true = refl
  swapped true false = refl
  swapped false true = refl
  swapped false false = refl

  -- the number is that of one position
  one_here : (m j : ℕ) (ps : List Position) (i : ℕ) (p : Position) → m ≡ j + i → slice_get ps i ≡ Some p → list_any (λ n. goes n.1 && (b && (m == n.0))) (enumerate_from j ps) ≡ (b && goes p)
  one_here m j [] i p e is = cc
  one_here m j (y ∷ ps) zero p e is =
      let same : m ≡ j = omega (arith, e) in
      let here : y ≡ p = cc in
      (λ k. (goes (here k) && (b && ((Decides-eqb m j).1 same k))) || none_here m (j + 1) ps (omega (arith, same)) k)
      ∙ swapped (goes p) b
  one_here m j (y ∷ ps) (suc i) p e is =
      let apart : (m == j) ≡ false = not_same m j (λ q. absurd (omega (arith, e, q))) in
      ap (λ t. (goes y && (b && t)) || list_any (λ n. goes n.1 && (b && (m == n.0))) (enumerate_from (j + 1) ps)) apart
      ∙ (ap (λ t. (goes y && t) || list_any (λ n. goes n.1 && (b && (m == n.0))) (enumerate_from (j + 1) ps)) (and_false b)
      ∙ (ap (λ t. t || list_any (λ n. goes n.1 && (b && (m == n.0))) (enumerate_from (j + 1) ps)) (and_false (goes y))
      ∙ one_here m (j + 1) ps i p (omega (arith, e)) is))

module _ (deed : Deed) (kind : Kind) (h : History) (verb : Verb) (x : Target) where
  by_either : (target : Target) → by deed (firing kind target h).now verb x ≡ (by deed h.now verb x || list_any (λ n. is_event_of kind target (T.Position n.0) Exerted) (powers_to deed verb x))
  by_either target = any_either (λ n. h.now.seen (Inner Exerted (T.Position n.0))) (λ n. is_event_of kind target (T.Position n.0) Exerted) (powers_to deed verb x)

  -- no power is exerted where something happens to the contract
  pub by_contract : by deed (firing kind T.Contract h).now verb x ≡ (by deed h.now verb x || false)
  by_contract = by_either T.Contract ∙ ap (λ b. by deed h.now verb x || b) (any_never (λ n. is_event_of kind T.Contract (T.Position n.0) Exerted) (powers_to deed verb x) (λ n. and_false (kind_number kind == kind_number Exerted)))

  -- where a position's internal event happens, what it does is done
  pub by_position : (i : ℕ) (p : Position) → slice_get deed.positions i ≡ Some p → by deed (firing kind (T.Position i) h).now verb x ≡ (by deed h.now verb x || does_to kind p.goal x verb)
  by_position i p is =
      let exerts = kind_number kind == kind_number Exerted in
      by_either (T.Position i)
      ∙ ap (λ b. by deed h.now verb x || b) (any-kept (λ n. is_act verb x n.1.goal) (λ n. exerts && (i == n.0)) (numbered deed) ∙ one_here exerts (λ q. is_act verb x q.goal) i 0 deed.positions i p (omega arith) is)

-- the position with a number, as it is read
pub read_position : (positions items : List Position) (i : ℕ) (p q : Position) → items ≡ positions → slice_get positions i ≡ Some p → q ≡ get_or items i q → q ≡ p
read_position positions items i p q e there is = is ∙ get_or_from_slice_get items i p q (ap (λ ps. slice_get ps i) e ∙ there)

-- there is none beyond the last
pub none_beyond : (positions items : List Position) (i : ℕ) (p : Position) → items ≡ positions → slice_get positions i ≡ Some p → length items ≤ i → ⊥
none_beyond positions items i p e there beyond = let lt = slice_get_within items i p (ap (λ ps. slice_get ps i) e ∙ there) in absurd (omega (arith, lt, beyond))
