-- The law of the rounds: where events stand in an order, as many rounds as it is long end in a set that the conditions leave as it is,
-- and no other set is so.
use Rattle.std.proofs.Common.{◌≡◌, ℕ, zero, suc, ◌+◌, ◌<◌, ◌≤◌, Bool, false, List, [], ◌∷◌, ◌++◌, ◌⊎◌, inl, inr, length, refl, sym, ◌∙◌, ap, subst, zero-add, arith, append_assoc, length-append}
use Rattle.std.proofs.Math.Path.{fun_ext}
use Rattle.sy_core.specs.Rounds.{rounds, IsSettled}
use Rattle.sy_core.proofs.Members.{Among}

-- each event of the list looks only at events before it, and at events that aren't in the list; those never happen
pub record IsInOrder {E : Type 0} (condition : (E → Bool) → E → Bool) (order : List E) : Type 0 where
  pub depends : (earlier later : List E) (e : E) → order ≡ earlier ++ e ∷ later → (s t : E → Bool) → ((d : E) → Among earlier d ⊎ (Among order d → ⊥) → s d ≡ t d) → condition s e ≡ condition t e
  pub others : (e : E) → (Among order e → ⊥) → (s : E → Bool) → condition s e ≡ false

-- what is in two lists together is in one of them
pub among_append : {E : Type 0} (xs ys : List E) (d : E) → Among (xs ++ ys) d → Among xs d ⊎ Among ys d
among_append [] ys d h = inr h
among_append (x ∷ xs) ys d (inl e) = inl (inl e)
among_append (x ∷ xs) ys d (inr m) = elim (among_append xs ys d m) [ inl a ↦ inl (inr a) | inr b ↦ inr b ]

pub append_none : {E : Type 0} (xs : List E) → xs ++ [] ≡ xs
append_none [] = refl
append_none (x ∷ xs) = ap (λ ys. x ∷ ys) (append_none xs)

module _ {E : Type 0} (condition : (E → Bool) → E → Bool) (order : List E) (ordered : IsInOrder condition order) where
  -- a run of sets, each of which is what the conditions give of the one before: so are the rounds, and so is a settled set repeated
  abbrev Follows : (ℕ → E → Bool) → Type 0
  Follows run = (k : ℕ) (e : E) → run (suc k) e ≡ condition (run k) e

  -- no event from outside the order is ever in the run
  abbrev StaysInside : (ℕ → E → Bool) → Type 0
  StaysInside run = (k : ℕ) (e : E) → (Among order e → ⊥) → run k e ≡ false

  -- two runs agree on a front of the order once both are as long as it
  abbrev AgreeAfter : (ℕ → E → Bool) → (ℕ → E → Bool) → List E → Type 0
  AgreeAfter f g front = (d : E) → Among front d → (m l : ℕ) → length front ≤ m → length front ≤ l → f m d ≡ g l d

  module _ (f g : ℕ → E → Bool) (f_follows : Follows f) (g_follows : Follows g) (f_inside : StaysInside f) (g_inside : StaysInside g) where
    -- they then agree on one event more
    one_more : (earlier later : List E) (x : E) → order ≡ earlier ++ x ∷ later → AgreeAfter f g earlier → (m l : ℕ) → length earlier < m → length earlier < l → f m x ≡ g l x
    one_more earlier later x e known zero l a b = absurd (omega arith)
    one_more earlier later x e known (suc m) zero a b = absurd (omega arith)
    one_more earlier later x e known (suc m) (suc l) a b =
        f_follows m x ∙ (ordered.depends earlier later x e (f m) (g l) (λ d place. at d place) ∙ sym (g_follows l x))
      where
        at : (d : E) → Among earlier d ⊎ (Among order d → ⊥) → f m d ≡ g l d
        at d (inl in_front) = known d in_front m l (omega arith) (omega arith)
        at d (inr out) = f_inside m d out ∙ sym (g_inside l d out)

    agree_from : (earlier later : List E) → order ≡ earlier ++ later → AgreeAfter f g earlier → AgreeAfter f g order
    agree_from earlier [] e known =
        let same = e ∙ append_none earlier in subst (AgreeAfter f g) (sym same) known
    agree_from earlier (x ∷ later) e known =
        agree_from (earlier ++ x ∷ []) later (e ∙ sym (append_assoc earlier (x ∷ []) later)) (λ d at m l a b. here d (among_append earlier (x ∷ []) d at) m l (omega (arith, length-append earlier (x ∷ []))) (omega (arith, length-append earlier (x ∷ []))))
      where
        here : (d : E) → Among earlier d ⊎ Among (x ∷ []) d → (m l : ℕ) → length earlier < m → length earlier < l → f m d ≡ g l d
        here d (inl at) m l a b = known d at m l (omega arith) (omega arith)
        here d (inr (inl is)) m l a b = subst (λ y. f m y ≡ g l y) is (one_more earlier later x e known m l a b)
        here d (inr (inr none)) m l a b = absurd none

    agree : AgreeAfter f g order
    agree = agree_from [] order refl (λ d none. absurd none)

  rounds_follow : Follows (rounds condition)
  rounds_follow k e = refl

  rounds_inside : StaysInside (rounds condition)
  rounds_inside zero e out = refl
  rounds_inside (suc k) e out = ordered.others e out (rounds condition k)

  module _ (among : (e : E) → Among order e ⊎ (Among order e → ⊥)) where
    pub order_settles : IsSettled condition (rounds condition (length order))
    order_settles e = elim (among e) [
      | inl at ↦ agree (rounds condition) (rounds condition) rounds_follow rounds_follow rounds_inside rounds_inside e at (suc (length order)) (length order) (omega arith) (omega arith)
      | inr out ↦ ordered.others e out (rounds condition (length order)) ∙ sym (rounds_inside (length order) e out)
    ]

    pub only_order_settles : (set : E → Bool) → IsSettled condition set → (e : E) → set e ≡ rounds condition (length order) e
    only_order_settles set h e = elim (among e) [
      | inl at ↦ agree (λ k. set) (rounds condition) (λ k d. sym (h d)) rounds_follow (λ k d out. sym (h d) ∙ ordered.others d out set) rounds_inside e at (length order) (length order) (omega arith) (omega arith)
      | inr out ↦ sym (h e) ∙ (ordered.others e out set ∙ sym (rounds_inside (length order) e out))
    ]

  -- one turn of a pass: where the events before this one stand as the settled set has them, its condition gives what the set has
  pub turn_in_order : (settled : E → Bool) → IsSettled condition settled → (earlier later : List E) (e : E) → order ≡ earlier ++ e ∷ later → (so_far : E → Bool) → ((d : E) → Among earlier d ⊎ (Among order d → ⊥) → so_far d ≡ settled d) → condition so_far e ≡ settled e
  turn_in_order settled h earlier later e at so_far known = ordered.depends earlier later e at so_far settled known ∙ h e

-- after a round that changes nothing, none does
pub rounds_stay : {E : Type 0} (condition : (E → Bool) → E → Bool) (k : ℕ) → IsSettled condition (rounds condition k) → (m : ℕ) → rounds condition (m + k) ≡ rounds condition k
rounds_stay condition k h zero = ap (rounds condition) (zero-add k)
rounds_stay condition k h (suc m) =
    let n : suc m + k ≡ suc (m + k) = omega arith in
    ap (rounds condition) n ∙ (ap condition (rounds_stay condition k h m) ∙ fun_ext h)
