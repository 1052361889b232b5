-- A happening is put into a list.
use Rattle.std.proofs.Common.{◌≡◌, ◌⊎◌, inl, inr, ◌+◌, List, [], ◌∷◌, ◌++◌, length, refl, sym, ap, subst, ◌∙◌, append_assoc, append-nil, arith, length-append}
use Rattle.std.specs.List.{Contains}
use Rattle.sy_core.specs.declared.happening.Happening.{Happening}
use Rattle.sy_core.proofs.Members.{Among, among, contained}
use Rattle.sy_story.specs.Narratives.{HasOneMore, IsOnce}
use Rattle.sy_story.specs.Machine.ByPoint.{IsPutIn}

-- at the end
pub put_last : (xs : List Happening) (h : Happening) → IsPutIn xs h (xs ++ h ∷ [])
put_last xs h = record { front = xs; back = []; was = sym (append-nil xs); is = refl }

-- at the front
pub put_first : (xs : List Happening) (h : Happening) → IsPutIn xs h (h ∷ xs)
put_first xs h = record { front = []; back = xs; was = refl; is = refl }

-- with more in front of it
pub put_behind : (front xs ys : List Happening) (h : Happening) → IsPutIn xs h ys → IsPutIn (front ++ xs) h (front ++ ys)
put_behind front xs ys h put = record {
  front = front ++ put.front;
  back = put.back;
  was = ap (λ (rest : List Happening). front ++ rest) put.was ∙ sym (append_assoc front put.front put.back);
  is = ap (λ (rest : List Happening). front ++ rest) put.is ∙ sym (append_assoc front put.front (h ∷ put.back));
}

-- with more behind it
pub put_before : (xs ys back : List Happening) (h : Happening) → IsPutIn xs h ys → IsPutIn (xs ++ back) h (ys ++ back)
put_before xs ys back h put = record {
  front = put.front;
  back = put.back ++ back;
  was = ap (λ (rest : List Happening). rest ++ back) put.was ∙ append_assoc put.front put.back back;
  is = ap (λ (rest : List Happening). rest ++ back) put.is ∙ append_assoc put.front (h ∷ put.back) back;
}

pub among_front : (xs ys : List Happening) (x : Happening) → Among xs x → Among (xs ++ ys) x
among_front [] ys x a = absurd a
among_front (y ∷ xs) ys x (inl e) = inl e
among_front (y ∷ xs) ys x (inr a) = inr (among_front xs ys x a)

pub among_back : (xs ys : List Happening) (x : Happening) → Among ys x → Among (xs ++ ys) x
among_back [] ys x a = a
among_back (y ∷ xs) ys x a = inr (among_back xs ys x a)

pub among_parts : (xs ys : List Happening) (x : Happening) → Among (xs ++ ys) x → Among xs x ⊎ Among ys x
among_parts [] ys x a = inr a
among_parts (y ∷ xs) ys x (inl e) = inl (inl e)
among_parts (y ∷ xs) ys x (inr a) = elim (among_parts xs ys x a) [ inl b ↦ inl (inr b) | inr b ↦ inr b ]

-- what was there stays, and it is there
kept : (front back : List Happening) (h k : Happening) → Among (front ++ back) k → Among (front ++ h ∷ back) k
kept front back h k a =
    elim (among_parts front back k a) [ inl b ↦ among_front front (h ∷ back) k b | inr b ↦ among_back front (h ∷ back) k (inr b) ]

only : (front back : List Happening) (h k : Happening) → Among (front ++ h ∷ back) k → Among (front ++ back) k ⊎ (k ≡ h)
only front back h k a = elim (among_parts front (h ∷ back) k a) [
  | inl b ↦ inl (among_front front back k b)
  | inr b ↦ elim b [ inl e ↦ inr (sym e) | inr later ↦ inl (among_back front back k later) ]
]

pub one_more : (old new : List Happening) (h : Happening) → IsPutIn old h new → HasOneMore old h new
one_more old new h put = record {
  members = λ k. (
    λ c. elim (only put.front put.back h k (subst (λ (xs : List Happening). Among xs k) put.is (among new k c))) [
      | inl a ↦ inl (contained old k (subst (λ (xs : List Happening). Among xs k) (sym put.was) a))
      | inr e ↦ inr e
    ],
    λ either. elim either [
      | inl c ↦ contained new k (subst (λ (xs : List Happening). Among xs k) (sym put.is)
          (kept put.front put.back h k (subst (λ (xs : List Happening). Among xs k) put.was (among old k c))))
      | inr e ↦ contained new k (subst (λ (xs : List Happening). Among xs k) (sym put.is) (among_back put.front (h ∷ put.back) k (inl (sym e))))
    ],
  );
  count = counted;
}
  where
    counted : length new ≡ length old + 1
    counted =
        let a = ap (λ (xs : List Happening). length xs) put.was in
        let b = ap (λ (xs : List Happening). length xs) put.is in
        let c = length-append put.front put.back in
        let d = length-append put.front (h ∷ put.back) in
        omega (arith, a, b, c, d)

once_in : (front back : List Happening) (h : Happening) → IsOnce (front ++ back) → (Among (front ++ back) h → ⊥) → IsOnce (front ++ h ∷ back)
once_in [] back h once absent = (λ c. absent (among back h c), once)
once_in (x ∷ front) back h once absent = (
  λ c. elim (only front back h x (among (front ++ h ∷ back) x c)) [
    | inl a ↦ once.0 (contained (front ++ back) x a)
    | inr e ↦ absent (inl e)
  ],
  once_in front back h once.1 (λ a. absent (inr a)),
)

-- what isn't there yet stands once
pub once_more : (old new : List Happening) (h : Happening) → IsPutIn old h new → IsOnce old → (Contains old h → ⊥) → IsOnce new
once_more old new h put once absent =
    subst IsOnce (sym put.is) (once_in put.front put.back h (subst IsOnce put.was once)
    (λ a. absent (contained old h (subst (λ (xs : List Happening). Among xs h) (sym put.was) a))))
