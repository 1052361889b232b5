-- A text between quotes that goes wrong, or has no end.
use Rattle.std.proofs.Common.{◌≡◌, ℕ, suc, ◌+◌, ◌-◌, ◌<◌, ◌≤◌, Bool, true, false, ◌==◌, List, [], ◌∷◌, ◌++◌, length, take, refl, ap, subst, ◌∙◌, arith, inl, inr}
use Rattle.std.proofs.lemmas.Bool.{cases_Bool, eqb-true}
use Rattle.std.proofs.lemmas.Bool.Decides.{nat_tests}
use Rattle.std.proofs.lemmas.List.{length-append}
use Rattle.sy_lex.specs.declared.token.TokenKind.TheVariants as K
use Rattle.sy_lex.specs.declared.step.Step.TheVariants as S
use Rattle.sy_lex.specs.Bytes.{is_newline, is_quote, is_backslash, is_escaped}
use Rattle.sy_lex.specs.Machine.Cutting.{string_step}
use Rattle.sy_lex.proofs.Strings.{at_quote, over_byte, over_escape}

-- it goes wrong behind its first k bytes: so it does whatever comes behind the next one, and those k bytes can be completed
pub record GoesWrong (left at : ℕ) (bytes : List ℕ) (k : ℕ) : Type 0 where
  pub within : k ≤ length bytes
  pub stays : (front rest other : List ℕ) → bytes ≡ front ++ rest → length front ≡ k + 1 → string_step left at (front ++ other) ≡ S.Bad (at + k)
  pub more : List ℕ
  pub some : 0 < length more
  pub completes : string_step left at (take k bytes ++ more) ≡ S.Token K.Str (at + k + length more)

-- the same, of a step that is bad
abbrev pub StringBad : ℕ → ℕ → List ℕ → ℕ → Type 0
StringBad left at bytes m = (k : ℕ) × (m ≡ at + k) × GoesWrong left at bytes k

bad_is : (m n : ℕ) → S.Bad n ≡ S.Bad m → m ≡ n
bad_is m n e = cc

-- it goes wrong at its first byte
at_once : (left at m : ℕ) (bytes : List ℕ) → S.Bad at ≡ S.Bad m
    → ((b : ℕ) (rest other : List ℕ) → bytes ≡ b ∷ rest → string_step left at (b ∷ other) ≡ S.Bad at) → StringBad left at bytes m
at_once left at m bytes e stays = (
  0,
  bad_is m at e ∙ omega arith,
  record {
    within = omega arith;
    stays = front_stays;
    more = 34 ∷ [];
    some = omega arith;
    completes = at_quote left at [] ∙ ap (S.Token K.Str) (omega arith);
  },
)
  where
    front_stays : (front rest other : List ℕ) → bytes ≡ front ++ rest → length front ≡ 1 → string_step left at (front ++ other) ≡ S.Bad (at + 0)
    front_stays [] rest other is size = absurd (omega arith)
    front_stays (b ∷ []) rest other is size = stays b rest other is ∙ ap S.Bad (omega arith)
    front_stays (b ∷ c ∷ front) rest other is size = absurd (omega arith)

same_first : (a b : ℕ) (xs ys : List ℕ) → a ∷ xs ≡ b ∷ ys → (a ≡ b) × (xs ≡ ys)
same_first a b xs ys e = (cc, cc)

newline_bad : (left at b : ℕ) (other : List ℕ) → is_newline b ≡ true → string_step left at (b ∷ other) ≡ S.Bad at
unfolding string_step
newline_bad left at b [] h = rw h refl
newline_bad left at b (c ∷ other) h = rw h refl

full_bad : (left at b : ℕ) (other : List ℕ) → is_newline b ≡ false → is_quote b ≡ false → (left == 0) ≡ true → string_step left at (b ∷ other) ≡ S.Bad at
unfolding string_step
full_bad left at b [] h q z = rw (h, q, z) refl
full_bad left at b (c ∷ other) h q z = rw (h, q, z) refl

escape_bad : (left at b c : ℕ) (other : List ℕ) → is_newline b ≡ false → is_quote b ≡ false → (left == 0) ≡ false → is_backslash b ≡ true → is_escaped c ≡ false
    → string_step left at (b ∷ c ∷ other) ≡ S.Bad (at + 1)
unfolding string_step
escape_bad left at b c other h q z s e = rw (h, q, z, s, e) refl

-- a last byte of content, completed by a quote, or by two where it is a `\`
last_more : Bool → List ℕ
last_more true = 34 ∷ 34 ∷ []
last_more false = 34 ∷ []

last_some : (s : Bool) → 0 < length (last_more s)
unfolding last_more
last_some true = omega arith
last_some false = omega arith

last_completes : (left at b : ℕ) (s : Bool) → is_newline b ≡ false → is_quote b ≡ false → (left == 0) ≡ false → is_backslash b ≡ s
    → string_step left at (b ∷ last_more s) ≡ S.Token K.Str (at + 1 + length (last_more s))
unfolding string_step last_more
last_completes left at b true h q z s = rw (h, q, z, s) (ap (S.Token K.Str) (omega arith))
last_completes left at b false h q z s = rw (h, q, z, s) (ap (S.Token K.Str) (omega arith))

-- it goes wrong behind its first byte
behind_one : (left at m b : ℕ) (bytes : List ℕ) → is_newline b ≡ false → is_quote b ≡ false → (left == 0) ≡ false → S.Bad (at + 1) ≡ S.Bad m
    → ((c : ℕ) (rest other : List ℕ) → bytes ≡ c ∷ rest → string_step left at (b ∷ c ∷ other) ≡ S.Bad (at + 1)) → StringBad left at (b ∷ bytes) m
behind_one left at m b bytes h q z e stays = (
  1,
  bad_is m (at + 1) e,
  record {
    within = omega arith;
    stays = front_stays;
    more = last_more (is_backslash b);
    some = last_some (is_backslash b);
    completes = last_completes left at b (is_backslash b) h q z refl;
  },
)
  where
    front_stays : (front rest other : List ℕ) → b ∷ bytes ≡ front ++ rest → length front ≡ 2 → string_step left at (front ++ other) ≡ S.Bad (at + 1)
    front_stays [] rest other is size = absurd (omega arith)
    front_stays (a ∷ []) rest other is size = absurd (omega arith)
    front_stays (a ∷ c ∷ []) rest other is size =
        let parts = same_first b a bytes (c ∷ rest) is in
        subst (λ (x : ℕ). string_step left at (x ∷ c ∷ other) ≡ S.Bad (at + 1)) parts.0 (stays c rest other parts.1)
    front_stays (a ∷ c ∷ d ∷ front) rest other is size = absurd (omega arith)

-- it goes wrong behind a byte of content, or an escape, and more
with_byte : (left at m b : ℕ) (bytes : List ℕ) → is_newline b ≡ false → is_escaped b ≡ false → 0 < left → StringBad (left - 1) (at + 1) bytes m → StringBad left at (b ∷ bytes) m
with_byte left at m b bytes newline escaped room (k, is, w) = (
  k + 1,
  omega arith,
  record {
    within = omega (arith, w.within);
    stays = front_stays;
    more = w.more;
    some = w.some;
    completes = rw (one_more k) (
        over_byte left at b (take k bytes ++ w.more) newline escaped room (omega (arith, length-append (take k bytes) w.more, w.some))
        ∙ (w.completes ∙ ap (S.Token K.Str) (omega arith)));
  },
)
  where
    one_more : (k : ℕ) → take (k + 1) (b ∷ bytes) ≡ b ∷ take k bytes
    one_more k = let e : k + 1 ≡ suc k = omega arith in rw e refl

    front_stays : (front rest other : List ℕ) → b ∷ bytes ≡ front ++ rest → length front ≡ k + 1 + 1 → string_step left at (front ++ other) ≡ S.Bad (at + (k + 1))
    front_stays [] rest other is' size = absurd (omega arith)
    front_stays (a ∷ front) rest other is' size =
        let parts = same_first b a bytes (front ++ rest) is' in
        rw (← parts.0) (
        over_byte left at b (front ++ other) newline escaped room (omega (arith, length-append front other))
        ∙ (w.stays front rest other parts.1 (omega arith) ∙ ap S.Bad (omega arith)))

with_escape : (left at m c : ℕ) (bytes : List ℕ) → is_escaped c ≡ true → 0 < left → StringBad (left - 1) (at + 2) bytes m → StringBad left at (92 ∷ c ∷ bytes) m
with_escape left at m c bytes escaped room (k, is, w) = (
  k + 2,
  omega arith,
  record {
    within = omega (arith, w.within);
    stays = front_stays;
    more = w.more;
    some = w.some;
    completes = rw two_more (over_escape left at c (take k bytes ++ w.more) escaped room ∙ (w.completes ∙ ap (S.Token K.Str) (omega arith)));
  },
)
  where
    two_more : take (k + 2) (92 ∷ c ∷ bytes) ≡ 92 ∷ c ∷ take k bytes
    two_more = let e : k + 2 ≡ suc (suc k) = omega arith in rw e refl

    front_stays : (front rest other : List ℕ) → 92 ∷ c ∷ bytes ≡ front ++ rest → length front ≡ k + 2 + 1 → string_step left at (front ++ other) ≡ S.Bad (at + (k + 2))
    front_stays [] rest other is' size = absurd (omega arith)
    front_stays (a ∷ []) rest other is' size = absurd (omega arith)
    front_stays (a ∷ d ∷ front) rest other is' size =
        let parts = same_first 92 a (c ∷ bytes) (d ∷ front ++ rest) is' in
        let parts' = same_first c d bytes (front ++ rest) parts.1 in
        rw (← parts.0, ← parts'.0) (over_escape left at c (front ++ other) escaped room ∙ (w.stays front rest other parts'.1 (omega arith) ∙ ap S.Bad (omega arith)))

pub string_bad : (left at m : ℕ) (bytes : List ℕ) → string_step left at bytes ≡ S.Bad m → StringBad left at bytes m
unfolding string_step
string_bad left at m [] e = at_once left at m [] e (λ b rest other is. absurd cc)
string_bad left at m (b ∷ []) e = elim (cases_Bool (is_newline b)) [
  | inl h ↦ at_once left at m (b ∷ []) (rw h at e) (λ c rest other is. subst (λ (x : ℕ). string_step left at (x ∷ other) ≡ S.Bad at) (same_first b c [] rest is).0 (newline_bad left at b other h))
  | inr h ↦ elim (cases_Bool (is_quote b)) [
    | inl q ↦ let e' = rw (h, q) at e in absurd cc
    | inr q ↦ elim (cases_Bool (left == 0)) [
      | inl z ↦ at_once left at m (b ∷ []) (rw (h, q, z) at e) (λ c rest other is. subst (λ (x : ℕ). string_step left at (x ∷ other) ≡ S.Bad at) (same_first b c [] rest is).0 (full_bad left at b other h q z))
      | inr z ↦ behind_one left at m b [] h q z (rw (h, q, z) at e) (λ c rest other is. absurd cc)
    ]
  ]
]
string_bad left at m (b ∷ c ∷ bytes) e = elim (cases_Bool (is_newline b)) [
  | inl h ↦ at_once left at m (b ∷ c ∷ bytes) (rw h at e) (λ d rest other is. subst (λ (x : ℕ). string_step left at (x ∷ other) ≡ S.Bad at) (same_first b d (c ∷ bytes) rest is).0 (newline_bad left at b other h))
  | inr h ↦ elim (cases_Bool (is_quote b)) [
    | inl q ↦ let e' = rw (h, q) at e in absurd cc
    | inr q ↦ elim (cases_Bool (left == 0)) [
      | inl z ↦ at_once left at m (b ∷ c ∷ bytes) (rw (h, q, z) at e) (λ d rest other is. subst (λ (x : ℕ). string_step left at (x ∷ other) ≡ S.Bad at) (same_first b d (c ∷ bytes) rest is).0 (full_bad left at b other h q z))
      | inr z ↦ elim (cases_Bool (is_backslash b)) [
        | inl s ↦ elim (cases_Bool (is_escaped c)) [
          | inl x ↦
              let more = string_bad (left - 1) (at + 2) m bytes (rw (h, q, z, s, x) at e) in
              rw (eqb-true b 92 s) (with_escape left at m c bytes x (grind (arith, nat_tests)) more)
          | inr x ↦ behind_one left at m b (c ∷ bytes) h q z (rw (h, q, z, s, x) at e) (λ d rest other is. subst (λ (y : ℕ). string_step left at (b ∷ y ∷ other) ≡ S.Bad (at + 1)) (same_first c d bytes rest is).0 (escape_bad left at b c other h q z s x))
        ]
        | inr s ↦ with_byte left at m b (c ∷ bytes) h (rw (q, s) refl) (grind (arith, nat_tests)) (string_bad (left - 1) (at + 1) m (c ∷ bytes) (rw (h, q, z, s) at e))
      ]
    ]
  ]
]
