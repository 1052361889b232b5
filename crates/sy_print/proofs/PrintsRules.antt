-- The rules that are made of rules that print print too.
use Rattle.std.proofs.Common.{◌≡◌, inl, inr, ℕ, List, [], ◌∷◌, ◌++◌, refl, sym, subst, ◌∙◌, append_assoc, map, length, ◌≤◌, ap, append-nil}
use Rattle.std.proofs.lemmas.List.{length-map}
use Rattle.std.specs.List.{flat_map}
use Rattle.sy_base.specs.declared.refusal.Place.{Place}
use Rattle.sy_lex.specs.declared.keyword.Keyword.{Keyword}
use Rattle.sy_lex.specs.declared.sign.Sign.{Sign}
use Rattle.sy_lex.specs.declared.sign.Sign.TheVariants.{Comma}
use Rattle.sy_lex.specs.Lexemes.{Lexeme}
use Rattle.sy_reader.specs.Grammar.{Rule, Many, spelled, ◌>>=◌, ◌or◌, keyword, many, up_to, before, behind, between, listed, maybe_listed, ended}
use Rattle.sy_print.specs.CanonicalText as T
use Rattle.sy_print.specs.Equality.{here}
use Rattle.sy_print.proofs.PrintedWords.{Word, bytes_of, AreWords, AreTokens}
use Rattle.sy_print.proofs.Prints.{split_reads, IsText, no_words, ◌&◌, Says, step, Printed, printed, Within, weaker, Prints, sign_of, semicolon_of}

-- ---- a rule part by part

-- What stands behind the parts x of a rule. These print as `so_far x`, and the words of what stands behind them are
-- spelled behind all parts of the same plain form.
pub record Follows {A C : Type 0} (next : A → Rule C) (so_far : A → List ℕ) (plain : A → A)
    (text : C → List ℕ) (flat : C → C) : Type 0 where
  pub at : (x : A) (from : List Lexeme) (z : C) (rest : List Lexeme) → AreTokens from → next x from z rest
      → (ws : List Word) × AreWords ws × (so_far x ++ bytes_of ws ≡ text z)
      × ((y : A) → plain y ≡ plain x → Says (next y) flat z ws) × AreTokens rest

pub as_text : (ws : List Word) → AreWords ws → IsText ws (bytes_of ws)
as_text ws are = record { words = are; bytes = refl }

-- a first part
pub first_part : {A C : Type 0} {R : Rule A} {next : A → Rule C} {t : A → List ℕ} {plain : A → A}
    {text : C → List ℕ} {flat : C → C}
    → Prints R t plain → Follows next t plain text flat → Prints (R >>= next) text flat
first_part {A} {C} {R} {next} {t} {plain} {text} {flat} first more = record {
  at = λ from z rest tokens d.
      let a = first.at from d.0 d.1 tokens d.2 in
      let b = more.at d.0 d.1 z rest a.1 d.3 in
      (printed (a.0.are & as_text b.0 b.1) b.2 (step a.0.says b.3), b.4);
}

-- one more part
pub next_part : {A B C : Type 0} {R : Rule B} {next : A → B → Rule C} {so_far : A → List ℕ} {plain : A → A}
    {t : B → List ℕ} {same : B → B} {text : C → List ℕ} {flat : C → C}
    → Prints R t same
    → Follows {A = A × B} (λ x. next x.0 x.1) (λ x. so_far x.0 ++ t x.1) (λ x. (plain x.0, same x.1)) text flat
    → Follows (λ x. R >>= next x) so_far plain text flat
next_part {A} {B} {C} {R} {next} {so_far} {plain} {t} {same} {text} {flat} part more = record {
  at = λ x from z rest tokens d.
      let a = part.at from d.0 d.1 tokens d.2 in
      let b = more.at (x, d.0) d.1 z rest a.1 d.3 in
      let is = a.0.are & as_text b.0 b.1 in
      let bytes = ap (λ bytes. so_far x ++ bytes) is.bytes ∙ sym (append_assoc (so_far x) (t d.0) _) ∙ b.2 in
      (a.0.words ++ b.0, is.words, bytes, λ y e. step a.0.says (λ u f. b.3 (y, u) (λ i. (e i, f i))), b.4);
}

-- one more part that isn't kept
pub word_part : {A B C : Type 0} {R : Rule B} {next : A → Rule C} {so_far : A → List ℕ} {plain : A → A}
    {above : List ℕ} {same : B → B} {text : C → List ℕ} {flat : C → C}
    → Prints R (λ _. above) same → Follows next (λ x. so_far x ++ above) plain text flat
    → Follows (λ x. R >>= λ _. next x) so_far plain text flat
word_part {A} {B} {C} {R} {next} {so_far} {plain} {above} {same} {text} {flat} part more = record {
  at = λ x from z rest tokens d.
      let a = part.at from d.0 d.1 tokens d.2 in
      let b = more.at x d.1 z rest a.1 d.3 in
      let is = a.0.are & as_text b.0 b.1 in
      let bytes = ap (λ bytes. so_far x ++ bytes) is.bytes ∙ sym (append_assoc (so_far x) above _) ∙ b.2 in
      (a.0.words ++ b.0, is.words, bytes, λ y e. step a.0.says (λ _ _. b.3 y e), b.4);
}

-- the tree of all parts
pub all_parts : {A C : Type 0} {f : A → C} {so_far : A → List ℕ} {plain : A → A} {text : C → List ℕ} {flat : C → C}
    → ((x : A) → so_far x ≡ text (f x)) → ((x y : A) → plain x ≡ plain y → flat (f x) ≡ flat (f y))
    → Follows (λ x. spelled (f x)) so_far plain text flat
all_parts {A} {C} {f} {so_far} {plain} {text} {flat} whole same = record {
  at = λ x from z rest tokens d. (
    [],
    tt,
    append-nil (so_far x) ∙ whole x ∙ ap text d.0,
    λ y e. record { tree = λ from rest r. (f y, (refl, r), same y x e ∙ ap flat d.0) },
    subst AreTokens d.1 tokens,
  );
}

pub of_one : {A C : Type 0} {R : Rule A} {f : A → C} {t : A → List ℕ} {plain : A → A}
    {text : C → List ℕ} {flat : C → C}
    → Prints R t plain → ((x : A) → t x ≡ text (f x)) → ((x y : A) → plain x ≡ plain y → flat (f x) ≡ flat (f y))
    → Prints (R >>= λ x. spelled (f x)) text flat
of_one p whole same = first_part p (all_parts whole same)

-- ---- combinators

-- one rule and then another, of which only the second is kept
pub then_ok : {A B : Type 0} {H : Rule B} {above : List ℕ} {same : B → B}
    {R : Rule A} {t : A → List ℕ} {plain : A → A}
    → Prints H (λ _. above) same → Prints R t plain → Prints (H >>= λ _. R) (λ x. above ++ t x) plain
then_ok {A} {B} {H} {above} {same} {R} {t} {plain} h p = record {
  at = λ from x rest tokens d.
      let a = h.at from d.0 d.1 tokens d.2 in
      let b = p.at d.1 x rest a.1 d.3 in
      (printed (a.0.are & b.0.are) refl (step a.0.says (λ _ _. b.0.says)), b.1);
}

pub behind_ok : {A : Type 0} {R : Rule A} {t : A → List ℕ} {plain : A → A} (s : Sign)
    → Prints R t plain → Prints (behind s R) (λ x. T.sign s ++ t x) plain
behind_ok s p = then_ok (sign_of s) p

pub before_ok : {A : Type 0} {R : Rule A} {t : A → List ℕ} {plain : A → A} (s : Sign)
    → Prints R t plain → Prints (before R s) (λ x. t x ++ T.sign s) plain
before_ok s p = first_part p (word_part (sign_of s) (all_parts (λ _. refl) (λ _ _ e. e)))

-- a rule that spells the same
pub same_rule : {A : Type 0} {R Q : Rule A} {t : A → List ℕ} {plain : A → A}
    → Within Q R → Within R Q → Prints R t plain → Prints Q t plain
same_rule {A} {R} {Q} {t} {plain} to back p = record {
  at = λ from x rest tokens d. let a = p.at from x rest tokens (to from x rest d) in (weaker back a.0, a.1);
}

-- another text for what the rule spells
pub with_text : {A : Type 0} {R : Rule A} {t u : A → List ℕ} {plain : A → A}
    → ((from : List Lexeme) (x : A) (rest : List Lexeme) → R from x rest → t x ≡ u x)
    → Prints R t plain → Prints R u plain
with_text {A} {R} {t} {u} {plain} e p = record {
  at = λ from x rest tokens d. let a = p.at from x rest tokens d in (printed a.0.are (e from x rest d) a.0.says, a.1);
}

pub between_ok : {A : Type 0} {R : Rule A} {t : A → List ℕ} {plain : A → A} (s e : Sign)
    → Prints R t plain → Prints (between s R e) (λ x. T.sign s ++ t x ++ T.sign e) plain
between_ok {A} {R} {t} {plain} s e p =
    with_text (λ _ x _ _. sym (append_assoc (T.sign s) (t x) (T.sign e))) (behind_ok s (before_ok e p))

pub or_ok : {A : Type 0} {R Q : Rule A} {t : A → List ℕ} {plain : A → A}
    → Prints R t plain → Prints Q t plain → Prints (R or Q) t plain
or_ok {A} {R} {Q} {t} {plain} p q = record {
  at = λ from x rest tokens d. elim d [
    | inl d ↦ (let a = p.at from x rest tokens d in (weaker (λ _ _ _ d. inl d) a.0, a.1))
    | inr d ↦ (let a = q.at from x rest tokens d in (weaker (λ _ _ _ d. inr d) a.0, a.1))
  ];
}

pub nothing_ok : {A : Type 0} {x : A} {t : A → List ℕ} {plain : A → A} → [] ≡ t x → Prints (spelled x) t plain
nothing_ok {A} {x} {t} {plain} e = record {
  at = λ from z rest tokens d. (
    printed no_words (e ∙ ap t d.0) (record { tree = λ from rest r. (x, (refl, r), ap plain d.0) }),
    subst AreTokens d.1 tokens,
  );
}

pub many_ok : {A : Type 0} {R : Rule A} {t : A → List ℕ} {plain : A → A}
    → Prints R t plain → Prints (many R) (flat_map t) (map plain)
many_ok {A} {R} {t} {plain} p = record { at = go }
  where
    some_more : {x : A} {xs : List A} → Printed R plain x (t x) → Printed (many R) (map plain) xs (flat_map t xs)
        → Printed (many R) (map plain) (x ∷ xs) (flat_map t (x ∷ xs))
    some_more {x} {xs} a b = printed (a.are & b.are) refl (record {
      tree = λ from rest r.
          let s = split_reads a.words b.words from rest r in
          let y = a.says.tree from s.0 s.1 in
          let ys = b.says.tree s.0 rest s.2 in
          (y.0 ∷ ys.0, Many.more from y.0 s.0 ys.0 rest y.1 ys.1, λ i. y.2 i ∷ ys.2 i);
    })

    no_more : Printed (many R) (map plain) [] []
    no_more = printed no_words refl (record {
      tree = λ from rest r. ([], subst (λ rest. Many R from [] rest) r (Many.none from), refl);
    })

    go : (from : List Lexeme) (xs : List A) (rest : List Lexeme) → AreTokens from → Many R from xs rest
        → Printed (many R) (map plain) xs (flat_map t xs) × AreTokens rest
    go from xs rest tokens (Many.none end) = (no_more, tokens)
    go from xs rest tokens (Many.more start x mid ys end d ds) =
        let a = p.at start x mid tokens d in
        let b = go mid ys end a.1 ds in
        (some_more a.0 b.0, b.1)

pub up_to_ok : {A : Type 0} {R : Rule A} {t : A → List ℕ} {plain : A → A} (most : ℕ)
    → Prints R t plain → Prints (up_to most R) (flat_map t) (map plain)
up_to_ok {A} {R} {t} {plain} most p = record {
  at = λ from xs rest tokens d.
      let a = (many_ok p).at from xs rest tokens d.0 in (
        printed a.0.are refl (record {
          tree = λ from rest r.
              let b = a.0.says.tree from rest r in
              let same : length b.0 ≡ length xs = sym (length-map b.0 plain) ∙ ap length b.2 ∙ length-map xs plain in
              (b.0, (b.1, subst (λ n. n ≤ most) (sym same) d.1), b.2);
        }),
        a.1,
      );
}

pub listed_ok : {A : Type 0} {R : Rule A} {t : A → List ℕ} {plain : A → A}
    → Prints R t plain → Prints (listed R) (T.listed t) (map plain)
listed_ok p =
    first_part p (next_part (many_ok (behind_ok Comma p)) (all_parts (λ _. refl) (λ _ _ e. λ i. (e i).0 ∷ (e i).1)))

pub ended_ok : {A : Type 0} {R : Rule A} {t : A → List ℕ} {plain : A → A}
    → Prints R t plain → Prints (ended R) (T.lines t) (map plain)
ended_ok p = many_ok (first_part p (word_part semicolon_of (all_parts (λ _. refl) (λ _ _ e. e))))

-- a list that is left out where nothing is in it
pub optional_ok : {A : Type 0} {R : Rule (List A)} {t text : List A → List ℕ} {flat : List A → List A}
    → Prints R t flat → [] ≡ text [] → ((x : A) (xs : List A) → t (x ∷ xs) ≡ text (x ∷ xs))
    → Prints (R or spelled []) text flat
optional_ok {A} {R} {t} {text} {flat} p none some = record {
  at = λ from xs rest tokens d. elim d [
    | inl d ↦ (let a = p.at from xs rest tokens d in (go xs a.0, a.1))
    | inr d ↦ (subst (λ xs. Printed (R or spelled []) flat xs (text xs)) d.0 nothing, subst AreTokens d.1 tokens)
  ];
}
  where
    nothing : Printed (R or spelled []) flat [] (text [])
    nothing = printed no_words none (record { tree = λ from rest r. ([], inr (refl, r), refl) })

    go : (xs : List A) → Printed R flat xs (t xs) → Printed (R or spelled []) flat xs (text xs)
    go [] a = nothing
    go (x ∷ xs) a = let b = weaker (λ _ _ _ d. inl d) a in printed b.are (some x xs) b.says

pub maybe_listed_ok : {A : Type 0} {R : Rule A} {t : A → List ℕ} {plain : A → A}
    → Prints R t plain → Prints (maybe_listed R) (T.listed t) (map plain)
maybe_listed_ok p = optional_ok (listed_ok p) refl (λ _ _. refl)

-- the word of a choice, and where it stands
pub picked_ok : {A : Type 0} {text : Keyword → List ℕ} {flat : A → A}
    (key : A → Keyword) (place : A → Place) (put : A → Place → A)
    → ((k : Keyword) → Prints (keyword k) (λ _. text k) (λ _. here))
    → ((x : A) (p : Place) → (key x ≡ key (put x p)) × (p ≡ place (put x p)) × (flat (put x p) ≡ flat x))
    → Prints (λ from x rest. keyword (key x) from (place x) rest) (λ x. text (key x)) flat
picked_ok {A} {text} {flat} key place put words same = record {
  at = λ from x rest tokens d.
      let a = (words (key x)).at from (place x) rest tokens d in (
        printed a.0.are refl (record {
          tree = λ from rest r.
              let b = a.0.says.tree from rest r in
              let e = same x b.0 in
              let moved = subst (λ k. keyword k from b.0 rest) e.0 b.1 in
              (put x b.0, subst (λ p. keyword (key (put x b.0)) from p rest) e.1 moved, e.2);
        }),
        a.1,
      );
}
