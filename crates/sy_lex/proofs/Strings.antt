-- Reading a text between quotes gives the text that its form says, and no other.
use Rattle.std.proofs.Common.{◌≡◌, ℕ, ◌+◌, ◌-◌, ◌<◌, ◌≤◌, true, false, ◌==◌, List, [], ◌∷◌, ◌++◌, length, take, drop, refl, sym, ap, ◌∙◌, append_assoc, arith, inl, inr, length-append}
use Rattle.std.proofs.lemmas.Bool.{cases_Bool, eqb-true}
use Rattle.std.proofs.lemmas.Bool.Decides.{nat_tests}
use Rattle.std.proofs.lemmas.List.{take-append-drop, length-take-le}
use Rattle.sy_lex.specs.declared.token.TokenKind.TheVariants as K
use Rattle.sy_lex.specs.declared.step.Step.{Step}
use Rattle.sy_lex.specs.declared.step.Step.TheVariants as S
use Rattle.sy_lex.specs.Bytes.{is_newline, is_quote, is_backslash, is_escaped}
use Rattle.sy_lex.specs.Forms as f
use Rattle.sy_lex.specs.Forms.{HasContent, IsString}
use Rattle.sy_lex.specs.Machine.Cutting.{string_step, step_at}

pub over_escape : (left at b : ℕ) (bytes : List ℕ) → is_escaped b ≡ true → 0 < left
    → string_step left at (92 ∷ b ∷ bytes) ≡ string_step (left - 1) (at + 2) bytes
unfolding string_step
over_escape left at b bytes escaped some = grind (arith, nat_tests)

pub over_byte : (left at b : ℕ) (bytes : List ℕ) → is_newline b ≡ false → is_escaped b ≡ false → 0 < left
    → 0 < length bytes → string_step left at (b ∷ bytes) ≡ string_step (left - 1) (at + 1) bytes
unfolding string_step
over_byte left at b [] newline escaped some more = absurd (omega arith)
over_byte left at b (c ∷ bytes) newline escaped some more = grind (arith, nat_tests)

pub at_quote : (left at : ℕ) (bytes : List ℕ) → string_step left at (34 ∷ bytes) ≡ S.Token K.Str (at + 1)
unfolding string_step
at_quote left at [] = refl
at_quote left at (c ∷ bytes) = refl

-- what has content is read to its quote
string_reads : (inside content rest : List ℕ) (left at : ℕ) → HasContent inside content → length content ≤ left
    → string_step left at (inside ++ 34 ∷ rest) ≡ S.Token K.Str (at + length inside + 1)
string_reads inside content rest left at f.empty most = at_quote left at rest ∙ ap (S.Token K.Str) (omega arith)
string_reads inside content rest left at (f.escape b bytes others escaped more) most =
    over_escape left at b (bytes ++ 34 ∷ rest) escaped (omega arith)
    ∙ string_reads bytes others rest (left - 1) (at + 2) more (omega arith) ∙ ap (S.Token K.Str) (omega arith)
string_reads inside content rest left at (f.byte b bytes others newline escaped more) most =
    over_byte left at b (bytes ++ 34 ∷ rest) newline escaped (omega arith) (omega (arith, length-append bytes (34 ∷ rest)))
    ∙ string_reads bytes others rest (left - 1) (at + 1) more (omega arith) ∙ ap (S.Token K.Str) (omega arith)

-- a text between quotes at the front is what is read there
pub string_exact : (bytes : List ℕ) (m : ℕ) → m ≤ length bytes → IsString (take m bytes)
    → step_at bytes ≡ S.Token K.Str m
string_exact bytes m within string =
    let whole : bytes ≡ 34 ∷ string.inside ++ 34 ∷ drop m bytes = sym (take-append-drop m bytes)
    ∙ ap (λ (front : List ℕ). front ++ drop m bytes) string.quoted ∙ simp append_assoc in
    let size : m ≡ 1 + length string.inside + 1 = sym (length-take-le m bytes within) ∙ ap length string.quoted
    ∙ omega (arith, length-append string.inside (34 ∷ [])) in
    ap step_at whole ∙ string_reads string.inside string.content (drop m bytes) 256 1 string.holds string.most
    ∙ ap (S.Token K.Str) (sym size)

-- what was read: up to m bytes, of which so many were read before these bytes
pub record Quoted (left at : ℕ) (bytes : List ℕ) (m : ℕ) : Type 0 where
  pub inside : List ℕ
  pub content : List ℕ
  pub rest : List ℕ
  pub whole : bytes ≡ inside ++ 34 ∷ rest
  pub holds : HasContent inside content
  pub most : length content ≤ left
  pub size : m ≡ at + length inside + 1

abbrev pub Reads : ℕ → ℕ → List ℕ → Step → Type 0
Reads left at bytes (S.Token kind m) = (kind ≡ K.Str) × Quoted left at bytes m
Reads left at bytes (S.Skip m) = ⊥
Reads left at bytes (S.Bad m) = Unit {0}

with_byte : (s : Step) (left at b : ℕ) (bytes : List ℕ) → is_newline b ≡ false → is_escaped b ≡ false → 0 < left
    → Reads (left - 1) (at + 1) bytes s → Reads left at (b ∷ bytes) s
with_byte (S.Token kind m) left at b bytes newline escaped some (is, q) = (
  is,
  record {
    inside = b ∷ q.inside;
    content = b ∷ q.content;
    rest = q.rest;
    whole = ap (λ (more : List ℕ). b ∷ more) q.whole;
    holds = f.byte b q.inside q.content newline escaped q.holds;
    most = omega (arith, q.most);
    size = omega (arith, q.size);
  },
)
with_byte (S.Skip m) left at b bytes newline escaped some r = r
with_byte (S.Bad m) left at b bytes newline escaped some r = tt

with_escape : (s : Step) (left at b : ℕ) (bytes : List ℕ) → is_escaped b ≡ true → 0 < left
    → Reads (left - 1) (at + 2) bytes s → Reads left at (92 ∷ b ∷ bytes) s
with_escape (S.Token kind m) left at b bytes escaped some (is, q) = (
  is,
  record {
    inside = 92 ∷ b ∷ q.inside;
    content = b ∷ q.content;
    rest = q.rest;
    whole = ap (λ (more : List ℕ). 92 ∷ b ∷ more) q.whole;
    holds = f.escape b q.inside q.content escaped q.holds;
    most = omega (arith, q.most);
    size = omega (arith, q.size);
  },
)
with_escape (S.Skip m) left at b bytes escaped some r = r
with_escape (S.Bad m) left at b bytes escaped some r = tt

with_quote : (left at b : ℕ) (bytes : List ℕ) → is_quote b ≡ true → Reads left at (b ∷ bytes) (S.Token K.Str (at + 1))
with_quote left at b bytes quote = (
  refl,
  record {
    inside = [];
    content = [];
    rest = bytes;
    whole = ap (λ (c : ℕ). c ∷ bytes) (eqb-true b 34 quote);
    holds = f.empty;
    most = omega arith;
    size = omega arith;
  },
)

pub reads : (left at : ℕ) (bytes : List ℕ) → Reads left at bytes (string_step left at bytes)
unfolding string_step
reads left at [] = tt
reads left at (b ∷ []) = elim (cases_Bool (is_newline b)) [
  | inl h ↦ rw h tt
  | inr h ↦ rw h (elim (cases_Bool (is_quote b)) [
    | inl q ↦ rw q (with_quote left at b [] q)
    | inr q ↦ rw q (elim (cases_Bool (left == 0)) [ inl z ↦ rw z tt | inr z ↦ rw z tt ])
  ])
]
reads left at (b ∷ c ∷ bytes) = elim (cases_Bool (is_newline b)) [
  | inl h ↦ rw h tt
  | inr h ↦ rw h (elim (cases_Bool (is_quote b)) [
    | inl q ↦ rw q (with_quote left at b (c ∷ bytes) q)
    | inr q ↦ rw q (elim (cases_Bool (left == 0)) [
      | inl z ↦ rw z tt
      | inr z ↦ rw z (elim (cases_Bool (is_backslash b)) [
        | inl s ↦ rw s (elim (cases_Bool (is_escaped c)) [
          | inl e ↦
              let more = reads (left - 1) (at + 2) bytes in
              rw (e, eqb-true b 92 s) (with_escape _ left at c bytes e (grind (arith, nat_tests)) more)
          | inr e ↦ rw e tt
        ])
        | inr s ↦ rw s (with_byte _ left at b (c ∷ bytes) h (rw (q, s) refl) (grind (arith, nat_tests)) (reads (left - 1) (at + 1) (c ∷ bytes)))
      ])
    ])
  ])
]
