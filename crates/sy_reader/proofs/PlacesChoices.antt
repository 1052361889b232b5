-- Choices and lists, and where a text goes wrong in them.
use Rattle.std.proofs.Common.{◌≡◌, ◌⊎◌, inl, inr, ℕ, ◌≤◌, Bool, true, false, if◌then◌else◌, List, [], ◌∷◌, ◌++◌, length, Ok, Err, refl, sym, subst, ◌∙◌, arith}
use Rattle.sy_lex.specs.declared.token.TokenKind.{TokenKind}
use Rattle.sy_lex.specs.Lexemes.{Lexeme}
use Rattle.sy_reader.specs.Grammar as grammar
use Rattle.sy_reader.specs.Grammar.{Rule, spelled}
use Rattle.sy_reader.specs.Machine.Reading.{Read, Reading, fail, is_kind, begins_with, by_next}
use Rattle.sy_reader.proofs.Agree.{Sound, chosen}
use Rattle.sy_reader.proofs.Places.{Filled, Used, Grown, left, Alike, beyond, Reaches, Places, grown_here, failed_alike, reaches_wider, filled_wider, used_wider, spelled_places}

-- the choices of a rule, each with what stands for it
pub record Ways {A : Type 0} (R : List Lexeme → A → List Lexeme → Type 0) (choice : TokenKind → List Lexeme → Read A) : Type 1 where
  pub Here : TokenKind → Type 0
  pub each : (s : TokenKind) → Here s → Reaches R (choice s)
  pub spans : (from : List Lexeme) (x : A) (rest : List Lexeme) → R from x rest → Used R from x rest

abbrev pub way : {A : Type 0} {R : Rule A} {r : Reading A} {choice : TokenKind → Reading A} → Places R r → Ways R choice
way {R = R} {r = r} {choice = choice} one = record {
  Here = λ s. choice s ≡ r;
  each = λ s here. subst (λ (reading : Reading _). Reaches R reading) (sym here) one.reaches;
  spans = one.spans;
}

-- a choice among words, each with a tag
abbrev pub tagged_ways : {A T : Type 0} {R : T → Rule A} {choice : TokenKind → Reading A} (r : T → Reading A) → ((t : T) → Places (R t) (r t)) → Ways (λ from x rest. (t : T) × R t from x rest) choice
tagged_ways {A = A} {T = T} {R = R} {choice = choice} r each = record {
  Here = λ s. (t : T) × (choice s ≡ r t);
  each = λ s here. subst (λ (reading : Reading _). Reaches (λ from x rest. (t : T) × R t from x rest) reading) (sym here.1) (reaches_wider (λ from x rest d. (here.0, d)) (each here.0).reaches);
  spans = λ from x rest d. used_wider (λ from x rest e. (d.0, e)) ((each d.0).spans from x rest d.1);
}

infixl 8 ◌or◌
abbrev pub ◌or◌ : {A : Type 0} {R : Rule A} {Q : Rule A} {choice : TokenKind → Reading A} → Ways R choice → Ways Q choice → Ways (grammar.◌or◌ R Q) choice
◌or◌ {R = R} {Q = Q} {choice = choice} one other = record { Here = λ s. one.Here s ⊎ other.Here s; each = eachs; spans = spanss }
  where
    eachs : (s : TokenKind) → one.Here s ⊎ other.Here s → Reaches (grammar.◌or◌ R Q) (choice s)
    eachs s (inl here) = reaches_wider (λ from x rest d. inl d) (one.each s here)
    eachs s (inr here) = reaches_wider (λ from x rest d. inr d) (other.each s here)

    spanss : (from : List Lexeme) (x : _) (rest : List Lexeme) → grammar.◌or◌ R Q from x rest → Used (grammar.◌or◌ R Q) from x rest
    spanss from x rest (inl d) = used_wider (λ from x rest d. inl d) (one.spans from x rest d)
    spanss from x rest (inr d) = used_wider (λ from x rest d. inr d) (other.spans from x rest d)

-- where nothing fits
pub fail_reaches : {A : Type 0} {R : Rule A} → Filled R → Reaches R fail
fail_reaches f = record {
  sound = λ from x rest e. absurd cc;
  grows = λ from n e. (let size : length from ≡ n = cc in grown_here from n size f);
  within = λ from. omega arith;
  local = λ c a b. failed_alike a b _ _ c refl refl;
}

-- at each kind one of them is read, or none
pub by_next_places : {A : Type 0} {R : Rule A} {choice : TokenKind → Reading A} (ways : Ways R choice) → ((s : TokenKind) → ways.Here s ⊎ (choice s ≡ fail)) → Filled R → Places R (by_next choice)
by_next_places {R = R} {choice = choice} ways covers f = record { reaches = record { sound = sounds; grows = grow; within = inside; local = alike }; spans = ways.spans; filled = f }
  where
    of : (s : TokenKind) → ways.Here s ⊎ (choice s ≡ fail) → Reaches R (choice s)
    of s (inl here) = ways.each s here
    of s (inr fails) = subst (λ (reading : Reading _). Reaches R reading) (sym fails) (fail_reaches f)

    at : (s : TokenKind) → Reaches R (choice s)
    at s = of s (covers s)

    sounds : Sound R (by_next choice)
    sounds [] x rest e = absurd cc
    sounds (l ∷ ls) x rest e = (at l.kind).sound (l ∷ ls) x rest e

    grow : (from : List Lexeme) (n : ℕ) → by_next choice from ≡ Err n → Grown R from n
    grow [] n e = let size : 0 ≡ n = cc in grown_here [] n size f
    grow (l ∷ ls) n e = (at l.kind).grows (l ∷ ls) n e

    inside : (from : List Lexeme) → left (by_next choice from) ≤ length from
    inside [] = omega arith
    inside (l ∷ ls) = (at l.kind).within (l ∷ ls)

    alike : (c a b : List Lexeme) → Alike a b (by_next choice (c ++ a)) (by_next choice (c ++ b))
    alike [] a b = beyond (inside a)
    alike (l ∷ ls) a b = (at l.kind).local (l ∷ ls) a b

-- one reading where a kind is next, and else another
pub if_reaches : {A : Type 0} {R : Rule A} {r q : Reading A} (kind : TokenKind) → Reaches R r → Reaches R q → Reaches R (λ from. if begins_with kind from then r from else q from)
if_reaches {A} {R = R} {r = r} {q = q} kind one other = record { sound = sounds; grows = λ from n e. grow from n (begins_with kind from) e; within = λ from. inside from (begins_with kind from); local = alike }
  where
    sounds : Sound R (λ from. if begins_with kind from then r from else q from)
    sounds from x rest e = chosen (begins_with kind from) (r from) (q from) x rest (R from x rest) e (λ e'. one.sound from x rest e') (λ b e'. other.sound from x rest e')

    grow : (from : List Lexeme) (n : ℕ) (test : Bool) → if test then r from else q from ≡ Err n → Grown R from n
    grow from n true e = one.grows from n e
    grow from n false e = other.grows from n e

    inside : (from : List Lexeme) (test : Bool) → left (if test then r from else q from) ≤ length from
    inside from true = one.within from
    inside from false = other.within from

    at : (l : Lexeme) (ls a b : List Lexeme) (test : Bool) → Alike a b (if test then r (l ∷ ls ++ a) else q (l ∷ ls ++ a)) (if test then r (l ∷ ls ++ b) else q (l ∷ ls ++ b))
    at l ls a b true = one.local (l ∷ ls) a b
    at l ls a b false = other.local (l ∷ ls) a b

    alike : (c a b : List Lexeme) → Alike a b (if begins_with kind (c ++ a) then r (c ++ a) else q (c ++ a)) (if begins_with kind (c ++ b) then r (c ++ b) else q (c ++ b))
    alike [] a b = beyond (inside a (begins_with kind a))
    alike (l ∷ ls) a b = at l ls a b (is_kind l.kind kind)

abbrev pub Spanned : {A : Type 0} → Rule A → Type 0
Spanned R = (from : List Lexeme) (x : _) (rest : List Lexeme) → R from x rest → Used R from x rest

pub or_spans : {A : Type 0} {R : Rule A} {Q : Rule A} → Spanned R → Spanned Q → Spanned (grammar.◌or◌ R Q)
or_spans one other from x rest (inl d) = used_wider (λ from x rest d. inl d) (one from x rest d)
or_spans one other from x rest (inr d) = used_wider (λ from x rest d. inr d) (other from x rest d)

-- one where a kind is next, and else the other
pub either_places : {A : Type 0} {R : Rule A} {Q : Rule A} {r q : Reading A} (kind : TokenKind) → Places R r → Places Q q → Places (grammar.◌or◌ R Q) (λ from. if begins_with kind from then q from else r from)
either_places kind one other = record {
  reaches = if_reaches kind (reaches_wider (λ from x rest d. inr d) other.reaches) (reaches_wider (λ from x rest d. inl d) one.reaches);
  spans = or_spans one.spans other.spans;
  filled = filled_wider (λ from x rest d. inl d) one.filled;
}

-- the same, with the first where it is next
pub first_places : {A : Type 0} {R : Rule A} {Q : Rule A} {r q : Reading A} (kind : TokenKind) → Places R r → Places Q q → Places (grammar.◌or◌ R Q) (λ from. if begins_with kind from then r from else q from)
first_places kind one other = record {
  reaches = if_reaches kind (reaches_wider (λ from x rest d. inl d) one.reaches) (reaches_wider (λ from x rest d. inr d) other.reaches);
  spans = or_spans one.spans other.spans;
  filled = filled_wider (λ from x rest d. inl d) one.filled;
}

-- what begins with a kind, or nothing
pub optional_places : {A : Type 0} {R : Rule A} {r : Reading A} (kind : TokenKind) (nothing : A) → Places R r → Places (grammar.◌or◌ R (spelled nothing)) (λ from. if begins_with kind from then r from else Ok (nothing, from))
optional_places kind nothing one = first_places kind one (spelled_places nothing)

-- nothing where a kind is next, and else something
pub unless_places : {A : Type 0} {R : Rule A} {r : Reading A} (kind : TokenKind) (nothing : A) → Places R r → Places (grammar.◌or◌ R (spelled nothing)) (λ from. if begins_with kind from then Ok (nothing, from) else r from)
unless_places kind nothing one = either_places kind one (spelled_places nothing)

-- a rule that spells the same
pub same_places : {A : Type 0} {R : Rule A} {Q : Rule A} {r : Reading A} → Places Q r → ((from : List Lexeme) (x : A) (rest : List Lexeme) → Q from x rest → R from x rest)
    → ((from : List Lexeme) (x : A) (rest : List Lexeme) → R from x rest → Q from x rest) → Places R r
same_places one to back = record {
  reaches = reaches_wider to one.reaches;
  spans = λ from x rest d. used_wider to (one.spans from x rest (back from x rest d));
  filled = filled_wider to one.filled;
}

-- the choices of a rule that spells the same
abbrev pub same_ways : {A : Type 0} {R : Rule A} {Q : Rule A} {choice : TokenKind → Reading A} → Ways Q choice → ((from : List Lexeme) (x : A) (rest : List Lexeme) → Q from x rest → R from x rest)
    → ((from : List Lexeme) (x : A) (rest : List Lexeme) → R from x rest → Q from x rest) → Ways R choice
same_ways ways to back = record {
  Here = ways.Here;
  each = λ s here. reaches_wider to (ways.each s here);
  spans = λ from x rest d. used_wider to (ways.spans from x rest (back from x rest d));
}

-- a reading that reads the same
pub reads_places : {A : Type 0} {R : Rule A} {q : Reading A} {r : Reading A} → Places R q → ((from : List Lexeme) → r from ≡ q from) → Places R r
reads_places one same = record {
  reaches = record {
    sound = λ from x rest e. one.reaches.sound from x rest (sym (same from) ∙ e);
    grows = λ from n e. one.reaches.grows from n (sym (same from) ∙ e);
    within = λ from. rw (same from) (one.reaches.within from);
    local = λ c a b. rw (same (c ++ a), same (c ++ b)) (one.reaches.local c a b);
  };
  spans = one.spans;
  filled = one.filled;
}
