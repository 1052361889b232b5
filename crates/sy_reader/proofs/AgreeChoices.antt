-- Rules with a choice, and readings that choose by the next lexeme.
use Rattle.std.proofs.Common.{◌≡◌, ◌⊎◌, inl, inr, true, false, List, [], ◌∷◌, if◌then◌else◌, Ok, refl, sym, ap, ◌∙◌}
use Rattle.sy_lex.specs.declared.token.TokenKind.{TokenKind}
use Rattle.sy_lex.specs.declared.written.Written.{Written}
use Rattle.sy_lex.specs.Lexemes.{Lexeme}
use Rattle.sy_reader.specs.Grammar as grammar
use Rattle.sy_reader.specs.Grammar.{Rule, spelled, token}
use Rattle.sy_reader.specs.Machine.Reading as reader
use Rattle.sy_reader.specs.Machine.Reading.{Read, Reading, give, fail, begins_with, by_next, token_at}
use Rattle.sy_reader.proofs.Agree.{Behind, Any, Sound, Complete, Within, within_or, Agrees, Next, Begins, Is, Differs, it_is, chosen, spelled_agrees, anywhere, node_agrees, token_agrees}
use Rattle.sy_reader.proofs.AgreeMany.{Without}

-- the choices of a rule, and at which kinds each is read
pub record Branches {A : Type 0} (R : List Lexeme → A → List Lexeme → Type 0) (choice : TokenKind → List Lexeme → Read A) (F : List Lexeme → Type 0) : Type 1 where
  pub Here : TokenKind → Type 0
  pub sound : (s : TokenKind) → Here s → Sound R (choice s)
  pub complete : Complete R (by_next choice) F
  pub within : Within R

-- what a choice spells is read by what stands for it
pub chosen_complete : {A : Type 0} {R : Rule A} {r : Reading A} {T : TokenKind → Type 0} {F : Behind} (choice : TokenKind → Reading A) → Begins R T → ((s : TokenKind) → T s → choice s ≡ r) → Agrees R r F → Complete R (by_next choice) F
chosen_complete choice begins same one from x rest d f =
    let n = begins.next from x rest d in
    let e : by_next choice (n.first ∷ n.others) ≡ by_next choice from = ap (by_next choice) (sym n.front) in
    sym e ∙ (ap (λ (reading : Reading _). reading (n.first ∷ n.others)) (same n.first.kind n.passes) ∙ (rw (← n.front) (one.complete from x rest d f)))

-- a choice that begins with some kinds
abbrev pub branch : {A : Type 0} {R : Rule A} {r : Reading A} {T : TokenKind → Type 0} {choice : TokenKind → Reading A} {F : Behind} → Begins R T → ((s : TokenKind) → T s → choice s ≡ r) → Agrees R r F → Branches R choice F
branch {r = r} {choice = choice} begins same one = record {
  Here = λ s. choice s ≡ r;
  sound = λ s here from x rest e. one.sound from x rest (ap (λ (reading : Reading _). reading from) (sym here) ∙ e);
  complete = chosen_complete choice begins same one;
  within = one.within;
}

-- a choice that begins with one kind, and asks nothing of what stands behind
abbrev pub case : {A : Type 0} {R : Rule A} {kind : TokenKind} {choice : TokenKind → Reading A} {F : Behind} → Begins R (Is kind) → Agrees R (choice kind) Any → Branches R choice F
case {kind = kind} {choice = choice} begins one = branch begins (λ s e. ap choice e) (anywhere one)

-- a choice that begins with one kind
abbrev pub case_at : {A : Type 0} {R : Rule A} {kind : TokenKind} {choice : TokenKind → Reading A} {F : Behind} → Begins R (Is kind) → Agrees R (choice kind) F → Branches R choice F
case_at {choice = choice} begins one = branch begins (λ s e. ap choice e) one

-- a choice among words, each with a tag
abbrev pub tagged : {A T : Type 0} {R : T → Rule A} {choice : TokenKind → Reading A} {F : Behind} (r : T → Reading A) (word : T → TokenKind) → ((t : T) → Begins (R t) (Is (word t))) → ((t : T) → choice (word t) ≡ r t) → ((t : T) → Agrees (R t) (r t) F)
    → Branches (λ from x rest. (t : T) × R t from x rest) choice F
tagged {R = R} {choice = choice} r word begins same each = record {
  Here = λ s. (t : _) × (choice s ≡ r t);
  sound = λ s here from x rest e. (here.0, (each here.0).sound from x rest (ap (λ (reading : Reading _). reading from) (sym here.1) ∙ e));
  complete = λ from x rest d f. chosen_complete choice (begins d.0) (λ s e. ap choice e ∙ same d.0) (each d.0) from x rest d.1 f;
  within = λ from x rest d. (each d.0).within from x rest d.1;
}

-- the choices of a rule that spells the same
abbrev pub same_branches : {A : Type 0} {R : Rule A} {Q : Rule A} {choice : TokenKind → Reading A} {F : Behind} → Branches Q choice F → ((from : List Lexeme) (x : A) (rest : List Lexeme) → Q from x rest → R from x rest)
    → ((from : List Lexeme) (x : A) (rest : List Lexeme) → R from x rest → Q from x rest) → Branches R choice F
same_branches branches to back = record {
  Here = branches.Here;
  sound = λ s here from x rest e. to from x rest (branches.sound s here from x rest e);
  complete = λ from x rest d f. branches.complete from x rest (back from x rest d) f;
  within = λ from x rest d. branches.within from x rest (back from x rest d);
}

-- the choices of two rules
infixl 8 ◌or◌
abbrev pub ◌or◌ : {A : Type 0} {R : Rule A} {Q : Rule A} {choice : TokenKind → Reading A} {F : Behind} → Branches R choice F → Branches Q choice F → Branches (grammar.◌or◌ R Q) choice F
◌or◌ {R = R} {Q = Q} {choice = choice} {F = F} one other = record { Here = λ s. one.Here s ⊎ other.Here s; sound = sounds; complete = completes; within = within_or one.within other.within }
  where
    sounds : (s : TokenKind) → one.Here s ⊎ other.Here s → Sound (grammar.◌or◌ R Q) (choice s)
    sounds s (inl here) from x rest e = inl (one.sound s here from x rest e)
    sounds s (inr here) from x rest e = inr (other.sound s here from x rest e)

    completes : Complete (grammar.◌or◌ R Q) (by_next choice) F
    completes from x rest (inl d) f = one.complete from x rest d f
    completes from x rest (inr d) f = other.complete from x rest d f

-- at each kind one of them is read, or none
pub by_next_agrees : {A : Type 0} {R : Rule A} {choice : TokenKind → Reading A} {F : Behind} (branches : Branches R choice F) → ((s : TokenKind) → branches.Here s ⊎ (choice s ≡ fail)) → Agrees R (by_next choice) F
by_next_agrees {R = R} {choice = choice} branches covers = record { sound = sounds; complete = branches.complete; within = branches.within }
  where
    at : (l : Lexeme) (ls : List Lexeme) (x : _) (rest : List Lexeme) → branches.Here l.kind ⊎ (choice l.kind ≡ fail) → choice l.kind (l ∷ ls) ≡ Ok (x, rest) → R (l ∷ ls) x rest
    at l ls x rest (inl here) e = branches.sound l.kind here (l ∷ ls) x rest e
    at l ls x rest (inr fails) e = let e' = ap (λ (reading : Reading _). reading (l ∷ ls)) (sym fails) ∙ e in absurd cc

    sounds : Sound R (by_next choice)
    sounds [] x rest e = absurd cc
    sounds (l ∷ ls) x rest e = at l ls x rest (covers l.kind) e

-- a token, and a node of it
pub token_case : {A : Type 0} (kind : TokenKind) (node : Written → A) → Agrees (grammar.◌>>=◌ (token kind) λ x. spelled (node x)) (reader.◌>>=◌ (token_at kind) λ x. give (node x)) Any
token_case kind node = node_agrees node (token_agrees kind)

pub next_test : (kind : TokenKind) (from : List Lexeme) → Next (Is kind) from → begins_with kind from ≡ true
next_test kind from n = rw (n.front, n.passes, it_is kind) refl

next_differs : (kind : TokenKind) (from : List Lexeme) → Next (Differs kind) from → begins_with kind from ≡ false
next_differs kind from n = rw (n.front, n.passes) refl

-- what begins with a kind, or nothing
pub optional_agrees : {A : Type 0} {R : Rule A} {r : Reading A} {F : Behind} (kind : TokenKind) (none : A) → Begins R (Is kind) → Agrees R r F → ((rest : List Lexeme) → F rest → Without kind rest)
    → Agrees (grammar.◌or◌ R (spelled none)) (λ from. if begins_with kind from then r from else Ok (none, from)) F
optional_agrees {R = R} {r = r} {F = F} kind none begins one without = record {
  sound = λ from x rest e. chosen (begins_with kind from) _ _ x rest (grammar.◌or◌ R (spelled none) from x rest) e (λ e'. inl (one.sound from x rest e')) (λ b e'. inr ((spelled_agrees none).sound from x rest e'));
  complete = completes;
  within = within_or one.within (spelled_agrees none).within;
}
  where
    completes : Complete (grammar.◌or◌ R (spelled none)) (λ from. if begins_with kind from then r from else Ok (none, from)) F
    completes from x rest (inl d) f = rw (next_test kind from (begins.next from x rest d)) (one.complete from x rest d f)
    completes from x rest (inr d) f = rw (d.1, without rest f, d.0) refl

-- nothing where a kind is next, which nothing else begins with
pub unless_agrees : {A : Type 0} {R : Rule A} {r : Reading A} {F : Behind} (kind : TokenKind) (none : A) → Begins R (Differs kind) → Agrees R r F → ((rest : List Lexeme) → Next (Is kind) rest → F rest)
    → Agrees (grammar.◌or◌ R (spelled none)) (λ from. if begins_with kind from then Ok (none, from) else r from) (Next (Is kind))
unless_agrees {R = R} {r = r} kind none begins one follows = record {
  sound = λ from x rest e. chosen (begins_with kind from) _ _ x rest (grammar.◌or◌ R (spelled none) from x rest) e (λ e'. inr ((spelled_agrees none).sound from x rest e')) (λ b e'. inl (one.sound from x rest e'));
  complete = completes;
  within = within_or one.within (spelled_agrees none).within;
}
  where
    completes : Complete (grammar.◌or◌ R (spelled none)) (λ from. if begins_with kind from then Ok (none, from) else r from) (Next (Is kind))
    completes from x rest (inl d) n = rw (next_differs kind from (begins.next from x rest d)) (one.complete from x rest d (follows rest n))
    completes from x rest (inr d) n = rw (d.1, next_test kind rest n, d.0) refl

-- one where a kind is next, which the other doesn't begin with
pub either_agrees : {A : Type 0} {R : Rule A} {Q : Rule A} {r q : Reading A} {F : Behind} (kind : TokenKind) → Begins R (Differs kind) → Begins Q (Is kind) → Agrees R r F → Agrees Q q F
    → Agrees (grammar.◌or◌ R Q) (λ from. if begins_with kind from then q from else r from) F
either_agrees {R = R} {Q = Q} {r = r} {q = q} {F = F} kind differs begins one other = record {
  sound = λ from x rest e. chosen (begins_with kind from) _ _ x rest (grammar.◌or◌ R Q from x rest) e (λ e'. inr (other.sound from x rest e')) (λ b e'. inl (one.sound from x rest e'));
  complete = completes;
  within = within_or one.within other.within;
}
  where
    completes : Complete (grammar.◌or◌ R Q) (λ from. if begins_with kind from then q from else r from) F
    completes from x rest (inl d) f = rw (next_differs kind from (differs.next from x rest d)) (one.complete from x rest d f)
    completes from x rest (inr d) f = rw (next_test kind from (begins.next from x rest d)) (other.complete from x rest d f)
