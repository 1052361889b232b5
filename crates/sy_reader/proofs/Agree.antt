-- A rule of the grammar and a reading agree where each tells the same of any lexemes, whatever may stand behind them.
use Rattle.std.proofs.Common.{◌≡◌, inl, inr, suc, ◌≤◌, ◌<◌, Bool, true, false, List, [], ◌∷◌, length, if◌then◌else◌, Ok, Err, refl, sym, ap, subst, ◌∙◌, arith, rules}
use denote.Enum.Bare.{same_true, true_same}
use Rattle.sy_lex.specs.contracts.keyword.Keyword.{the_type as the_keywords}
use Rattle.sy_lex.specs.contracts.sign.Sign.{the_type as the_signs}
use Rattle.sy_lex.specs.declared.keyword.Keyword.{Keyword}
use Rattle.sy_lex.specs.declared.sign.Sign.{Sign}
use Rattle.sy_lex.specs.declared.token.TokenKind.{TokenKind}
use Rattle.sy_lex.specs.declared.token.TokenKind.TheVariants as S
use Rattle.sy_lex.specs.Lexemes.{Lexeme, written}
use Rattle.sy_reader.specs.Grammar as grammar
use Rattle.sy_reader.specs.Grammar.{Rule, spelled, lexeme, token, keyword, sign, before, behind, ahead}
use Rattle.sy_reader.specs.Machine.Reading as reader
use Rattle.sy_reader.specs.Machine.Reading.{Read, Reading, and_then, give, is_kind, lexeme_at, token_at, place_at, keyword_at, sign_at, before_at, behind_at, ahead_at}

-- what is asked of the lexemes behind those that a rule spells
abbrev pub Behind : Type 1
Behind = List Lexeme → Type 0

abbrev pub Any : Behind
Any rest = Unit {0}

-- what is read is spelled
abbrev pub Sound : {A : Type 0} → Rule A → Reading A → Type 0
Sound R r = (from : List Lexeme) (x : _) (rest : List Lexeme) → r from ≡ Ok (x, rest) → R from x rest

-- what is spelled is read, where F holds of what stands behind
abbrev pub Complete : {A : Type 0} → Rule A → Reading A → Behind → Type 0
Complete R r F = (from : List Lexeme) (x : _) (rest : List Lexeme) → R from x rest → F rest → r from ≡ Ok (x, rest)

abbrev pub Within : {A : Type 0} → Rule A → Type 0
Within R = (from : List Lexeme) (x : _) (rest : List Lexeme) → R from x rest → length rest ≤ length from

-- what R spells and what r reads is the same, where F holds of what stands behind
pub record Agrees {A : Type 0} (R : List Lexeme → A → List Lexeme → Type 0) (r : List Lexeme → Read A) (F : List Lexeme → Type 0) : Type 0 where
  pub sound : Sound R r
  pub complete : Complete R r F
  pub within : Within R

-- what R spells takes a lexeme
pub record Takes {A : Type 0} (R : List Lexeme → A → List Lexeme → Type 0) : Type 0 where
  pub less : (from : List Lexeme) (x : A) (rest : List Lexeme) → R from x rest → length rest < length from

-- there is a next lexeme, whose kind passes T
pub record Next (T : TokenKind → Type 0) (from : List Lexeme) : Type 0 where
  pub first : Lexeme
  pub others : List Lexeme
  pub front : from ≡ first ∷ others
  pub passes : T first.kind

-- what R spells begins with a lexeme whose kind passes T
pub record Begins {A : Type 0} (R : List Lexeme → A → List Lexeme → Type 0) (T : TokenKind → Type 0) : Type 0 where
  pub next : (from : List Lexeme) (x : A) (rest : List Lexeme) → R from x rest → Next T from

abbrev pub Is : TokenKind → TokenKind → Type 0
Is kind s = s ≡ kind

-- it isn't of this kind
abbrev pub Differs : TokenKind → TokenKind → Type 0
Differs kind s = is_kind s kind ≡ false

pub is_it : (a b : TokenKind) → is_kind a b ≡ true → a ≡ b
is_it (S.Reserved a) (S.Reserved b) h = ap S.Reserved (same_true the_keywords (search rules) a b h)
is_it (S.Sign a) (S.Sign b) h = ap S.Sign (same_true the_signs (search rules) a b h)
is_it S.Word S.Word h = refl
is_it S.Number S.Number h = refl
is_it S.Date S.Date h = refl
is_it S.Str S.Str h = refl
is_it a b h = absurd cc

pub it_is : (a : TokenKind) → is_kind a a ≡ true
it_is (S.Reserved a) = true_same the_keywords a a refl
it_is (S.Sign a) = true_same the_signs a a refl
it_is S.Word = refl
it_is S.Number = refl
it_is S.Date = refl
it_is S.Str = refl

pub not_it : (a b : TokenKind) → (a ≡ b → ⊥) → is_kind a b ≡ false
not_it a b differ = of (is_kind a b) refl
  where
    of : (same : Bool) → is_kind a b ≡ same → same ≡ false
    of true is = absurd (differ (is_it a b is))
    of false is = refl

-- a step of reading that was possible
pub record Steps {A B : Type 0} (read : Read A) (next : A → Reading B) (y : B × List Lexeme) : Type 0 where
  pub value : A
  pub mid : List Lexeme
  pub first : read ≡ Ok (value, mid)
  pub second : next value mid ≡ Ok y

pub steps : {A B : Type 0} (read : Read A) (next : A → Reading B) (y : B × List Lexeme) → and_then read next ≡ Ok y → Steps read next y
steps (Ok x) next y e = record { value = x.0; mid = x.1; first = refl; second = e }
steps (Err left) next y e = absurd cc

abbrev pub found : {A : Type 0} → A → List Lexeme → Read A
found x rest = Ok (x, rest)

-- what was read is the same
pub same_read : {A : Type 0} {x y : A} {a b : List Lexeme} (P : A → List Lexeme → Type 0) → found x a ≡ found y b → P x a → P y b
same_read {A} {x} {y} {a} {b} P e p =
    let pair : (x, a) ≡ (y, b) = cc in
    subst (λ (z : A × List Lexeme). P z.0 z.1) pair p

-- by a test
pub chosen : {A : Type 0} (test : Bool) (one other : Read A) (y : A) (rest : List Lexeme) (P : Type 0) → if test then one else other ≡ found y rest
    → (one ≡ found y rest → P) → (test ≡ false → other ≡ found y rest → P) → P
chosen true one other y rest P e p q = p e
chosen false one other y rest P e p q = q refl e

pub within_or : {A : Type 0} {R : Rule A} {Q : Rule A} → Within R → Within Q → Within (grammar.◌or◌ R Q)
within_or one other from x rest (inl d) = one from x rest d
within_or one other from x rest (inr d) = other from x rest d

pub spelled_agrees : {A : Type 0} (x : A) → Agrees (spelled x) (give x) Any
spelled_agrees x = record {
  sound = λ from y rest e. same_read (λ z a. (x ≡ z) × (from ≡ a)) e (refl, refl);
  complete = λ from y rest d f. rw (d.0, d.1) refl;
  within = λ from y rest d. omega (arith, ap length d.1);
}

pub weaker_agrees : {A : Type 0} {R : Rule A} {r : Reading A} {F G : Behind} → Agrees R r F → ((rest : List Lexeme) → G rest → F rest) → Agrees R r G
weaker_agrees one weaker = record {
  sound = one.sound;
  complete = λ from x rest d f. one.complete from x rest d (weaker rest f);
  within = one.within;
}

pub anywhere : {A : Type 0} {R : Rule A} {r : Reading A} {F : Behind} → Agrees R r Any → Agrees R r F
anywhere one = weaker_agrees one (λ rest f. tt)

-- a rule that spells the same
pub same_agrees : {A : Type 0} {R : Rule A} {Q : Rule A} {r : Reading A} {F : Behind} → Agrees Q r F → ((from : List Lexeme) (x : A) (rest : List Lexeme) → Q from x rest → R from x rest)
    → ((from : List Lexeme) (x : A) (rest : List Lexeme) → R from x rest → Q from x rest) → Agrees R r F
same_agrees one to back = record {
  sound = λ from x rest e. to from x rest (one.sound from x rest e);
  complete = λ from x rest d f. one.complete from x rest (back from x rest d) f;
  within = λ from x rest d. one.within from x rest (back from x rest d);
}

-- a reading that reads the same
pub reads_agrees : {A : Type 0} {R : Rule A} {q : Reading A} {r : Reading A} {F : Behind} → Agrees R q F → ((from : List Lexeme) → r from ≡ q from) → Agrees R r F
reads_agrees one same = record {
  sound = λ from x rest e. one.sound from x rest (sym (same from) ∙ e);
  complete = λ from x rest d f. same from ∙ one.complete from x rest d f;
  within = one.within;
}

swap : {A : Type 0} (R : Rule A) (Q : Rule A) (from : List Lexeme) (x : A) (rest : List Lexeme) → grammar.◌or◌ R Q from x rest → grammar.◌or◌ Q R from x rest
swap R Q from x rest (inl d) = inr d
swap R Q from x rest (inr d) = inl d

-- the other order of a choice
pub swap_agrees : {A : Type 0} {R : Rule A} {Q : Rule A} {r : Reading A} {F : Behind} → Agrees (grammar.◌or◌ Q R) r F → Agrees (grammar.◌or◌ R Q) r F
swap_agrees {R = R} {Q = Q} one = same_agrees one (swap Q R) (swap R Q)

pub then_agrees : {A B : Type 0} {R : Rule A} {r : Reading A} {F G : Behind} {next : A → Rule B} {reading : A → Reading B} → Agrees R r F → ((x : A) → Agrees (next x) (reading x) G)
    → ((x : A) (mid : List Lexeme) (y : B) (rest : List Lexeme) → next x mid y rest → G rest → F mid) → Agrees (grammar.◌>>=◌ R next) (reader.◌>>=◌ r reading) G
then_agrees {r = r} {reading = reading} one other follows = record {
  sound = λ from y rest e.
      let s = steps (r from) reading (y, rest) e in
      (s.value, s.mid, one.sound from s.value s.mid s.first, (other s.value).sound s.mid y rest s.second);
  complete = λ from y rest d f. rw (one.complete from d.0 d.1 d.2 (follows d.0 d.1 y rest d.3 f)) ((other d.0).complete d.1 y rest d.3 f);
  within = λ from y rest d. omega (arith, one.within from d.0 d.1 d.2, (other d.0).within d.1 y rest d.3);
}

-- the same, where nothing is asked of what stands behind the first
pub then_any : {A B : Type 0} {R : Rule A} {r : Reading A} {G : Behind} {next : A → Rule B} {reading : A → Reading B} → Agrees R r Any → ((x : A) → Agrees (next x) (reading x) G)
    → Agrees (grammar.◌>>=◌ R next) (reader.◌>>=◌ r reading) G
then_any one other = then_agrees one other (λ x mid y rest d f. tt)

-- a node made of what is read
pub node_agrees : {A B : Type 0} {R : Rule A} {r : Reading A} {F : Behind} (node : A → B) → Agrees R r F
    → Agrees (grammar.◌>>=◌ R (λ x. spelled (node x))) (reader.◌>>=◌ r (λ x. give (node x))) F
node_agrees {r = r} {F = F} node one = then_agrees one (λ x. anywhere (spelled_agrees (node x))) (λ x mid y rest d f. subst F (sym d.1) f)

pub lexeme_agrees : (kind : TokenKind) → Agrees (lexeme kind) (lexeme_at kind) Any
lexeme_agrees kind = record { sound = sounds; complete = completes; within = λ from x rest d. omega (arith, ap length d.0) }
  where
    taken : (l : Lexeme) (ls : List Lexeme) (x : Lexeme) (rest : List Lexeme) (same : Bool) → is_kind l.kind kind ≡ same → if same then found l ls else Err (suc (length ls)) ≡ found x rest → lexeme kind (l ∷ ls) x rest
    taken l ls x rest true is e = same_read (λ y a. lexeme kind (l ∷ ls) y a) e (refl, is_it l.kind kind is)
    taken l ls x rest false is e = absurd cc

    sounds : Sound (lexeme kind) (lexeme_at kind)
    sounds [] x rest e = absurd cc
    sounds (l ∷ ls) x rest e = taken l ls x rest (is_kind l.kind kind) refl e

    completes : Complete (lexeme kind) (lexeme_at kind) Any
    completes from x rest d f = rw (d.0, d.1, it_is kind) refl

pub token_agrees : (kind : TokenKind) → Agrees (token kind) (token_at kind) Any
token_agrees kind = then_any (lexeme_agrees kind) (λ l. spelled_agrees (written l))

pub place_agrees : (kind : TokenKind) → Agrees (grammar.◌>>=◌ (lexeme kind) (λ l. spelled l.place)) (place_at kind) Any
place_agrees kind = then_any (lexeme_agrees kind) (λ l. spelled_agrees l.place)

pub keyword_agrees : (word : Keyword) → Agrees (keyword word) (keyword_at word) Any
keyword_agrees word = place_agrees (S.Reserved word)

pub sign_agrees : (s : Sign) → Agrees (sign s) (sign_at s) Any
sign_agrees s = place_agrees (S.Sign s)

pub ahead_agrees : Agrees ahead ahead_at Any
ahead_agrees = record {
  sound = sounds;
  complete = λ from x rest d f. rw (← d.4) (rw (d.2, d.3) refl);
  within = λ from x rest d. omega (arith, ap length d.4);
}
  where
    sounds : Sound ahead ahead_at
    sounds [] x rest e = absurd cc
    sounds (l ∷ ls) x rest e = same_read (λ y a. ahead (l ∷ ls) y a) e (l, ls, refl, refl, refl)

-- what a rule begins with
pub begins_then : {A B : Type 0} {R : Rule A} {T : TokenKind → Type 0} {next : A → Rule B} → Begins R T → Begins (grammar.◌>>=◌ R next) T
begins_then begins = record { next = λ from y rest d. begins.next from d.0 d.1 d.2 }

pub begins_or : {A : Type 0} {R : Rule A} {Q : Rule A} {T : TokenKind → Type 0} → Begins R T → Begins Q T → Begins (grammar.◌or◌ R Q) T
begins_or {R = R} {Q = Q} {T = T} one other = record { next = nexts }
  where
    nexts : (from : List Lexeme) (x : _) (rest : List Lexeme) → grammar.◌or◌ R Q from x rest → Next T from
    nexts from x rest (inl d) = one.next from x rest d
    nexts from x rest (inr d) = other.next from x rest d

pub begins_so : {A : Type 0} {R : Rule A} {T U : TokenKind → Type 0} → Begins R T → ((s : TokenKind) → T s → U s) → Begins R U
begins_so begins so = record { next = λ from x rest d. let n = begins.next from x rest d in record { first = n.first; others = n.others; front = n.front; passes = so n.first.kind n.passes } }

pub begins_as : {A : Type 0} {R : Rule A} {kind : TokenKind} {T : TokenKind → Type 0} → Begins R (Is kind) → T kind → Begins R T
begins_as {T = T} begins t = begins_so begins (λ s e. subst T (sym e) t)

pub lexeme_begins : (kind : TokenKind) → Begins (lexeme kind) (Is kind)
lexeme_begins kind = record { next = λ from x rest d. record { first = x; others = rest; front = d.0; passes = d.1 } }

pub token_begins : (kind : TokenKind) → Begins (token kind) (Is kind)
token_begins kind = begins_then (lexeme_begins kind)

pub keyword_begins : (word : Keyword) → Begins (keyword word) (Is (S.Reserved word))
keyword_begins word = begins_then (lexeme_begins (S.Reserved word))

pub sign_begins : (s : Sign) → Begins (sign s) (Is (S.Sign s))
sign_begins s = begins_then (lexeme_begins (S.Sign s))

pub behind_agrees : {A : Type 0} {R : Rule A} {r : Reading A} {F : Behind} (s : Sign) → Agrees R r F → Agrees (behind s R) (behind_at s r) F
behind_agrees s one = then_any (sign_agrees s) λ _. one

pub before_agrees : {A : Type 0} {R : Rule A} {r : Reading A} {F : Behind} (s : Sign) → Agrees R r F → ((rest : List Lexeme) → Next (Is (S.Sign s)) rest → F rest) → Agrees (before R s) (before_at r s) Any
before_agrees s one follows = then_agrees one (λ x. then_any (sign_agrees s) λ _. spelled_agrees x) (λ x mid y rest d f. follows mid ((sign_begins s).next mid d.0 d.1 d.2))

pub before_any : {A : Type 0} {R : Rule A} {r : Reading A} (s : Sign) → Agrees R r Any → Agrees (before R s) (before_at r s) Any
before_any s one = before_agrees s one (λ rest n. tt)

pub lexeme_takes : (kind : TokenKind) → Takes (lexeme kind)
lexeme_takes kind = record { less = λ from x rest d. omega (arith, ap length d.0) }

pub takes_then : {A B : Type 0} {R : Rule A} {F : Behind} {next : A → Rule B} {reading : A → Reading B} → Takes R → ((x : A) → Agrees (next x) (reading x) F) → Takes (grammar.◌>>=◌ R next)
takes_then takes other = record { less = λ from y rest d. omega (arith, takes.less from d.0 d.1 d.2, (other d.0).within d.1 y rest d.3) }

pub takes_or : {A : Type 0} {R : Rule A} {Q : Rule A} → Takes R → Takes Q → Takes (grammar.◌or◌ R Q)
takes_or {R = R} {Q = Q} one other = record { less = lesses }
  where
    lesses : (from : List Lexeme) (x : _) (rest : List Lexeme) → grammar.◌or◌ R Q from x rest → length rest < length from
    lesses from x rest (inl d) = one.less from x rest d
    lesses from x rest (inr d) = other.less from x rest d

pub keyword_takes : (word : Keyword) → Takes (keyword word)
keyword_takes word = takes_then (lexeme_takes (S.Reserved word)) (λ l. spelled_agrees l.place)

pub sign_takes : (s : Sign) → Takes (sign s)
sign_takes s = takes_then (lexeme_takes (S.Sign s)) (λ l. spelled_agrees l.place)

pub before_takes : {A : Type 0} {R : Rule A} {r : Reading A} {F : Behind} (s : Sign) → Agrees R r F → Takes (before R s)
before_takes s one = record { less = λ from y rest d. omega (arith, one.within from d.0 d.1 d.2, (sign_takes s).less d.1 d.3.0 d.3.1 d.3.2, ap length d.3.3.1) }
