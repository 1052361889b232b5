-- Rules and readings of lists. Where a list ends is told by ranks: each kind has one, each rule a level, and what the rule
-- spells is read whole if the lexeme behind it has a rank above that level.
use Rattle.std.proofs.Common.{◌≡◌, ℕ, zero, suc, ◌+◌, ◌≤◌, ◌<◌, Bool, true, false, List, [], ◌∷◌, length, Ok, refl, sym, ap, subst, arith}
use Rattle.sy_lex.specs.declared.keyword.Keyword.TheVariants as K
use Rattle.sy_lex.specs.declared.sign.Sign.{Sign}
use Rattle.sy_lex.specs.declared.sign.Sign.TheVariants as Sg
use Rattle.sy_lex.specs.declared.token.TokenKind.{TokenKind}
use Rattle.sy_lex.specs.declared.token.TokenKind.TheVariants as S
use Rattle.sy_lex.specs.Lexemes.{Lexeme}
use Rattle.sy_reader.specs.Grammar as grammar
use Rattle.sy_reader.specs.Grammar.{Rule, spelled, Many, none, more, many, up_to, behind, listed}
use Rattle.sy_reader.specs.Machine.Reading as reader
use Rattle.sy_reader.specs.Machine.Reading.{Read, Reading, give, is_kind, begins_with, next_passes, with_first, while_at, many_at, behind_at, listed_at}
use Rattle.sy_reader.proofs.Agree.{Behind, Sound, Agrees, Takes, Next, Begins, Is, is_it, it_is, not_it, steps, same_read, chosen, then_agrees, node_agrees, behind_agrees, begins_as, begins_then, sign_begins, sign_takes, takes_then}

-- a kind goes on with what has its rank as its level, or a higher one, and ends what has a lower one
abbrev pub rank : TokenKind → ℕ
rank (S.Sign Sg.Dot) = 1
rank (S.Sign Sg.OpenBracket) = 1
rank (S.Sign Sg.Times) = 2
rank (S.Sign Sg.Plus) = 3
rank (S.Sign Sg.Minus) = 3
rank (S.Reserved K.And) = 4
rank (S.Reserved K.Or) = 5
rank (S.Sign Sg.Comma) = 6
rank (S.Reserved K.With) = 6
rank (S.Reserved K.EndDomain) = 8
rank (S.Reserved K.Declarations) = 8
rank (S.Reserved K.Preconditions) = 9
rank (S.Reserved K.Postconditions) = 10
rank (S.Reserved K.Obligations) = 11
rank (S.Reserved K.Surviving) = 12
rank (S.Reserved K.Powers) = 13
rank (S.Reserved K.Constraints) = 14
rank (S.Reserved K.EndContract) = 15
rank kind = 7

-- something of this level ends here
abbrev pub Ends : ℕ → Behind
Ends level [] = Unit {0}
Ends level (l ∷ ls) = level < rank l.kind

pub ends_lower : (j k : ℕ) → j ≤ k → (rest : List Lexeme) → Ends k rest → Ends j rest
ends_lower j k lower [] ends = tt
ends_lower j k lower (l ∷ ls) ends = omega arith

pub ends_at : (level : ℕ) (kind : TokenKind) → level < rank kind → (rest : List Lexeme) → Next (Is kind) rest → Ends level rest
ends_at level kind above rest n = rw (n.front, n.passes) above

-- the next lexeme goes on with nothing of this level
pub ends_next : (level : ℕ) (rest : List Lexeme) → Next (λ s. level < rank s) rest → Ends level rest
ends_next level rest n = rw n.front n.passes

-- none of this kind is next
abbrev pub Without : TokenKind → Behind
Without kind rest = begins_with kind rest ≡ false

pub ends_without : (level : ℕ) (kind : TokenKind) → rank kind ≤ level → (rest : List Lexeme) → Ends level rest → Without kind rest
ends_without level kind under [] ends = refl
ends_without level kind under (l ∷ ls) ends = not_it l.kind kind (λ e. let e' : rank l.kind ≡ rank kind = ap rank e in absurd (omega arith))

abbrev pub Passes : (TokenKind → Bool) → TokenKind → Type 0
Passes test kind = test kind ≡ true

-- what reading many items needs: F is asked behind each, and G behind all of them
pub record Loop {A : Type 0} (R : List Lexeme → A → List Lexeme → Type 0) (r : List Lexeme → Read A) (test : TokenKind → Bool) (F G : List Lexeme → Type 0) : Type 0 where
  pub item : Agrees R r F
  pub takes : Takes R
  pub begins : Begins R (Passes test)
  pub goes_on : (rest : List Lexeme) → Next (Passes test) rest → F rest
  pub stops : (rest : List Lexeme) → G rest → next_passes test rest ≡ false
  pub weaker : (rest : List Lexeme) → G rest → F rest

next_is : (test : TokenKind → Bool) (from : List Lexeme) → Next (Passes test) from → next_passes test from ≡ true
next_is test from n = rw (n.front, n.passes) refl

pub while_sound : {A : Type 0} (R : Rule A) (r : Reading A) (test : TokenKind → Bool) → Sound R r → (most : ℕ) (from : List Lexeme) (xs : List A) (rest : List Lexeme)
    → while_at test r most from ≡ Ok (xs, rest) → up_to most R from xs rest
unfolding while_at
while_sound R r test sound zero from xs rest e = same_read (λ ys a. up_to 0 R from ys a) e (none from, omega arith)
while_sound R r test sound (suc most) from xs rest e =
    chosen (next_passes test from) _ _ xs rest (up_to (suc most) R from xs rest) e
    (λ e'.
    let s = steps (r from) (λ x mid. with_first x (while_at test r most mid)) (xs, rest) e' in
    let t = steps (while_at test r most s.mid) (λ ys. give (s.value ∷ ys)) (xs, rest) s.second in
    let d = while_sound R r test sound most s.mid t.value t.mid t.first in
    same_read (λ ys a. up_to (suc most) R from ys a) t.second (more from s.value s.mid t.value t.mid (sound from s.value s.mid s.first) d.0, omega (arith, d.1)))
    (λ b e'. same_read (λ ys a. up_to (suc most) R from ys a) e' (none from, omega arith))

many_follows : {A : Type 0} {R : Rule A} {r : Reading A} {test : TokenKind → Bool} {F G : Behind} → Loop R r test F G → (from : List Lexeme) (xs : List A) (rest : List Lexeme) → Many R from xs rest → G rest → F from
many_follows loop from xs rest (none rest') g = loop.weaker rest' g
many_follows loop from xs rest (more from' x mid xs' rest' d ds) g = loop.goes_on from' (loop.begins.next from' x mid d)

while_complete : {A : Type 0} {R : Rule A} {r : Reading A} {test : TokenKind → Bool} {F G : Behind} → Loop R r test F G → (from : List Lexeme) (xs : List A) (rest : List Lexeme) → Many R from xs rest → G rest
    → (most : ℕ) → length xs ≤ most → while_at test r most from ≡ Ok (xs, rest)
unfolding while_at
while_complete loop from xs rest (none rest') g zero fits = refl
while_complete loop from xs rest (none rest') g (suc most) fits = rw (loop.stops rest' g) refl
while_complete loop from xs rest (more from' x mid xs' rest' d ds) g zero fits = absurd (omega arith)
while_complete loop from xs rest (more from' x mid xs' rest' d ds) g (suc most) fits =
    let passes = next_is _ from' (loop.begins.next from' x mid d) in
    let first = loop.item.complete from' x mid d (many_follows loop mid xs' rest' ds g) in
    let others = while_complete loop mid xs' rest' ds g most (omega arith) in
    rw (passes, first, others) refl

many_within : {A : Type 0} {R : Rule A} → Takes R → (from : List Lexeme) (xs : List A) (rest : List Lexeme) → Many R from xs rest → length rest + length xs ≤ length from
many_within takes from xs rest (none rest') = omega arith
many_within takes from xs rest (more from' x mid xs' rest' d ds) = omega (arith, takes.less from' x mid d, many_within takes mid xs' rest' ds)

module _ {A : Type 0} {R : Rule A} {r : Reading A} {test : TokenKind → Bool} {F G : Behind} (loop : Loop R r test F G) where
  pub many_agrees : Agrees (many R) (many_at test r) G
  many_agrees = record {
    sound = λ from xs rest e. (while_sound R r test loop.item.sound (length from) from xs rest e).0;
    complete = λ from xs rest d g. while_complete loop from xs rest d g (length from) (omega (arith, many_within loop.takes from xs rest d));
    within = λ from xs rest d. omega (arith, many_within loop.takes from xs rest d);
  }

  pub up_to_agrees : (most : ℕ) → Agrees (up_to most R) (while_at test r most) G
  up_to_agrees most = record {
    sound = while_sound R r test loop.item.sound most;
    complete = λ from xs rest d g. while_complete loop from xs rest d.0 g most d.1;
    within = λ from xs rest d. omega (arith, many_within loop.takes from xs rest d.0);
  }

-- one and then many
pub first_and_many : {A B C : Type 0} {Q : Rule A} {q : Reading A} {R : Rule B} {r : Reading B} {test : TokenKind → Bool} {F G : Behind} (node : A → List B → C) → Agrees Q q F → Loop R r test F G
    → Agrees (grammar.◌>>=◌ Q (λ x. grammar.◌>>=◌ (many R) (λ xs. spelled (node x xs)))) (reader.◌>>=◌ q (λ x. reader.◌>>=◌ (many_at test r) (λ xs. give (node x xs)))) G
first_and_many {G = G} node one loop = then_agrees one (λ x. node_agrees (node x) (many_agrees loop)) (λ x mid y rest d g. many_follows loop mid d.0 d.1 d.2 (subst G (sym d.3.1) g))

-- one and then so many at most
pub first_and_few : {A B C : Type 0} {Q : Rule A} {q : Reading A} {R : Rule B} {r : Reading B} {test : TokenKind → Bool} {F G : Behind} (most : ℕ) (node : A → List B → C) → Agrees Q q F → Loop R r test F G
    → Agrees (grammar.◌>>=◌ Q (λ x. grammar.◌>>=◌ (up_to most R) (λ xs. spelled (node x xs)))) (reader.◌>>=◌ q (λ x. reader.◌>>=◌ (while_at test r most) (λ xs. give (node x xs)))) G
first_and_few {G = G} most node one loop = then_agrees one (λ x. node_agrees (node x) (up_to_agrees loop most)) (λ x mid y rest d g. many_follows loop mid d.0 d.1 d.2.0 (subst G (sym d.3.1) g))

-- a loop while kinds are next that pass a test
pub loop_ranks : {A : Type 0} {R : Rule A} {r : Reading A} (j k : ℕ) (test : TokenKind → Bool) → ((s : TokenKind) → test s ≡ true → j < rank s) → ((s : TokenKind) → k < rank s → test s ≡ false) → j ≤ k
    → Agrees R r (Ends j) → Takes R → Begins R (Passes test) → Loop R r test (Ends j) (Ends k)
loop_ranks j k test above under lower item takes begins = record {
  item = item;
  takes = takes;
  begins = begins;
  goes_on = λ rest n. rw n.front (above n.first.kind n.passes);
  stops = stopping;
  weaker = ends_lower j k lower;
}
  where
    stopping : (rest : List Lexeme) → Ends k rest → next_passes test rest ≡ false
    stopping [] ends = refl
    stopping (l ∷ ls) ends = under l.kind ends

-- a loop while this kind is next
pub loop_while : {A : Type 0} {R : Rule A} {r : Reading A} (j k : ℕ) (kind : TokenKind) → j < rank kind → rank kind ≤ k → Agrees R r (Ends j) → Takes R → Begins R (Is kind)
    → Loop R r (λ s. is_kind s kind) (Ends j) (Ends k)
loop_while j k kind above under item takes begins =
    loop_ranks j k (λ s. is_kind s kind) (λ s e. rw (is_it s kind e) above) (λ s over. not_it s kind (λ e. let e' : rank s ≡ rank kind = ap rank e in absurd (omega arith))) (omega arith) item takes (begins_as begins (it_is kind))

-- a loop over what stands behind a sign
pub loop_behind : {A : Type 0} {R : Rule A} {r : Reading A} (j k : ℕ) (s : Sign) → j < rank (S.Sign s) → rank (S.Sign s) ≤ k → Agrees R r (Ends j)
    → Loop (behind s R) (behind_at s r) (λ kind. is_kind kind (S.Sign s)) (Ends j) (Ends k)
loop_behind j k s above under one = loop_while j k (S.Sign s) above under (behind_agrees s one) (takes_then (sign_takes s) λ _. one) (begins_then (sign_begins s))

pub listed_agrees : {A : Type 0} {R : Rule A} {r : Reading A} (j : ℕ) → j < 6 → Agrees R r (Ends j) → Agrees (listed R) (listed_at r) (Ends 6)
listed_agrees j above one = first_and_many (λ x xs. x ∷ xs) one (loop_behind j 6 Sg.Comma above (omega arith) one)
