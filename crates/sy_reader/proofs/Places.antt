-- Where a text goes wrong. A rule and a reading tell of a fault that the lexemes before it begin what the rule spells, and that
-- with the lexeme at which it stands they begin none.
use Rattle.std.proofs.Common.{◌≡◌, ℕ, suc, ◌+◌, ◌≤◌, ◌<◌, Bool, true, false, if◌then◌else◌, List, [], ◌∷◌, ◌++◌, length, Ok, Err, refl, sym, ap, subst, ◌∙◌, arith}
use Rattle.std.proofs.lemmas.List.{append_assoc, length-append}
use Rattle.sy_lex.specs.declared.keyword.Keyword.{Keyword}
use Rattle.sy_lex.specs.declared.sign.Sign.{Sign}
use Rattle.sy_lex.specs.declared.token.TokenKind.{TokenKind}
use Rattle.sy_lex.specs.declared.token.TokenKind.TheVariants as S
use Rattle.sy_lex.specs.Lexemes.{Lexeme, written}
use Rattle.sy_reader.specs.Grammar as grammar
use Rattle.sy_reader.specs.Grammar.{Rule, spelled, lexeme, token, keyword, sign, before, behind, between}
use Rattle.sy_reader.specs.Machine.Reading as reader
use Rattle.sy_reader.specs.Machine.Reading.{Read, Reading, and_then, give, fail, is_kind, begins_with, by_next, lexeme_at, token_at, place_at, keyword_at, sign_at, before_at, behind_at, between_at}
use Rattle.sy_reader.proofs.Agree.{Sound, Takes, lexeme_agrees, spelled_agrees, steps}

-- R spells x of these lexemes, whatever stands behind them
abbrev pub Spans : {A : Type 0} → Rule A → List Lexeme → A → Type 0
Spans R used x = (other : List Lexeme) → R (used ++ other) x other

-- some lexemes of which R spells something
pub record Filled {A : Type 0} (R : List Lexeme → A → List Lexeme → Type 0) : Type 0 where
  pub more : List Lexeme
  pub value : A
  pub spans : (other : List Lexeme) → R (more ++ other) value other

-- what is spelled is spelled of the lexemes before the rest, whatever stands behind them
pub record Used {A : Type 0} (R : List Lexeme → A → List Lexeme → Type 0) (from : List Lexeme) (x : A) (rest : List Lexeme) : Type 0 where
  pub used : List Lexeme
  pub is : from ≡ used ++ rest
  pub spans : (other : List Lexeme) → R (used ++ other) x other

-- the lexemes before the last n begin some of which R spells something
pub record Grown {A : Type 0} (R : List Lexeme → A → List Lexeme → Type 0) (from : List Lexeme) (n : ℕ) : Type 0 where
  pub front : List Lexeme
  pub rest : List Lexeme
  pub is : from ≡ front ++ rest
  pub size : length rest ≡ n
  pub more : List Lexeme
  pub value : A
  pub spans : (other : List Lexeme) → R ((front ++ more) ++ other) value other

-- how many lexemes are left, behind what is read or from the fault on
abbrev pub left : {A : Type 0} → Read A → ℕ
left (Ok x) = length x.1
left (Err n) = n

-- of two texts that begin alike and end with a and with b the same was read, unless the first was read up to its a
pub data Alike {A : Type 0} (a b : List Lexeme) (one other : Read A) : Type 0 where
  both : (x : A) (d : List Lexeme) → 0 < length d → one ≡ Ok (x, d ++ a) → other ≡ Ok (x, d ++ b) → Alike a b one other
  neither : (n : ℕ) → 0 < n → one ≡ Err (n + length a) → other ≡ Err (n + length b) → Alike a b one other
  beyond : left one ≤ length a → Alike a b one other

-- what reading tells of faults, for what R spells
pub record Reaches {A : Type 0} (R : List Lexeme → A → List Lexeme → Type 0) (r : List Lexeme → Read A) : Type 0 where
  pub sound : Sound R r
  pub grows : (from : List Lexeme) (n : ℕ) → r from ≡ Err n → Grown R from n
  pub within : (from : List Lexeme) → left (r from) ≤ length from
  pub local : (c a b : List Lexeme) → Alike a b (r (c ++ a)) (r (c ++ b))

pub record Places {A : Type 0} (R : List Lexeme → A → List Lexeme → Type 0) (r : List Lexeme → Read A) : Type 0 where
  pub reaches : Reaches R r
  pub spans : (from : List Lexeme) (x : A) (rest : List Lexeme) → R from x rest → Used R from x rest
  pub filled : Filled R

-- a fault at the first lexeme, or at the end
pub grown_here : {A : Type 0} {R : Rule A} (from : List Lexeme) (n : ℕ) → length from ≡ n → Filled R → Grown R from n
grown_here from n size f = record { front = []; rest = from; is = refl; size = size; more = f.more; value = f.value; spans = f.spans }

-- one behind the other
pub join_spans : {A B : Type 0} (R : Rule A) (next : A → Rule B) (u v : List Lexeme) (x : A) (y : B) → Spans R u x → Spans (next x) v y → Spans (grammar.◌>>=◌ R next) (u ++ v) y
join_spans R next u v x y s t other = (x, v ++ other, subst (λ (ls : List Lexeme). R ls x (v ++ other)) (sym (append_assoc u v other)) (s (v ++ other)), t other)

-- with other lexemes that are the same
pub same_spans : {A : Type 0} (R : Rule A) {u v : List Lexeme} (x : A) → u ≡ v → Spans R u x → Spans R v x
same_spans R x e s other = subst (λ (ls : List Lexeme). R (ls ++ other) x other) e (s other)

-- something was read, and d and then the end are left
pub given_alike : {A : Type 0} {a b : List Lexeme} {one other : Read A} (x : A) (d : List Lexeme) → one ≡ Ok (x, d ++ a) → other ≡ Ok (x, d ++ b) → Alike a b one other
given_alike x [] e e' = beyond (rw e (omega arith))
given_alike x (l ∷ ls) e e' = both x (l ∷ ls) (omega arith) e e'

-- the fault stands at the first of some lexemes
pub failed_alike : {A : Type 0} (a b : List Lexeme) (one other : Read A) (d : List Lexeme) → one ≡ Err (length (d ++ a)) → other ≡ Err (length (d ++ b)) → Alike a b one other
failed_alike a b one other [] e e' = beyond (rw e (omega arith))
failed_alike a b one other (l ∷ ls) e e' = neither (suc (length ls)) (omega arith) (e ∙ ap Err (omega (arith, length-append ls a))) (e' ∙ ap Err (omega (arith, length-append ls b)))

-- a rule that spells more
pub reaches_wider : {A : Type 0} {Q : Rule A} {R : Rule A} {r : Reading A} → ((from : List Lexeme) (x : A) (rest : List Lexeme) → Q from x rest → R from x rest) → Reaches Q r → Reaches R r
reaches_wider to one = record {
  sound = λ from x rest e. to from x rest (one.sound from x rest e);
  grows = λ from n e. let g = one.grows from n e in record { front = g.front; rest = g.rest; is = g.is; size = g.size; more = g.more; value = g.value; spans = λ other. to ((g.front ++ g.more) ++ other) g.value other (g.spans other) };
  within = one.within;
  local = one.local;
}

pub filled_wider : {A : Type 0} {Q : Rule A} {R : Rule A} → ((from : List Lexeme) (x : A) (rest : List Lexeme) → Q from x rest → R from x rest) → Filled Q → Filled R
filled_wider to f = record { more = f.more; value = f.value; spans = λ other. to (f.more ++ other) f.value other (f.spans other) }

pub used_wider : {A : Type 0} {Q : Rule A} {R : Rule A} {from : List Lexeme} {x : A} {rest : List Lexeme} → ((from : List Lexeme) (x : A) (rest : List Lexeme) → Q from x rest → R from x rest) → Used Q from x rest → Used R from x rest
used_wider {x = x} to u = record { used = u.used; is = u.is; spans = λ other. to (u.used ++ other) x other (u.spans other) }

pub spelled_places : {A : Type 0} (x : A) → Places (spelled x) (give x)
spelled_places {A} x = record {
  reaches = record {
    sound = (spelled_agrees x).sound;
    grows = λ from n e. absurd cc;
    within = λ from. omega arith;
    local = λ c a b. given_alike x c refl refl;
  };
  spans = λ from y rest d. record { used = []; is = d.1; spans = λ other. (d.0, refl) };
  filled = record { more = []; value = x; spans = λ other. (refl, refl) };
}

module _ {A B : Type 0} {R : Rule A} {r : Reading A} {next : A → Rule B} {reading : A → Reading B} (one : Places R r) (other : (x : A) → Places (next x) (reading x)) where
  then_spans : (from : List Lexeme) (y : B) (rest : List Lexeme) → grammar.◌>>=◌ R next from y rest → Used (grammar.◌>>=◌ R next) from y rest
  then_spans from y rest d =
      let u = one.spans from d.0 d.1 d.2 in
      let v = (other d.0).spans d.1 y rest d.3 in
      record { used = u.used ++ v.used; is = u.is ∙ (ap (λ (ls : List Lexeme). u.used ++ ls) v.is ∙ sym (append_assoc u.used v.used rest)); spans = join_spans R next u.used v.used d.0 y u.spans v.spans }

  then_filled : Filled (grammar.◌>>=◌ R next)
  then_filled =
      let f = one.filled in
      let g = (other f.value).filled in
      record { more = f.more ++ g.more; value = g.value; spans = join_spans R next f.more g.more f.value g.value f.spans g.spans }

  then_grows : (from : List Lexeme) (n : ℕ) → reader.◌>>=◌ r reading from ≡ Err n → Grown (grammar.◌>>=◌ R next) from n
  then_grows from n e = of (r from) refl e
    where
      of : (read : Read A) → r from ≡ read → and_then read reading ≡ Err n → Grown (grammar.◌>>=◌ R next) from n
      of (Err m) is e' =
          let g = one.reaches.grows from m is in
          let f = (other g.value).filled in
          let same : m ≡ n = cc in
          record { front = g.front; rest = g.rest; is = g.is; size = g.size ∙ same; more = g.more ++ f.more; value = f.value; spans = same_spans (grammar.◌>>=◌ R next) f.value (append_assoc g.front g.more f.more) (join_spans R next (g.front ++ g.more) f.more g.value f.value g.spans f.spans) }
      of (Ok x) is e' =
          let u = one.spans from x.0 x.1 (one.reaches.sound from x.0 x.1 is) in
          let g = (other x.0).reaches.grows x.1 n e' in
          record {
            front = u.used ++ g.front;
            rest = g.rest;
            is = u.is ∙ (ap (λ (ls : List Lexeme). u.used ++ ls) g.is ∙ sym (append_assoc u.used g.front g.rest));
            size = g.size;
            more = g.more;
            value = g.value;
            spans = same_spans (grammar.◌>>=◌ R next) g.value (sym (append_assoc u.used g.front g.more)) (join_spans R next u.used (g.front ++ g.more) x.0 g.value u.spans g.spans);
          }

  then_left : (read : Read A) (most : ℕ) → left read ≤ most → left (and_then read reading) ≤ most
  then_left (Err m) most h = h
  then_left (Ok x) most h = omega (arith, h, (other x.0).reaches.within x.1)

  then_local : (c a b : List Lexeme) → Alike a b (reader.◌>>=◌ r reading (c ++ a)) (reader.◌>>=◌ r reading (c ++ b))
  then_local c a b = of (one.reaches.local c a b)
    where
      of : Alike a b (r (c ++ a)) (r (c ++ b)) → Alike a b (reader.◌>>=◌ r reading (c ++ a)) (reader.◌>>=◌ r reading (c ++ b))
      of (both x d some e e') = rw (e, e') ((other x).reaches.local d a b)
      of (neither n some e e') = neither n some (rw e refl) (rw e' refl)
      of (beyond h) = beyond (then_left (r (c ++ a)) (length a) h)

  then_sound : Sound (grammar.◌>>=◌ R next) (reader.◌>>=◌ r reading)
  then_sound from y rest e =
      let s = steps (r from) reading (y, rest) e in
      (s.value, s.mid, one.reaches.sound from s.value s.mid s.first, (other s.value).reaches.sound s.mid y rest s.second)

  pub then_places : Places (grammar.◌>>=◌ R next) (reader.◌>>=◌ r reading)
  then_places = record {
    reaches = record { sound = then_sound; grows = then_grows; within = λ from. then_left (r from) (length from) (one.reaches.within from); local = then_local };
    spans = then_spans;
    filled = then_filled;
  }

-- a node made of what is read
pub node_places : {A B : Type 0} {R : Rule A} {r : Reading A} (node : A → B) → Places R r → Places (grammar.◌>>=◌ R (λ x. spelled (node x))) (reader.◌>>=◌ r (λ x. give (node x)))
node_places node one = then_places one (λ x. spelled_places (node x))

-- a lexeme of a kind
abbrev pub plain : TokenKind → Lexeme
plain kind = record { kind = kind; text = []; place = record { line = 1; column = 1 } }

pub lexeme_places : (kind : TokenKind) → Places (lexeme kind) (lexeme_at kind)
lexeme_places kind = record {
  reaches = record { sound = (lexeme_agrees kind).sound; grows = grow; within = inside; local = alike };
  spans = λ from x rest d. record { used = x ∷ []; is = d.0; spans = λ other. (refl, d.1) };
  filled = fills;
}
  where
    fills : Filled (lexeme kind)
    fills = record { more = plain kind ∷ []; value = plain kind; spans = λ other. (refl, refl) }

    taken : (l : Lexeme) (ls : List Lexeme) (n : ℕ) (same : Bool) → if same then Ok (l, ls) else reader.fail {A = Lexeme} (l ∷ ls) ≡ Err n → length (l ∷ ls) ≡ n
    taken l ls n true e = absurd cc
    taken l ls n false e = cc

    grow : (from : List Lexeme) (n : ℕ) → lexeme_at kind from ≡ Err n → Grown (lexeme kind) from n
    grow [] n e = let size : 0 ≡ n = cc in grown_here [] n size fills
    grow (l ∷ ls) n e = grown_here (l ∷ ls) n (taken l ls n (is_kind l.kind kind) e) fills

    at : (l : Lexeme) (ls : List Lexeme) (same : Bool) → left {A = Lexeme} (if same then Ok (l, ls) else Err (suc (length ls))) ≤ suc (length ls)
    at l ls true = omega arith
    at l ls false = omega arith

    inside : (from : List Lexeme) → left (lexeme_at kind from) ≤ length from
    inside [] = omega arith
    inside (l ∷ ls) = at l ls (is_kind l.kind kind)

    alike_at : (l : Lexeme) (ls a b : List Lexeme) (same : Bool) → Alike a b (if same then Ok (l, ls ++ a) else Err (suc (length (ls ++ a)))) (if same then Ok (l, ls ++ b) else Err (suc (length (ls ++ b))))
    alike_at l ls a b true = given_alike l ls refl refl
    alike_at l ls a b false = failed_alike a b _ _ (l ∷ ls) refl refl

    alike : (c a b : List Lexeme) → Alike a b (lexeme_at kind (c ++ a)) (lexeme_at kind (c ++ b))
    alike [] a b = beyond (inside a)
    alike (l ∷ ls) a b = alike_at l ls a b (is_kind l.kind kind)

pub token_places : (kind : TokenKind) → Places (token kind) (token_at kind)
token_places kind = node_places written (lexeme_places kind)

pub place_places : (kind : TokenKind) → Places (grammar.◌>>=◌ (lexeme kind) (λ l. spelled l.place)) (place_at kind)
place_places kind = node_places (λ (l : Lexeme). l.place) (lexeme_places kind)

pub keyword_places : (word : Keyword) → Places (keyword word) (keyword_at word)
keyword_places word = place_places (S.Reserved word)

pub sign_places : (s : Sign) → Places (sign s) (sign_at s)
sign_places s = place_places (S.Sign s)

pub behind_places : {A : Type 0} {R : Rule A} {r : Reading A} (s : Sign) → Places R r → Places (behind s R) (behind_at s r)
behind_places s one = then_places (sign_places s) (λ _. one)

pub before_places : {A : Type 0} {R : Rule A} {r : Reading A} (s : Sign) → Places R r → Places (before R s) (before_at r s)
before_places s one = then_places one (λ x. then_places (sign_places s) (λ _. spelled_places x))

pub between_places : {A : Type 0} {R : Rule A} {r : Reading A} (s t : Sign) → Places R r → Places (between s R t) (between_at s r t)
between_places s t one = behind_places s (before_places t one)

-- what takes a lexeme first takes one
pub takes_first : {A B : Type 0} {R : Rule A} {next : A → Rule B} {reading : A → Reading B} → Takes R → ((x : A) → Places (next x) (reading x)) → Takes (grammar.◌>>=◌ R next)
takes_first takes other = record { less = λ from y rest d. let v = (other d.0).spans d.1 y rest d.3 in omega (arith, takes.less from d.0 d.1 d.2, ap length v.is, length-append v.used rest) }
