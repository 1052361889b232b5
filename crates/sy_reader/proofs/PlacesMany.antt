-- Lists of items, and where a text goes wrong in them.
use Rattle.std.proofs.Common.{◌≡◌, ◌⊎◌, inl, inr, ℕ, zero, suc, ◌≤◌, ◌<◌, Bool, true, false, not, if◌then◌else◌, List, [], ◌∷◌, ◌++◌, length, Ok, Err, refl, sym, ap, subst, ◌∙◌, arith}
use Rattle.std.proofs.lemmas.List.{append_assoc, length-append}
use Rattle.sy_lex.specs.declared.sign.Sign.{Sign}
use Rattle.sy_lex.specs.declared.sign.Sign.TheVariants.{Comma, Semicolon}
use Rattle.sy_lex.specs.declared.token.TokenKind.{TokenKind}
use Rattle.sy_lex.specs.declared.token.TokenKind.TheVariants as S
use Rattle.sy_lex.specs.Lexemes.{Lexeme}
use Rattle.sy_reader.specs.Grammar.{Rule, Many, none, more, many, up_to, behind, before, listed, maybe_listed, ended}
use Rattle.sy_reader.specs.Machine.Reading.{Read, Reading, and_then, is_kind, next_passes, with_first, while_at, many_at, behind_at, listed_at, maybe_listed_at}
use Rattle.sy_reader.specs.Machine.ReadingLines.{ended_at}
use Rattle.sy_reader.proofs.Agree.{Takes, sign_takes}
use Rattle.sy_reader.proofs.AgreeMany.{while_sound}
use Rattle.sy_reader.proofs.Places.{Spans, Used, Grown, left, Alike, both, neither, beyond, Places, given_alike, then_places, node_places, behind_places, before_places, takes_first, same_spans}
use Rattle.sy_reader.proofs.PlacesChoices.{unless_places}

-- one item more in front
many_more : {A : Type 0} (R : Rule A) (u v : List Lexeme) (x : A) (xs : List A) → Spans R u x → Spans (many R) v xs → Spans (many R) (u ++ v) (x ∷ xs)
many_more R u v x xs s t other = more ((u ++ v) ++ other) x (v ++ other) xs other (subst (λ (ls : List Lexeme). R ls x (v ++ other)) (sym (append_assoc u v other)) (s (v ++ other))) (t other)

many_spans : {A : Type 0} (R : Rule A) {r : Reading A} → Places R r → (from : List Lexeme) (xs : List A) (rest : List Lexeme) → Many R from xs rest → Used (many R) from xs rest
many_spans R one from xs rest (none rest') = record { used = []; is = refl; spans = λ other. none other }
many_spans R one from xs rest (more from' x mid xs' rest' d ds) =
    let u = one.spans from' x mid d in
    let v = many_spans R one mid xs' rest' ds in
    record { used = u.used ++ v.used; is = u.is ∙ (ap (λ (ls : List Lexeme). u.used ++ ls) v.is ∙ sym (append_assoc u.used v.used rest')); spans = many_more R u.used v.used x xs' u.spans v.spans }

-- with one in front, if nothing else
first_alike : {A : Type 0} {a b : List Lexeme} (x : A) (one other : Read (List A)) → Alike a b one other → Alike a b (with_first x one) (with_first x other)
first_alike x one other (both xs d some e e') = both (x ∷ xs) d some (rw e refl) (rw e' refl)
first_alike x one other (neither n some e e') = neither n some (rw e refl) (rw e' refl)
first_alike {a = a} x one other (beyond h) = beyond (of one h)
  where
    of : (read : Read (List _)) → left read ≤ length a → left (with_first x read) ≤ length a
    of (Ok found) h = h
    of (Err n) h = h

first_left : {A : Type 0} (x : A) (read : Read (List A)) (most : ℕ) → left read ≤ most → left (with_first x read) ≤ most
first_left x (Ok found) most h = h
first_left x (Err n) most h = h

module _ {A : Type 0} {R : Rule A} {r : Reading A} (test : TokenKind → Bool) (one : Places R r) (takes : Takes R) where
  -- the items behind the first
  abbrev later : ℕ → A → Reading (List A)
  later most x rest = with_first x (while_at test r most rest)

  later_left : (most limit : ℕ) → ((rest : List Lexeme) → left (while_at test r most rest) ≤ length rest) → (read : Read A) → left read ≤ limit → left (and_then read (later most)) ≤ limit
  later_left most limit inside (Err n) h = h
  later_left most limit inside (Ok x) h = first_left x.0 (while_at test r most x.1) limit (omega (arith, h, inside x.1))

  while_within : (most : ℕ) (from : List Lexeme) → left (while_at test r most from) ≤ length from
  unfolding while_at
  while_within zero from = omega arith
  while_within (suc most) from = at (next_passes test from) (while_within most)
    where
      at : (passes : Bool) → ((rest : List Lexeme) → left (while_at test r most rest) ≤ length rest) → left (if passes then and_then (r from) (later most) else Ok ([], from)) ≤ length from
      at true inside = later_left most (length from) inside (r from) (one.reaches.within from)
      at false inside = omega arith

  while_grows : (most : ℕ) (from : List Lexeme) (n : ℕ) → while_at test r most from ≡ Err n → Grown (up_to most R) from n
  unfolding while_at
  while_grows zero from n e = absurd cc
  while_grows (suc most) from n e = at (next_passes test from) e (while_grows most)
    where
      under : (x : A) (read : Read (List A)) → with_first x read ≡ Err n → read ≡ Err n
      under x (Ok found) e' = absurd cc
      under x (Err m) e' = e'

      found : (read : Read A) → r from ≡ read → and_then read (later most) ≡ Err n → ((rest : List Lexeme) (k : ℕ) → while_at test r most rest ≡ Err k → Grown (up_to most R) rest k) → Grown (up_to (suc most) R) from n
      found (Err m) is e' deeper =
          let g = one.reaches.grows from m is in
          let same : m ≡ n = cc in
          record {
            front = g.front;
            rest = g.rest;
            is = g.is;
            size = g.size ∙ same;
            more = g.more;
            value = g.value ∷ [];
            spans = λ other. (more ((g.front ++ g.more) ++ other) g.value other [] other (g.spans other) (none other), omega arith);
          }
      found (Ok x) is e' deeper =
          let u = one.spans from x.0 x.1 (one.reaches.sound from x.0 x.1 is) in
          let g = deeper x.1 n (under x.0 (while_at test r most x.1) e') in
          let joined = many_more R u.used (g.front ++ g.more) x.0 g.value u.spans (λ other. (g.spans other).0) in
          record {
            front = u.used ++ g.front;
            rest = g.rest;
            is = u.is ∙ (ap (λ (ls : List Lexeme). u.used ++ ls) g.is ∙ sym (append_assoc u.used g.front g.rest));
            size = g.size;
            more = g.more;
            value = x.0 ∷ g.value;
            spans = λ other. (same_spans (many R) (x.0 ∷ g.value) (sym (append_assoc u.used g.front g.more)) joined other, omega (arith, (g.spans other).1));
          }

      at : (passes : Bool) → if passes then and_then (r from) (later most) else Ok ([], from) ≡ Err n → ((rest : List Lexeme) (k : ℕ) → while_at test r most rest ≡ Err k → Grown (up_to most R) rest k) → Grown (up_to (suc most) R) from n
      at true e' deeper = found (r from) refl e' deeper
      at false e' deeper = absurd cc

  -- a count that doesn't cut the list short
  abbrev Suffices : ℕ → ℕ → List Lexeme → List Lexeme → List Lexeme → Type 0
  Suffices n m c a b = (n ≡ m) ⊎ ((length (c ++ a) ≤ n) × (length (c ++ b) ≤ m))

  while_local : (n m : ℕ) (c a b : List Lexeme) → Suffices n m c a b → Alike a b (while_at test r n (c ++ a)) (while_at test r m (c ++ b))
  unfolding while_at
  while_local n m [] a b enough = beyond (while_within n a)
  while_local zero zero (l ∷ ls) a b enough = given_alike [] (l ∷ ls) refl refl
  while_local zero (suc m) (l ∷ ls) a b (inl e) = absurd (omega (arith, e))
  while_local zero (suc m) (l ∷ ls) a b (inr h) = absurd (omega (arith, h.0))
  while_local (suc n) zero (l ∷ ls) a b (inl e) = absurd (omega (arith, e))
  while_local (suc n) zero (l ∷ ls) a b (inr h) = absurd (omega (arith, h.1))
  while_local (suc n) (suc m) (l ∷ ls) a b enough = at (test l.kind) (λ d. while_local n m d a b)
    where
      shorter : (behind : List Lexeme) (x : A) (d : List Lexeme) → r ((l ∷ ls) ++ behind) ≡ Ok (x, d ++ behind) → length (d ++ behind) < length ((l ∷ ls) ++ behind)
      shorter behind x d e = takes.less ((l ∷ ls) ++ behind) x (d ++ behind) (one.reaches.sound ((l ∷ ls) ++ behind) x (d ++ behind) e)

      less : (x : A) (d : List Lexeme) → r ((l ∷ ls) ++ a) ≡ Ok (x, d ++ a) → r ((l ∷ ls) ++ b) ≡ Ok (x, d ++ b) → Suffices (suc n) (suc m) (l ∷ ls) a b → Suffices n m d a b
      less x d e e' (inl same) = inl (omega (arith, same))
      less x d e e' (inr h) = inr (omega (arith, h.0, shorter a x d e), omega (arith, h.1, shorter b x d e'))

      of : ((d : List Lexeme) → Suffices n m d a b → Alike a b (while_at test r n (d ++ a)) (while_at test r m (d ++ b)))
          → Alike a b (r ((l ∷ ls) ++ a)) (r ((l ∷ ls) ++ b)) → Alike a b (and_then (r ((l ∷ ls) ++ a)) (later n)) (and_then (r ((l ∷ ls) ++ b)) (later m))
      of deeper (both x d some e e') = rw (e, e') (first_alike x (while_at test r n (d ++ a)) (while_at test r m (d ++ b)) (deeper d (less x d e e' enough)))
      of deeper (neither k some e e') = neither k some (rw e refl) (rw e' refl)
      of deeper (beyond h) = beyond (later_left n (length a) (while_within n) (r ((l ∷ ls) ++ a)) h)

      at : (passes : Bool) → ((d : List Lexeme) → Suffices n m d a b → Alike a b (while_at test r n (d ++ a)) (while_at test r m (d ++ b)))
          → Alike a b (if passes then and_then (r ((l ∷ ls) ++ a)) (later n) else Ok ([], (l ∷ ls) ++ a)) (if passes then and_then (r ((l ∷ ls) ++ b)) (later m) else Ok ([], (l ∷ ls) ++ b))
      at true deeper = of deeper (one.reaches.local (l ∷ ls) a b)
      at false deeper = given_alike [] (l ∷ ls) refl refl

  pub up_to_places : (most : ℕ) → Places (up_to most R) (while_at test r most)
  up_to_places most = record {
    reaches = record { sound = while_sound R r test one.reaches.sound most; grows = while_grows most; within = while_within most; local = λ c a b. while_local most most c a b (inl refl) };
    spans = λ from xs rest d. let u = many_spans R one from xs rest d.0 in record { used = u.used; is = u.is; spans = λ other. (u.spans other, d.1) };
    filled = record { more = []; value = []; spans = λ other. (none other, omega arith) };
  }

  pub many_places : Places (many R) (many_at test r)
  many_places = record {
    reaches = record {
      sound = λ from xs rest e. (while_sound R r test one.reaches.sound (length from) from xs rest e).0;
      grows = λ from n e. let g = while_grows (length from) from n e in record { front = g.front; rest = g.rest; is = g.is; size = g.size; more = g.more; value = g.value; spans = λ other. (g.spans other).0 };
      within = λ from. while_within (length from) from;
      local = λ c a b. while_local (length (c ++ a)) (length (c ++ b)) c a b (inr (omega arith, omega arith));
    };
    spans = many_spans R one;
    filled = record { more = []; value = []; spans = λ other. none other };
  }

pub behind_takes : {A : Type 0} {R : Rule A} {r : Reading A} (s : Sign) → Places R r → Takes (behind s R)
behind_takes s one = takes_first (sign_takes s) (λ _. one)

-- those behind a sign
pub all_behind_places : {A : Type 0} {R : Rule A} {r : Reading A} (s : Sign) → Places R r → Places (many (behind s R)) (many_at (λ kind. is_kind kind (S.Sign s)) (behind_at s r))
all_behind_places s one = many_places (λ kind. is_kind kind (S.Sign s)) (behind_places s one) (behind_takes s one)

pub listed_places : {A : Type 0} {R : Rule A} {r : Reading A} → Places R r → Places (listed R) (listed_at r)
listed_places one = then_places one (λ x. node_places (λ xs. x ∷ xs) (all_behind_places Comma one))

pub maybe_listed_places : {A : Type 0} {R : Rule A} {r : Reading A} (s : Sign) → Places R r → Places (maybe_listed R) (maybe_listed_at s r)
maybe_listed_places s one = unless_places (S.Sign s) [] (listed_places one)

pub before_takes_one : {A : Type 0} {R : Rule A} {r : Reading A} (s : Sign) → Places R r → Takes (before R s)
before_takes_one s one = record { less = λ from x rest d. let u = one.spans from d.0 d.1 d.2 in omega (arith, ap length u.is, length-append u.used d.1, (sign_takes s).less d.1 d.3.0 d.3.1 d.3.2, ap length d.3.3.1) }

pub lines_places : {A : Type 0} {R : Rule A} {r : Reading A} (is_heading : TokenKind → Bool) → Places R r → Places (ended R) (ended_at is_heading r)
lines_places is_heading one = many_places (λ kind. not (is_heading kind)) (before_places Semicolon one) (before_takes_one Semicolon one)
