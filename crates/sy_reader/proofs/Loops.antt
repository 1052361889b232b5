-- Reading as many as there are, as a loop does.
use Rattle.std.proofs.Common.{◌≡◌, ℕ, zero, suc, ◌+◌, ◌-◌, ◌≤◌, ◌<◌, Bool, true, false, List, [], ◌∷◌, ◌++◌, length, Result, Ok, Err, refl, sym, ap, ◌∙◌, append_assoc, arith}
use Rattle.std.proofs.lemmas.List.{append-nil, length-append}
use Rattle.sy_reader.specs.declared.fault.Fault.{Fault}
use Rattle.sy_reader.specs.declared.fault.Fault.TheVariants as F
use Rattle.sy_lex.specs.Lexemes.{Lexeme}
use Rattle.sy_lex.specs.declared.token.TokenKind.{TokenKind}
use Rattle.sy_reader.specs.Machine.Reading.{Read, Reading, and_then, give, and_more, next_passes, while_at, many_at, with_first, Reads, begins_with, is_kind, each_behind, listed_at}
use Rattle.sy_lex.specs.declared.sign.Sign.TheVariants.{Comma}

regroup : {A : Type 0} (front : List A) (x : A) (read : Read (List A)) → and_then (with_first x read) (λ xs. give (front ++ xs)) ≡ and_then read (λ xs. give ((front ++ x ∷ []) ++ xs))
regroup front x (Ok found) = ap (λ (xs : List _). Ok (xs, found.1)) (simp append_assoc)
regroup front x (Err left) = refl

module _ {A : Type 0} (test : TokenKind → Bool) (item : Reading A) where
  -- one more
  pub turn : (front : List A) (most : ℕ) (rest : List Lexeme) (x : A) (after : List Lexeme) (total : Read (List A)) → next_passes test rest ≡ true → item rest ≡ Ok (x, after)
      → and_more front (while_at test item (suc most)) rest ≡ total → and_more (front ++ x ∷ []) (while_at test item most) after ≡ total
  unfolding while_at
  turn front most rest x after total passes found so_far =
      let one : and_more front (while_at test item (suc most)) rest ≡ and_more (front ++ x ∷ []) (while_at test item most) after = rw (passes, found) (regroup front x (while_at test item most after)) in
      sym one ∙ so_far

  -- one that can't be read
  pub turn_fails : (front : List A) (most : ℕ) (rest : List Lexeme) (left : ℕ) (total : Read (List A)) → next_passes test rest ≡ true → item rest ≡ Err left
      → and_more front (while_at test item (suc most)) rest ≡ total → total ≡ Err left
  unfolding while_at
  turn_fails front most rest left total passes failed so_far =
      let one : and_more front (while_at test item (suc most)) rest ≡ Err left = rw (passes, failed) refl in
      sym so_far ∙ one

  -- no more
  pub turn_ends : (front : List A) (most : ℕ) (rest : List Lexeme) (total : Read (List A)) → next_passes test rest ≡ false
      → and_more front (while_at test item most) rest ≡ total → total ≡ Ok (front, rest)
  unfolding while_at
  turn_ends front zero rest total stops so_far = sym so_far ∙ ap (λ (xs : List A). Ok (xs, rest)) (append-nil front)
  turn_ends front (suc most) rest total stops so_far =
      let one : and_more front (while_at test item (suc most)) rest ≡ Ok (front, rest) = rw stops (ap (λ (xs : List A). Ok (xs, rest)) (append-nil front)) in
      sym so_far ∙ one

  -- as many as may be
  pub turn_full : (front : List A) (rest : List Lexeme) (total : Read (List A)) → and_more front (while_at test item 0) rest ≡ total → total ≡ Ok (front, rest)
  unfolding while_at
  turn_full front rest total so_far = sym so_far ∙ ap (λ (xs : List A). Ok (xs, rest)) (append-nil front)

-- what reading does where one is there
pub while_first : {A : Type 0} (test : TokenKind → Bool) (item : Reading A) (most : ℕ) (rest : List Lexeme) → next_passes test rest ≡ true
    → while_at test item (suc most) rest ≡ and_then (item rest) (λ x more. with_first x (while_at test item most more))
unfolding while_at
while_first test item most rest passes = rw passes refl

pub passing_some : (test : TokenKind → Bool) (rest : List Lexeme) → next_passes test rest ≡ true → 0 < length rest
passing_some test [] passes = absurd cc
passing_some test (l ∷ ls) passes = omega arith

-- the loop that reads all there are, where `limit` is how many lexemes it began with
module _ {A : Type 0} (test : TokenKind → Bool) (item : Reading A) (front : List A) (limit : ℕ) (rest : List Lexeme) (total : Read (List A)) where
  pub one_more : (new : List A) (x : A) (after : List Lexeme) → new ≡ front ++ x ∷ [] → next_passes test rest ≡ true → item rest ≡ Ok (x, after)
      → length rest + length front ≤ limit → and_more front (while_at test item (limit - length front)) rest ≡ total
      → and_more new (while_at test item (limit - length new)) after ≡ total
  one_more new x after is passes found fits so_far =
      let some = passing_some test rest passes in
      let longer : length (front ++ x ∷ []) ≡ length front + 1 = length-append front (x ∷ []) in
      let count : limit - length front ≡ suc (limit - length (front ++ x ∷ [])) = omega arith in
      rw is (turn test item front (limit - length (front ++ x ∷ [])) rest x after total passes found (rw count at so_far))

  pub one_fails : (left : ℕ) → next_passes test rest ≡ true → item rest ≡ Err left → length rest + length front ≤ limit
      → and_more front (while_at test item (limit - length front)) rest ≡ total → total ≡ Err left
  one_fails left passes failed fits so_far =
      let some = passing_some test rest passes in
      let count : limit - length front ≡ suc (limit - length front - 1) = omega arith in
      turn_fails test item front (limit - length front - 1) rest left total passes failed (rw count at so_far)

  pub reads_fail : (fault : Fault) (old new : List Lexeme) → next_passes test rest ≡ true → Reads {A = A} (Err fault) rest new item → length rest + length front ≤ limit
      → and_more front (while_at test item (limit - length front)) rest ≡ total → total ≡ many_at test item old → Reads {A = List A} (Err fault) old new (many_at test item)
  reads_fail F.Memory old new passes failed fits so_far is = tt
  reads_fail (F.Syntax left) old new passes failed fits so_far is = sym is ∙ one_fails left passes failed fits so_far

-- the loop that reads at most so many
module _ {A : Type 0} (test : TokenKind → Bool) (item : Reading A) (front : List A) (left : ℕ) (rest : List Lexeme) (total : Read (List A)) where
  pub one_of_few : (new : List A) (x : A) (after : List Lexeme) → new ≡ front ++ x ∷ [] → 0 < left → next_passes test rest ≡ true → item rest ≡ Ok (x, after)
      → and_more front (while_at test item left) rest ≡ total → and_more new (while_at test item (left - 1)) after ≡ total
  one_of_few new x after is some passes found so_far =
      let count : left ≡ suc (left - 1) = omega arith in
      rw is (turn test item front (left - 1) rest x after total passes found (rw count at so_far))

  pub few_fail : (fault : Fault) (new : List Lexeme) → 0 < left → next_passes test rest ≡ true → Reads {A = A} (Err fault) rest new item
      → and_more front (while_at test item left) rest ≡ total → (old : List Lexeme) (all : Reading (List A)) → total ≡ all old → Reads {A = List A} (Err fault) old new all
  few_fail F.Memory new some passes failed so_far old all is = tt
  few_fail (F.Syntax n) new some passes failed so_far old all is =
      let count : left ≡ suc (left - 1) = omega arith in
      sym is ∙ turn_fails test item front (left - 1) rest n total passes failed (rw count at so_far)

-- nothing in front
pub none_in_front : {A : Type 0} (reading : Reading (List A)) (lexemes : List Lexeme) → and_more [] reading lexemes ≡ reading lexemes
none_in_front {A = A} reading lexemes = none_before (reading lexemes)
  where
    none_before : (read : Read (List A)) → and_then read (λ xs. give ([] ++ xs)) ≡ read
    none_before (Ok x) = refl
    none_before (Err left) = refl

pub reads_none_in_front : {A : Type 0} (result : Result (List A) Fault) (old new : List Lexeme) (reading : Reading (List A)) → Reads result old new (and_more [] reading) → Reads result old new reading
reads_none_in_front (Ok x) old new reading e = sym (none_in_front reading old) ∙ e
reads_none_in_front (Err F.Memory) old new reading e = tt
reads_none_in_front (Err (F.Syntax left)) old new reading e = sym (none_in_front reading old) ∙ e

-- two readings that give the same there
pub reads_same : {A : Type 0} (result : Result A Fault) (from old new : List Lexeme) (one other : Reading A) → one from ≡ other old → Reads result from new one → Reads result old new other
reads_same (Ok x) from old new one other is e = sym is ∙ e
reads_same (Err F.Memory) from old new one other is e = tt
reads_same (Err (F.Syntax left)) from old new one other is e = sym is ∙ e

pub begins_is : (kind : TokenKind) (lexemes : List Lexeme) → begins_with kind lexemes ≡ next_passes (λ found. is_kind found kind) lexemes
begins_is kind [] = refl
begins_is kind (l ∷ ls) = refl

-- a list from its first part and the others
pub listed_from : {A : Type 0} (reading : Reading A) (first : A) (front : List A) (old mid : List Lexeme) → reading old ≡ Ok (first, mid) → front ≡ first ∷ []
    → and_more front (each_behind Comma reading (length mid)) mid ≡ listed_at reading old
listed_from reading first front old mid found is = rw (found, is) refl
