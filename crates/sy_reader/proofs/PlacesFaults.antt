-- A fault stands at the first lexeme after which those so far begin no file, or at the end.
use Rattle.std.proofs.Common.{◌≡◌, ◌⊎◌, inl, inr, ℕ, ◌+◌, ◌-◌, ◌≤◌, ◌<◌, List, [], ◌∷◌, ◌++◌, length, take, drop, Result, Ok, Err, refl, sym, ap, subst, ◌∙◌, arith}
use Rattle.std.proofs.lemmas.List.{append_assoc, append-nil, length-append, length-drop, length-map, length-take-le, take-append-drop, take-append-le}
use Rattle.std.proofs.lemmas.Bool.{cases_order}
use Rattle.std.proofs.Math.Seq.{take-append_seam}
use Rattle.sy_lex.specs.Lexemes.{Lexeme}
use Rattle.sy_reader.specs.Grammar.{Rule}
use Rattle.sy_base.specs.declared.refusal.FileKind.{FileKind}
use Rattle.sy_base.specs.declared.refusal.Refusal.{Refusal}
use Rattle.sy_base.specs.declared.refusal.Refused.TheVariants as refused
use Rattle.sy_lex.specs.declared.token.Token.{Token}
use Rattle.sy_lex.specs.Lexemes.{lexeme_of, lexemes_of}
use Rattle.sy_reader.specs.Faults.{Begins, IsFaultAt, IsSyntaxFault, syntax_fault}
use Rattle.sy_reader.proofs.Agreeing.{whole_spelled}
use Rattle.sy_reader.specs.Machine.Reading.{Read, Reading, whole_of, whole_at}
use Rattle.sy_reader.proofs.Agree.{Behind, Agrees}
use Rattle.sy_reader.proofs.Places.{left, Alike, both, neither, beyond, Places}

-- what spells a whole file by a rule
abbrev pub Whole : {A : Type 0} → Rule A → A → List Lexeme → Type 0
Whole R tree lexemes = R lexemes tree []

-- where not all is read, so many lexemes are left
left_is : {A : Type 0} (read : Read A) (n : ℕ) → whole_of read ≡ Err n → left read ≡ n
left_is (Ok (x, [])) n e = absurd cc
left_is (Ok (x, l ∷ ls)) n e = cc
left_is (Err m) n e = cc

front_is : (lexemes front rest : List Lexeme) (n : ℕ) → lexemes ≡ front ++ rest → length rest ≡ n → take (length lexemes - n) lexemes ≡ front
front_is lexemes front rest n is size =
    let count : length lexemes - n ≡ length front = omega (arith, ap length is, length-append front rest, size) in
    rw (count, is) (take-append_seam front rest)

module _ {A : Type 0} {R : Rule A} {r : Reading A} {F : Behind} (one : Agrees R r F) (ends : F []) (places : Places R r) where
  refuses : (c a : List Lexeme) (n : ℕ) → whole_at r (c ++ a) ≡ Err n → length a < n → (more : List Lexeme) (tree : A) → R (c ++ more) tree [] → ⊥
  refuses c a n e under more tree d = of (places.reaches.local c a more)
    where
      read : r (c ++ more) ≡ Ok (tree, [])
      read = one.complete (c ++ more) tree [] d ends

      none_left : (x : A) (rest : List Lexeme) → r (c ++ more) ≡ Ok (x, rest) → length rest ≡ 0
      none_left x rest e' =
          let agree = sym e' ∙ read in
          let pair : (x, rest) ≡ (tree, []) = cc in
          ap (λ (y : A × List Lexeme). length y.1) pair

      of : Alike a more (r (c ++ a)) (r (c ++ more)) → ⊥
      of (both x d some e1 e2) = let is = none_left x (d ++ more) e2 in absurd (omega (arith, is, length-append d more))
      of (neither m some e1 e2) = let agree = sym e2 ∙ read in absurd cc
      of (beyond h) = let is = left_is (r (c ++ a)) n e in absurd (omega arith)

  fault_begins : (lexemes : List Lexeme) (n : ℕ) → whole_at r lexemes ≡ Err n → Begins (Whole R) (take (length lexemes - n) lexemes)
  fault_begins lexemes n e = of (r lexemes) refl e
    where
      of : (read : Read A) → r lexemes ≡ read → whole_of read ≡ Err n → Begins (Whole R) (take (length lexemes - n) lexemes)
      of (Ok (x, [])) is e' = absurd cc
      of (Ok (x, l ∷ ls)) is e' =
          let u = places.spans lexemes x (l ∷ ls) (places.reaches.sound lexemes x (l ∷ ls) is) in
          let size : length (l ∷ ls) ≡ n = cc in
          record { more = []; tree = x; is = subst (λ (front : List Lexeme). R (front ++ []) x []) (sym (front_is lexemes u.used (l ∷ ls) n u.is size)) (u.spans []) }
      of (Err m) is e' =
          let g = places.reaches.grows lexemes m is in
          let same : m ≡ n = cc in
          let whole : R (g.front ++ g.more) g.value [] = subst (λ (ls : List Lexeme). R ls g.value []) (append-nil (g.front ++ g.more)) (g.spans []) in
          record { more = g.more; tree = g.value; is = subst (λ (front : List Lexeme). R (front ++ g.more) g.value []) (sym (front_is lexemes g.front g.rest n g.is (g.size ∙ same))) whole }

  fault_stops : (lexemes : List Lexeme) (n : ℕ) → whole_at r lexemes ≡ Err n → length lexemes - n < length lexemes → Begins (Whole R) (take (length lexemes - n + 1) lexemes) → ⊥
  fault_stops lexemes n e some begun =
      let k = length lexemes - n + 1 in
      let parts : lexemes ≡ take k lexemes ++ drop k lexemes = sym (take-append-drop k lexemes) in
      let e' : whole_at r (take k lexemes ++ drop k lexemes) ≡ Err n = subst (λ (ls : List Lexeme). whole_at r ls ≡ Err n) parts e in
      let within : left (r lexemes) ≤ length lexemes = places.reaches.within lexemes in
      refuses (take k lexemes) (drop k lexemes) n e' (omega (arith, length-drop k lexemes, left_is (r lexemes) n e, within)) begun.more begun.tree begun.is

  fault_none : (lexemes : List Lexeme) (n : ℕ) → whole_at r lexemes ≡ Err n → (tree : A) → R lexemes tree [] → ⊥
  fault_none lexemes n e tree d =
      let all : whole_at r lexemes ≡ Ok tree = ap whole_of (one.complete lexemes tree [] d ends) in
      let agree = sym e ∙ all in
      absurd cc

  pub whole_fault : (lexemes : List Lexeme) (n : ℕ) → whole_at r lexemes ≡ Err n → IsFaultAt (Whole R) lexemes (length lexemes - n)
  whole_fault lexemes n e = record { within = omega arith; none = fault_none lexemes n e; begins = fault_begins lexemes n e; stops = fault_stops lexemes n e }

module _ {A : Type 0} {spells : A → List Lexeme → Type 0} (lexemes : List Lexeme) where
  -- what begins a file begins one with fewer lexemes
  begins_less : (n m : ℕ) → n ≤ m → m ≤ length lexemes → Begins spells (take m lexemes) → Begins spells (take n lexemes)
  begins_less n m under within begun =
      let split : take n (take m lexemes) ++ drop n (take m lexemes) ≡ take m lexemes = take-append-drop n (take m lexemes) in
      let long : length (take m lexemes) ≡ m = length-take-le m lexemes within in
      let front : take n (take m lexemes) ≡ take n lexemes = sym (take-append-le n (take m lexemes) (drop m lexemes) (omega (arith, long))) ∙ ap (take n) (take-append-drop m lexemes) in
      let more = drop n (take m lexemes) ++ begun.more in
      let same : take m lexemes ++ begun.more ≡ take n lexemes ++ more = ap (λ (ls : List Lexeme). ls ++ begun.more) (sym split) ∙ (append_assoc (take n (take m lexemes)) (drop n (take m lexemes)) begun.more ∙ ap (λ (ls : List Lexeme). ls ++ more) front) in
      record { more = more; tree = begun.tree; is = subst (λ (ls : List Lexeme). spells begun.tree ls) same begun.is }

  not_before : (n m : ℕ) → IsFaultAt spells lexemes n → IsFaultAt spells lexemes m → n < m → ⊥
  not_before n m one other before = one.stops (omega (arith, other.within)) (begins_less (n + 1) m (omega arith) other.within other.begins)

  pub one_fault : (n m : ℕ) → IsFaultAt spells lexemes n → IsFaultAt spells lexemes m → n ≡ m
  one_fault n m one other = of (cases_order n m)
    where
      of : (n ≡ m) ⊎ ((n < m) ⊎ (m < n)) → n ≡ m
      of (inl same) = same
      of (inr (inl before)) = absurd (not_before n m one other before)
      of (inr (inr behind)) = absurd (not_before m n other one behind)

-- two refusals that stand where a fault does are one
pub one_refusal : {A : Type 0} (file : FileKind) (spells : A → List Lexeme → Type 0) (source : List ℕ) (tokens : List Token) (refusal other : Refusal)
    → IsSyntaxFault file spells source tokens (refused.Refusal refusal) → IsSyntaxFault file spells source tokens (refused.Refusal other) → refusal ≡ other
one_refusal file spells source tokens refusal other one two =
    let same = one_fault (lexemes_of source tokens) one.0 two.0 one.1 two.1 in
    one.2 ∙ (ap (λ (n : ℕ). syntax_fault file source (drop n tokens)) same ∙ sym two.2)

module _ {A : Type 0} {R : Rule A} {r : Reading A} {F : Behind} (one : Agrees R r F) (ends : F []) (places : Places R r) (file : FileKind) (source : List ℕ) (tokens : List Token) where
  abbrev lexemes : List Lexeme
  lexemes = lexemes_of source tokens

  -- where the tokens go wrong
  pub token_fault : (n : ℕ) → whole_at r lexemes ≡ Err n → IsFaultAt (Whole R) lexemes (length tokens - n)
  token_fault n e = subst (λ (k : ℕ). IsFaultAt (Whole R) lexemes (k - n)) (length-map tokens (lexeme_of source)) (whole_fault one ends places lexemes n e)

  -- the tokens spell something or go wrong
  pub tree_or_fault : ((tree : A) × R lexemes tree []) ⊎ ((refusal : Refusal) × IsSyntaxFault file (Whole R) source tokens (refused.Refusal refusal))
  tree_or_fault = of (whole_at r lexemes) refl
    where
      of : (read : Result A ℕ) → whole_at r lexemes ≡ read → ((tree : A) × R lexemes tree []) ⊎ ((refusal : Refusal) × IsSyntaxFault file (Whole R) source tokens (refused.Refusal refusal))
      of (Ok tree) e = inl (tree, whole_spelled one ends tree lexemes e)
      of (Err n) e = inr (syntax_fault file source (drop (length tokens - n) tokens), (length tokens - n, token_fault n e, refl))
