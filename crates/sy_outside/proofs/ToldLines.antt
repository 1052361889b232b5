-- What a reader gives of a source that tells its bytes.
use Rattle.std.proofs.Common.{◌≡◌, ℕ, ◌<◌, ◌⊎◌, inl, inr, List, [], ◌∷◌, ◌++◌, length, take, drop, true, false, cond, eqb, refl, sym, ap, ◌∙◌, subst, append_assoc, append-nil, arith, Some, None, Ok, Err, Result, IsTrue}
use Rattle.std.proofs.lemmas.List.{take-append-drop, length-append, length-take-le}
use Rattle.std.specs.declared.option.Option.{Option}
use Rattle.std.specs.Io.KnownBytes.{Consumes, IsAtEnd}
use Rattle.std.specs.List.{onto_first}
use Rattle.sy_outside.specs.Lines.{has_newline, lines_of}
use Rattle.sy_outside.specs.LineReaderState.{LineReaderState}
use Rattle.sy_outside.specs.LineReading.{Next, CutsLines}
use Rattle.sy_outside.specs.declared.lines.Line.{Line}
use Rattle.sy_outside.specs.declared.lines.LineFault.{LineFault}
use Rattle.sy_outside.specs.declared.lines.LineFault.TheVariants.{ReadFault, TooLong, TooManyLines, Memory}
use Rattle.sy_outside.proofs.LineLemmas.{lines_of-line, lines_of-last}

-- the first line begins with these bytes
pub record BeginsWith (front bytes : List ℕ) : Type 0 where
  pub more : List ℕ
  pub lines : List (List ℕ)
  pub cut : lines_of bytes ≡ (front ++ more) ∷ lines

no_newline-tail : (x : ℕ) (xs : List ℕ) → has_newline (x ∷ xs) ≡ false → (eqb x 10 ≡ false) × (has_newline xs ≡ false)
no_newline-tail x xs p =
    elim (eqb x 10) as (λ b. cond b true (has_newline xs) ≡ false → (b ≡ false) × (has_newline xs ≡ false)) [
      | true ↦ λ q. absurd (cc)
      | false ↦ λ q. (refl, q)
    ] p

first_of : (x : ℕ) (lines : List (List ℕ)) → (line : List ℕ) × (rest : List (List ℕ)) × (onto_first x lines ≡ (x ∷ line) ∷ rest)
first_of x [] = ([], [], refl)
first_of x (l ∷ ls) = (l, ls, refl)

pub begins : (front ys : List ℕ) → 0 < length front → has_newline front ≡ false → BeginsWith front (front ++ ys)
begins [] ys h p = absurd (omega arith)
begins (x ∷ []) ys h p =
    let no = (no_newline-tail x [] p).0 in
    let f = first_of x (lines_of ys) in
    record { more = f.0; lines = f.1; cut = ap (λ b. cond b ([] ∷ lines_of ys) (onto_first x (lines_of ys))) no ∙ f.2 }
begins (x ∷ y ∷ xs) ys h p =
    let no = no_newline-tail x (y ∷ xs) p in
    let b = begins (y ∷ xs) ys (omega arith) no.1 in
    record {
      more = b.more;
      lines = b.lines;
      cut = ap (λ t. cond t ([] ∷ lines_of (y ∷ xs ++ ys)) (onto_first x (lines_of (y ∷ xs ++ ys)))) no.0 ∙ ap (onto_first x) b.cut;
    }

lines_of-whole : (line : List ℕ) → 0 < length line → has_newline line ≡ false → lines_of line ≡ line ∷ []
lines_of-whole [] h p = absurd (omega arith)
lines_of-whole (x ∷ xs) h p = lines_of-last x xs p

-- bytes that aren't none have a first line
some_line : (bytes : List ℕ) → 0 < length bytes → (line : List ℕ) × (lines : List (List ℕ)) × (lines_of bytes ≡ line ∷ lines)
some_line [] h = absurd (omega arith)
some_line (x ∷ xs) h =
    elim (eqb x 10) as (λ b. (line : List ℕ) × (lines : List (List ℕ)) × (cond b ([] ∷ lines_of xs) (onto_first x (lines_of xs)) ≡ line ∷ lines)) [
      | true ↦ ([], lines_of xs, refl)
      | false ↦ let f = first_of x (lines_of xs) in (x ∷ f.0, f.1, f.2)
    ]

-- a told source loses what was taken
pub taken_from : (bytes rest taken : List ℕ) (left : Option (List ℕ)) → left ≡ Some rest → Consumes (Some bytes) left taken → bytes ≡ taken ++ rest
taken_from bytes rest taken left e p = subst (λ l. Consumes (Some bytes) l taken) e p

module _ (old new : LineReaderState) (bytes rest : List ℕ) (left : Option (List ℕ)) (e : left ≡ Some rest) (synced : IsTrue old.ended → bytes ≡ []) where
  at_end : (taken : List ℕ) → bytes ≡ taken ++ rest → (IsTrue new.ended → IsTrue old.ended ⊎ IsAtEnd left) → IsTrue new.ended → rest ≡ []
  at_end taken p ends now = elim (ends now) [ inl was ↦ no_rest taken rest (sym p ∙ synced was) | inr over ↦ subst IsAtEnd e over ]
    where
      no_rest : (xs ys : List ℕ) → xs ++ ys ≡ [] → ys ≡ []
      no_rest [] ys q = q
      no_rest (x ∷ xs) ys q = absurd (cc)

  pub next-line : (line : Line) → Next old new (Some bytes) left (Ok (Some line)) → lines_of (old.held ++ bytes) ≡ line.bytes ∷ lines_of (new.held ++ rest)
  next-line line k =
      let split : bytes ≡ k.taken ++ rest = taken_from bytes rest k.taken left e k.consumed in
      let whole : old.held ++ bytes ≡ (old.held ++ k.taken) ++ rest = ap (λ l. old.held ++ l) split ∙ sym (append_assoc old.held k.taken rest) in
      elim k.cuts.splits [
        | inl cut ↦ ap lines_of (whole ∙ ap (λ l. l ++ rest) cut ∙ append_assoc line.bytes (10 ∷ new.held) rest) ∙ lines_of-line line.bytes (new.held ++ rest) k.cuts.one
        | inr last ↦
            let over : rest ≡ [] = at_end k.taken split k.ended last.3 in
            ap lines_of (whole ∙ ap (λ l. l ++ rest) last.0 ∙ ap (λ l. line.bytes ++ l) over ∙ append-nil line.bytes)
            ∙ lines_of-whole line.bytes last.2 k.cuts.one
            ∙ ap (λ l. line.bytes ∷ lines_of l) (sym ((λ i. last.1 i ++ over i)))
      ]

  pub next-none : Next old new (Some bytes) left (Ok None) → old.held ++ bytes ≡ []
  next-none k =
      let split : bytes ≡ k.taken ++ rest = taken_from bytes rest k.taken left e k.consumed in
      let over : rest ≡ [] = at_end k.taken split k.ended k.cuts.2 in
      ap (λ l. old.held ++ l) split ∙ sym (append_assoc old.held k.taken rest) ∙ (λ i. k.cuts.0 i ++ over i)

  pub next-long : Next old new (Some bytes) left (Err TooLong) → (line : List ℕ) × (lines : List (List ℕ)) × (lines_of (old.held ++ bytes) ≡ line ∷ lines) × (4096 < length line)
  next-long k =
      let split : bytes ≡ k.taken ++ rest = taken_from bytes rest k.taken left e k.consumed in
      let hand = old.held ++ k.taken in
      let whole : old.held ++ bytes ≡ take 4097 hand ++ (drop 4097 hand ++ rest) =
      ap (λ l. old.held ++ l) split ∙ sym (append_assoc old.held k.taken rest) ∙ ap (λ l. l ++ rest) (sym (take-append-drop 4097 hand)) ∙ append_assoc (take 4097 hand) (drop 4097 hand) rest in
      let size : length (take 4097 hand) ≡ 4097 = length-take-le 4097 hand k.cuts.0 in
      let b = begins (take 4097 hand) (drop 4097 hand ++ rest) (omega arith) k.cuts.1 in
      (take 4097 hand ++ b.more, b.lines, ap lines_of whole ∙ b.cut, omega (arith, length-append (take 4097 hand) b.more))

  pub next-many : Next old new (Some bytes) left (Err TooManyLines) → (line : List ℕ) × (lines : List (List ℕ)) × (lines_of (old.held ++ bytes) ≡ line ∷ lines)
  next-many k =
      let split : bytes ≡ k.taken ++ rest = taken_from bytes rest k.taken left e k.consumed in
      let whole : old.held ++ bytes ≡ (old.held ++ k.taken) ++ rest = ap (λ l. old.held ++ l) split ∙ sym (append_assoc old.held k.taken rest) in
      some_line (old.held ++ bytes) (omega (arith, k.cuts.0, ap length whole, length-append (old.held ++ k.taken) rest))

  pub next-synced : (result : Result (Option Line) LineFault) → Next old new (Some bytes) left result → IsTrue new.ended → rest ≡ []
  next-synced result k now = at_end k.taken (taken_from bytes rest k.taken left e k.consumed) k.ended now

  pub cuts-lines : (result : Result (Option Line) LineFault) → Next old new (Some bytes) left result → CutsLines old new bytes rest result
  cuts-lines (Ok (Some line)) k = next-line line k
  cuts-lines (Ok None) k = next-none k
  cuts-lines (Err TooLong) k = next-long k
  cuts-lines (Err ReadFault) k = tt
  cuts-lines (Err TooManyLines) k = next-many k
  cuts-lines (Err Memory) k = tt
