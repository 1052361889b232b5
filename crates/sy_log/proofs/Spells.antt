-- What a rule spells by lexemes like some pieces.
use Rattle.std.proofs.Common.{◌≡◌, inl, inr, ℕ, List, [], ◌∷◌, ◌++◌, refl}
use Rattle.sy_lex.specs.declared.written.Written.{Written}
use Rattle.sy_lex.specs.Lexemes.{Lexeme}
use Rattle.sy_reader.specs.Grammar.{Rule, ◌>>=◌, ◌or◌, lexeme, spelled, token}
use Rattle.sy_log.proofs.Pieces.{Alike, Piece}

-- the lexemes from `from` to `rest` have the kinds and texts of the pieces
abbrev pub Reads : List Piece → List Lexeme → List Lexeme → Type 0
Reads [] from rest = from ≡ rest
Reads (p ∷ ps) from rest =
    (l : Lexeme) × (others : List Lexeme) × (from ≡ l ∷ others) × (l.kind ≡ p.kind) × (l.text ≡ p.text)
    × Reads ps others rest

pub split_reads : (ps us : List Piece) (from rest : List Lexeme) → Reads (ps ++ us) from rest
    → (mid : List Lexeme) × Reads ps from mid × Reads us mid rest
split_reads [] us from rest r = (from, refl, r)
split_reads (p ∷ ps) us from rest r =
    let s = split_reads ps us r.1 rest r.5 in
    (s.0, (r.0, r.1, r.2, r.3, r.4, s.1), s.2)

pub reads_alike : (ls : List Lexeme) (ps : List Piece) → Alike ls ps → Reads ps ls []
reads_alike [] [] a = refl
reads_alike [] (p ∷ ps) a = elim a [ ]
reads_alike (l ∷ ls) [] a = elim a [ ]
reads_alike (l ∷ ls) (p ∷ ps) a = (l, ls, refl, a.0, a.1, reads_alike ls ps a.2)

-- all lexemes like these pieces are spelled by the rule as something with the property
pub record Says {A : Type 0} (R : Rule A) (P : A → Type 0) (ps : List Piece) : Type 0 where
  pub tree : (from rest : List Lexeme) → Reads ps from rest → (x : A) × R from x rest × P x

-- anything
abbrev pub Any : {A : Type 0} → A → Type 0
Any x = Unit {0}

pub step : {A C : Type 0} {R : Rule A} {next : A → Rule C} {P : A → Type 0} {Q : C → Type 0} {ps us : List Piece}
    → Says R P ps → ((x : A) → P x → Says (next x) Q us) → Says (R >>= next) Q (ps ++ us)
step {A} {C} {R} {next} {P} {Q} {ps} {us} first then = record {
  tree = λ from rest r.
      let s = split_reads ps us from rest r in
      let a = first.tree from s.0 s.1 in
      let b = (then a.0 a.2).tree s.0 rest s.2 in
      (b.0, (a.0, s.0, a.1, b.1), b.2);
}

-- the last step
pub final : {A C : Type 0} {R : Rule A} {make : A → C} {P : A → Type 0} {Q : C → Type 0} {ps : List Piece}
    → Says R P ps → ((x : A) → P x → Q (make x)) → Says (R >>= λ x. spelled (make x)) Q ps
final {A} {C} {R} {make} {P} {Q} {ps} first has = record {
  tree = λ from rest r.
      let a = first.tree from rest r in
      (make a.0, (a.0, rest, a.1, (refl, refl)), has a.0 a.2);
}

pub no_pieces : {A : Type 0} {z : A} {P : A → Type 0} → P z → Says (spelled z) P []
no_pieces {A} {z} {P} has = record { tree = λ from rest r. (z, (refl, r), has) }

pub one : {A : Type 0} {R Q : Rule A} {P : A → Type 0} {ps : List Piece} → Says R P ps → Says (R or Q) P ps
one {A} {R} {Q} {P} {ps} says = record {
  tree = λ from rest r. let a = says.tree from rest r in (a.0, inl a.1, a.2);
}

pub other : {A : Type 0} {R Q : Rule A} {P : A → Type 0} {ps : List Piece} → Says Q P ps → Says (R or Q) P ps
other {A} {R} {Q} {P} {ps} says = record {
  tree = λ from rest r. let a = says.tree from rest r in (a.0, inr a.1, a.2);
}

-- one lexeme, of which the rule keeps something
pub lexeme_says : {A : Type 0} {keep : Lexeme → A} {P : A → Type 0} (p : Piece) → ((l : Lexeme) → l.text ≡ p.text → P (keep l))
    → Says (lexeme p.kind >>= λ l. spelled (keep l)) P (p ∷ [])
lexeme_says {A} {keep} {P} p has = record {
  tree = λ from rest r. (keep r.0, (r.0, r.1, (r.2, r.3), (refl, r.5)), has r.0 r.4);
}

-- the text of what is kept
abbrev pub HasText : List ℕ → Written → Type 0
HasText text w = w.text ≡ text

pub token_says : (p : Piece) → Says (token p.kind) (HasText p.text) (p ∷ [])
token_says p = lexeme_says p (λ l is. is)

-- a lexeme of which only the place is kept
pub place_says : (p : Piece) → Says (lexeme p.kind >>= λ l. spelled l.place) Any (p ∷ [])
place_says p = lexeme_says p (λ l is. tt)
