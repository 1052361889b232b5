-- Rules and readings of lines that end with a semicolon, and of the parts of a contract, each under its heading.
use Rattle.std.proofs.Common.{◌≡◌, inl, inr, ℕ, ◌≤◌, ◌<◌, true, false, not, List, [], ◌∷◌, Ok, if◌then◌else◌, refl, ap, arith}
use Rattle.sy_lex.specs.declared.keyword.Keyword.{Keyword}
use Rattle.sy_lex.specs.declared.keyword.Keyword.TheVariants as K
use Rattle.sy_lex.specs.declared.sign.Sign.{Sign}
use Rattle.sy_lex.specs.declared.sign.Sign.TheVariants as Sg
use Rattle.sy_lex.specs.declared.sign.Sign.TheVariants.{Semicolon}
use Rattle.sy_lex.specs.declared.token.TokenKind.{TokenKind}
use Rattle.sy_lex.specs.declared.token.TokenKind.TheVariants as S
use Rattle.sy_lex.specs.declared.written.Written.{Written}
use Rattle.sy_lex.specs.Lexemes.{Lexeme}
use Rattle.sy_reader.specs.Grammar as grammar
use Rattle.sy_reader.specs.Grammar.{Rule, spelled, token, before, ended, maybe_listed}
use Rattle.sy_spec.specs.Specifications.{section}
use Rattle.sy_spec.specs.Machine.ReadingSpecifications.{section_at}
use Rattle.sy_reader.specs.Machine.Reading as reader
use Rattle.sy_reader.specs.Machine.Reading.{Read, Reading, begins_with, next_passes, maybe_listed_at}
use Rattle.sy_spec.specs.Machine.ReadingSpecifications.{is_heading}
use Rattle.sy_reader.specs.Machine.ReadingLines.{ended_at}
use Rattle.sy_reader.proofs.Agree.{Behind, Agrees, Any, Next, Begins, Is, Differs, weaker_agrees, then_agrees, then_any, before_agrees, before_takes, begins_then, begins_so, keyword_agrees, keyword_begins, token_begins, not_it}
use Rattle.sy_reader.proofs.AgreeMany.{Ends, rank, many_agrees, ends_at, ends_lower, ends_without}
use Rattle.sy_reader.proofs.AgreeChoices.{optional_agrees}
use Rattle.sy_tree.proofs.AgreePropositions.{in_line}

line_test : (s : TokenKind) → in_line s ≡ true → not (is_heading s) ≡ true
line_test (S.Reserved K.EndDomain) e = absurd cc
line_test (S.Reserved K.Declarations) e = absurd cc
line_test (S.Reserved K.Preconditions) e = absurd cc
line_test (S.Reserved K.Postconditions) e = absurd cc
line_test (S.Reserved K.Obligations) e = absurd cc
line_test (S.Reserved K.Surviving) e = absurd cc
line_test (S.Reserved K.Powers) e = absurd cc
line_test (S.Reserved K.Constraints) e = absurd cc
line_test (S.Reserved K.EndContract) e = absurd cc
line_test s e = refl

heading_test : (s : TokenKind) → 7 < rank s → not (is_heading s) ≡ false
heading_test (S.Reserved K.EndDomain) above = refl
heading_test (S.Reserved K.Declarations) above = refl
heading_test (S.Reserved K.Preconditions) above = refl
heading_test (S.Reserved K.Postconditions) above = refl
heading_test (S.Reserved K.Obligations) above = refl
heading_test (S.Reserved K.Surviving) above = refl
heading_test (S.Reserved K.Powers) above = refl
heading_test (S.Reserved K.Constraints) above = refl
heading_test (S.Reserved K.EndContract) above = refl
heading_test (S.Sign Sg.Dot) above = absurd (omega arith)
heading_test s above = absurd (omega arith)

no_line : (rest : List Lexeme) → Ends 7 rest → next_passes (λ s. not (is_heading s)) rest ≡ false
no_line [] ends = refl
no_line (l ∷ ls) ends = heading_test l.kind ends

-- lines up to a heading or the end
pub lines_agree : {A : Type 0} {R : Rule A} {r : Reading A} {F : Behind} → Agrees R r F → ((rest : List Lexeme) → Next (Is (S.Sign Semicolon)) rest → F rest) → Begins R (λ s. in_line s ≡ true) → Agrees (ended R) (ended_at is_heading r) (Ends 7)
lines_agree one follows begins = many_agrees (record {
  item = before_agrees Semicolon one follows;
  takes = before_takes Semicolon one;
  begins = begins_then (begins_so begins line_test);
  goes_on = λ rest n. tt;
  stops = no_line;
  weaker = λ rest f. tt;
})

-- a kind with which no line begins
pub differs_in_line : (kind : TokenKind) → in_line kind ≡ false → (s : TokenKind) → in_line s ≡ true → Differs kind s
differs_in_line kind out s is = not_it s kind (λ e. let e' : in_line s ≡ in_line kind = ap in_line e in absurd cc)

-- what begins with a name and a sign
pub named_begins : {A : Type 0} (s : Sign) (next : Written → Rule A) → Begins (grammar.◌>>=◌ (before (token S.Word) s) next) (Is S.Word)
named_begins s next = begins_then (begins_then (token_begins S.Word))

-- the parts of a contract from one on: behind something of this level they end it
pub record Tail {A : Type 0} (R : List Lexeme → A → List Lexeme → Type 0) (r : List Lexeme → Read A) (level : ℕ) : Type 0 where
  pub agrees : Agrees R r Any
  pub leads : (from : List Lexeme) (x : A) (rest : List Lexeme) → R from x rest → Ends level from

pub tail_ends : {A : Type 0} {R : Rule A} {r : Reading A} (level : ℕ) (word : Keyword) → level < rank (S.Reserved word) → Begins R (Is (S.Reserved word)) → Agrees R r Any → Tail R r level
tail_ends level word above begins one = record { agrees = one; leads = λ from x rest d. ends_at level (S.Reserved word) above from (begins.next from x rest d) }

-- a part under its heading, or none, and then what stands behind
part_leads : {A : Type 0} {R : Rule A} (none : A) (word : Keyword) (lower : ℕ) → lower < rank (S.Reserved word) → Begins R (Is (S.Reserved word)) → (from : List Lexeme) (x : A) (rest : List Lexeme)
    → grammar.◌or◌ R (spelled none) from x rest → Ends (rank (S.Reserved word)) rest → Ends lower from
part_leads none word lower above begins from x rest (inl d) ends = ends_at lower (S.Reserved word) above from (begins.next from x rest d)
part_leads none word lower above begins from x rest (inr d) ends = rw d.1 (ends_lower lower (rank (S.Reserved word)) (omega arith) rest ends)

pub part_then : {A B : Type 0} {R : Rule A} {r : Reading A} {next : A → Rule B} {reading : A → Reading B} (none : A) (word : Keyword) (lower : ℕ) → lower < rank (S.Reserved word) → 7 ≤ rank (S.Reserved word)
    → Begins R (Is (S.Reserved word)) → Agrees R r (Ends 7) → ((x : A) → Tail (next x) (reading x) (rank (S.Reserved word)))
    → Tail (grammar.◌>>=◌ (grammar.◌or◌ R (spelled none)) next) (reader.◌>>=◌ (λ from. if begins_with (S.Reserved word) from then r from else Ok (none, from)) reading) lower
part_then none word lower above high begins one tail = record {
  agrees = then_agrees (optional_agrees (S.Reserved word) none begins (weaker_agrees one (ends_lower 7 (rank (S.Reserved word)) high)) (ends_without (rank (S.Reserved word)) (S.Reserved word) (omega arith)))
      (λ x. (tail x).agrees) (λ x mid y rest d f. (tail x).leads mid y rest d);
  leads = λ from y rest d. part_leads none word lower above begins from d.0 d.1 d.2 ((tail d.0).leads d.1 y rest d.3);
}

-- lines under their heading
pub section_then : {A B : Type 0} (R : Rule A) (r : Reading A) {next : List A → Rule B} {reading : List A → Reading B} (word : Keyword) (lower : ℕ) → lower < rank (S.Reserved word) → 7 ≤ rank (S.Reserved word)
    → Agrees (ended R) (ended_at is_heading r) (Ends 7) → ((xs : List A) → Tail (next xs) (reading xs) (rank (S.Reserved word))) → Tail (grammar.◌>>=◌ (section word R) next) (reader.◌>>=◌ (section_at word r) reading) lower
unfolding section_at
section_then R r word lower above high lines tail = part_then [] word lower above high (begins_then (keyword_begins word)) (then_any (keyword_agrees word) λ _. lines) tail
