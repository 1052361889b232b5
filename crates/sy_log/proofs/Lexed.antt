-- The texts between quotes that a line's tree keeps have their form.
use Rattle.std.proofs.Common.{inl, inr, ℕ, List, [], ◌∷◌, subst}
use Rattle.sy_lex.specs.declared.keyword.Keyword.{Keyword}
use Rattle.sy_lex.specs.declared.keyword.Keyword.TheVariants as K
use Rattle.sy_lex.specs.declared.sign.Sign.{Sign}
use Rattle.sy_lex.specs.declared.sign.Sign.TheVariants.{Assign, CloseBracket, Comma, Minus, OpenBracket}
use Rattle.sy_lex.specs.declared.token.TokenKind.{TokenKind}
use Rattle.sy_lex.specs.declared.token.TokenKind.TheVariants as S
use Rattle.sy_lex.specs.Forms.{HasForm, IsString}
use Rattle.sy_lex.specs.Lexemes.{Lexeme, lexemes_of}
use Rattle.sy_reader.specs.Grammar as g
use Rattle.sy_reader.specs.Grammar.{Many, Rule, ◌>>=◌, ◌or◌, before, behind, between, keyword, lexeme, listed, many, sign, spelled, token}
use Rattle.sy_binding.specs.declared.tree.FieldTree.{FieldTree}
use Rattle.sy_binding.specs.declared.tree.ValueTree.{ValueTree}
use Rattle.sy_binding.specs.declared.tree.ValueTree.TheVariants as Value
use Rattle.sy_binding.specs.Bindings.{field, value}
use Rattle.sy_log.specs.declared.tree.WhatTree.{WhatTree}
use Rattle.sy_log.specs.declared.tree.WhatTree.TheVariants as What
use Rattle.sy_log.specs.declared.tree.LineTree.{LineTree}
use Rattle.sy_log.specs.declared.tree.LineTree.TheVariants as Line
use Rattle.sy_log.specs.Lines.{Writes, fields, line, what}
use Rattle.sy_log.proofs.TokenForms.{AreTokens, tokens_are}

-- a text between quotes has its form
abbrev pub IsLexed : ValueTree → Type 0
IsLexed (Value.Str t) = IsString t.text
IsLexed x = Unit {0}

abbrev pub AreLexed : List FieldTree → Type 0
AreLexed [] = Unit {0}
AreLexed (f ∷ fields) = IsLexed f.value × AreLexed fields

abbrev pub IsLexedWhat : WhatTree → Type 0
IsLexedWhat (What.Happens name fields) = AreLexed fields
IsLexedWhat (What.Exert name) = Unit {0}

abbrev pub IsLexedLine : LineTree → Type 0
IsLexedLine (Line.At date what) = IsLexedWhat what
IsLexedLine (Line.Report date) = Unit {0}

-- what the rule spells by tokens has the property
record Keeps {A : Type 0} (R : Rule A) (P : A → Type 0) : Type 0 where
  at : (from : List Lexeme) (x : A) (rest : List Lexeme) → AreTokens from → R from x rest → P x × AreTokens rest

-- anything
abbrev Any : {A : Type 0} → A → Type 0
Any x = Unit {0}

keeps_lexeme : {A : Type 0} {keep : Lexeme → A} {P : A → Type 0} (kind : TokenKind) → ((l : Lexeme) → HasForm kind l.text → P (keep l))
    → Keeps (lexeme kind >>= λ l. spelled (keep l)) P
keeps_lexeme {A} {keep} {P} kind has = record {
  at = λ from x rest tokens d.
      let all = subst AreTokens d.2.0 tokens in
      (subst P d.3.0 (has d.0 (subst (λ kind. HasForm kind d.0.text) d.2.1 all.0)), subst AreTokens d.3.1 all.1);
}

keeps_then : {A C : Type 0} {R : Rule A} {next : A → Rule C} {P : A → Type 0} {Q : C → Type 0}
    → Keeps R P → ((x : A) → P x → Keeps (next x) Q) → Keeps (R >>= next) Q
keeps_then {A} {C} {R} {next} {P} {Q} first then = record {
  at = λ from z rest tokens d.
      let a = first.at from d.0 d.1 tokens d.2 in
      (then d.0 a.0).at d.1 z rest a.1 d.3;
}

keeps_or : {A : Type 0} {R Q : Rule A} {P : A → Type 0} → Keeps R P → Keeps Q P → Keeps (R or Q) P
keeps_or {A} {R} {Q} {P} one other = record {
  at = λ from x rest tokens d. elim d [ inl d ↦ one.at from x rest tokens d | inr d ↦ other.at from x rest tokens d ];
}

keeps_spelled : {A : Type 0} {z : A} {P : A → Type 0} → P z → Keeps (spelled z) P
keeps_spelled {A} {z} {P} has = record { at = λ from x rest tokens d. (subst P d.0 has, subst AreTokens d.1 tokens) }

token_kept : (kind : TokenKind) → Keeps (token kind) (λ w. HasForm kind w.text)
token_kept kind = keeps_lexeme kind (λ l form. form)

keyword_kept : (k : Keyword) → Keeps (keyword k) Any
keyword_kept k = keeps_lexeme (S.Reserved k) (λ l form. tt)

sign_kept : (s : Sign) → Keeps (sign s) Any
sign_kept s = keeps_lexeme (S.Sign s) (λ l form. tt)

before_kept : {A : Type 0} {R : Rule A} {P : A → Type 0} (s : Sign) → Keeps R P → Keeps (before R s) P
before_kept s kept = keeps_then kept λ x has. keeps_then (sign_kept s) λ _ _. keeps_spelled has

behind_kept : {A : Type 0} {R : Rule A} {P : A → Type 0} (s : Sign) → Keeps R P → Keeps (behind s R) P
behind_kept s kept = keeps_then (sign_kept s) λ _ _. kept

value_kept : Keeps value IsLexed
value_kept =
    keeps_or (keeps_or (keeps_or (keeps_or (keeps_or (keeps_or
    (keeps_then (token_kept S.Number) λ x form. keeps_spelled tt)
    (keeps_then (sign_kept Minus) λ _ _. keeps_then (token_kept S.Number) λ x form. keeps_spelled tt))
    (keeps_then (token_kept S.Str) λ x form. keeps_spelled form))
    (keeps_then (token_kept S.Date) λ x form. keeps_spelled tt))
    (keeps_then (keyword_kept K.True) λ _ _. keeps_spelled tt))
    (keeps_then (keyword_kept K.False) λ _ _. keeps_spelled tt))
    (keeps_then (token_kept S.Word) λ x form. keeps_spelled tt)

abbrev IsLexedField : FieldTree → Type 0
IsLexedField f = IsLexed f.value

field_kept : Keeps field IsLexedField
field_kept = keeps_then (before_kept Assign (token_kept S.Word)) λ name form. keeps_then value_kept λ x has. keeps_spelled has

more_kept : (from : List Lexeme) (others : List FieldTree) (rest : List Lexeme) → AreTokens from
    → Many (behind Comma field) from others rest → AreLexed others × AreTokens rest
more_kept from others rest tokens (g.none r) = (tt, tokens)
more_kept from others rest tokens (g.more f x mid xs r one later) =
    let a = (behind_kept Comma field_kept).at f x mid tokens one in
    let b = more_kept mid xs r a.1 later in
    ((a.0, b.0), b.1)

listed_kept : Keeps (listed field) AreLexed
listed_kept = keeps_then field_kept λ first has. keeps_then (record { at = more_kept }) λ others all. keeps_spelled (has, all)

fields_kept : Keeps fields AreLexed
fields_kept = keeps_or (behind_kept OpenBracket (before_kept CloseBracket listed_kept)) (keeps_spelled tt)

what_kept : Keeps what IsLexedWhat
what_kept =
    keeps_or
    (keeps_then (keyword_kept K.Happens) λ _ _. keeps_then (token_kept S.Word) λ name form. keeps_then fields_kept λ fs has. keeps_spelled has)
    (keeps_then (keyword_kept K.Exert) λ _ _. keeps_then (token_kept S.Word) λ name form. keeps_spelled tt)

line_kept : Keeps line IsLexedLine
line_kept =
    keeps_or
    (keeps_then (keyword_kept K.At) λ _ _. keeps_then (token_kept S.Date) λ date form. keeps_then what_kept λ x has. keeps_spelled has)
    (keeps_then (keyword_kept K.Report) λ _ _. keeps_then (token_kept S.Date) λ date form. keeps_spelled tt)

pub line_lexed : (bytes : List ℕ) (tree : LineTree) → Writes bytes tree → IsLexedLine tree
line_lexed bytes tree writes =
    (line_kept.at (lexemes_of bytes writes.0) tree [] (tokens_are bytes writes.0 writes.1) writes.2).0
