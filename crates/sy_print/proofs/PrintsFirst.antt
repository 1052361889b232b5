-- Rules that begin with a look at their first lexeme print too.
use Rattle.std.proofs.Common.{◌≡◌, inl, inr, ℕ, List, [], ◌∷◌, subst, ◌∙◌, refl, None}
use Rattle.sy_tree.specs.declared.proposition.First.{First}
use Rattle.sy_lex.specs.Lexemes.{Lexeme, written}
use Rattle.sy_reader.specs.Grammar.{Rule, ◌>>=◌, ◌or◌, lexeme}
use Rattle.sy_tree.specs.Propositions.{begins}
use Rattle.sy_print.specs.Equality.{no_first}
use Rattle.sy_lex.specs.declared.token.TokenKind.{TokenKind}
use Rattle.sy_print.proofs.PrintedWords.{Word, AreTokens}
use Rattle.sy_print.proofs.Prints.{Reads, Says, printed, Prints}
use Rattle.sy_print.proofs.PrintsRules.{Follows, as_text}

-- nothing is spelled by no lexeme
pub record NotEmpty {A : Type 0} (R : Rule A) : Type 0 where
  pub never : (x : A) (rest : List Lexeme) → R [] x rest → ⊥

pub not_empty_then : {A C : Type 0} {R : Rule A} {next : A → Rule C} → NotEmpty R → NotEmpty (R >>= next)
not_empty_then {A} {C} {R} {next} s = record { never = λ x rest d. s.never d.0 d.1 d.2 }

pub not_empty_or : {A : Type 0} {R Q : Rule A} → NotEmpty R → NotEmpty Q → NotEmpty (R or Q)
not_empty_or {A} {R} {Q} r q = record {
  never = λ x rest d. elim d [ inl d ↦ r.never x rest d | inr d ↦ q.never x rest d ];
}

pub not_empty_lexeme : {C : Type 0} {kind : TokenKind} {next : Lexeme → Rule C} → NotEmpty (lexeme kind >>= next)
not_empty_lexeme {C} {kind} {next} = record { never = λ x rest d. let e = d.2.0 in absurd cc }

pub not_empty_begins : {C : Type 0} {next : First → Rule C} → NotEmpty (begins >>= next)
not_empty_begins {C} {next} = record { never = λ x rest d. let e = d.2.2.2 in absurd cc }

-- the look takes nothing away
pub begins_here : {from mid : List Lexeme} {first : First} → begins from first mid → from ≡ mid
begins_here d = d.2.4 ∙ d.3.1

pub beginning_says : {C : Type 0} {next : First → Rule C} {flat : C → C} {z : C} {ws : List Word}
    → ((first : First) → NotEmpty (next first)) → ((first : First) → Says (next first) flat z ws)
    → Says (begins >>= next) flat z ws
beginning_says {C} {next} {flat} {z} {ws} some says = record { tree = go }
  where
    go : (from rest : List Lexeme) → Reads ws from rest → (y : C) × (begins >>= next) from y rest × (flat y ≡ flat z)
    go [] rest r = let a = (says no_first).tree [] rest r in absurd ((some no_first).never a.0 rest a.1)
    go (l ∷ ls) rest r =
        let first : First = record { token = written l; bracket = None } in
        let a = (says first).tree (l ∷ ls) rest r in
        (a.0, (first, l ∷ ls, (written l, l ∷ ls, (l, ls, refl, refl, refl), (refl, refl)), a.1), a.2)

pub beginning : {C : Type 0} {next : First → Rule C} {text : C → List ℕ} {flat : C → C}
    → ((first : First) → NotEmpty (next first)) → Follows next (λ _. []) (λ _. no_first) text flat
    → Prints (begins >>= next) text flat
beginning {C} {next} {text} {flat} some more = record {
  at = λ from z rest tokens d.
      let b = more.at d.0 d.1 z rest (subst AreTokens (begins_here d.2) tokens) d.3 in
      (printed (as_text b.0 b.1) b.2 (beginning_says some (λ first. b.3 first refl)), b.4);
}
