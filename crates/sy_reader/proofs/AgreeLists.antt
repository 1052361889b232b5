-- Lists with commas and lines with semicolons agree.
use Rattle.std.proofs.Common.{◌≡◌, ◌<◌, false, not, List, [], refl, arith}
use Rattle.sy_lex.specs.declared.sign.Sign.{Sign}
use Rattle.sy_lex.specs.declared.sign.Sign.TheVariants.{Semicolon}
use Rattle.sy_lex.specs.declared.token.TokenKind.TheVariants as S
use Rattle.sy_lex.specs.Lexemes.{Lexeme}
use Rattle.sy_reader.specs.Grammar.{Rule, ended, maybe_listed}
use Rattle.sy_reader.specs.Machine.Reading.{Reading, next_passes, maybe_listed_at}
use Rattle.sy_reader.specs.Machine.ReadingLines.{no_heading, ended_at}
use Rattle.sy_reader.proofs.Agree.{Behind, Agrees, Any, Next, Begins, Is, Differs, anywhere, before_agrees, before_takes, begins_then, begins_so}
use Rattle.sy_reader.proofs.AgreeMany.{rank, many_agrees, ends_at, listed_agrees}
use Rattle.sy_reader.proofs.AgreeChoices.{unless_agrees}

-- a list with commas, or nothing where the sign stands that ends it
pub maybe_listed_agrees : {A : Type 0} {R : Rule A} {r : Reading A} (s : Sign) → 6 < rank (S.Sign s) → Agrees R r Any → Begins R (Differs (S.Sign s)) → Agrees (maybe_listed R) (maybe_listed_at s r) (Next (Is (S.Sign s)))
maybe_listed_agrees s above one begins = unless_agrees (S.Sign s) [] (begins_then begins) (listed_agrees 0 (omega arith) (anywhere one)) (ends_at 6 (S.Sign s) above)

-- nothing stands behind
abbrev pub AtEnd : Behind
AtEnd rest = rest ≡ []

no_more : (rest : List Lexeme) → AtEnd rest → next_passes (λ s. not (no_heading s)) rest ≡ false
no_more rest ends = rw ends refl

-- lines up to the end
pub all_lines_agree : {A : Type 0} {R : Rule A} {r : Reading A} {F : Behind} → Agrees R r F → ((rest : List Lexeme) → Next (Is (S.Sign Semicolon)) rest → F rest) → Begins R (Is S.Word) → Agrees (ended R) (ended_at no_heading r) AtEnd
all_lines_agree one follows begins = many_agrees (record {
  item = before_agrees Semicolon one follows;
  takes = before_takes Semicolon one;
  begins = begins_then (begins_so begins (λ s n. refl));
  goes_on = λ rest n. tt;
  stops = no_more;
  weaker = λ rest f. tt;
})
