-- A text is cut into the tokens that it has, and into no others.
use Rattle.std.proofs.Common.{◌≡◌, ℕ, zero, suc, ◌+◌, ◌<◌, ◌≤◌, List, [], ◌∷◌, length, take, drop, Result, Ok, Err, refl, sym, ap, subst, ◌∙◌, arith}
use Rattle.std.specs.Prelude.{IfOk, MatchResult, IsErrAnd}
use Rattle.std.proofs.lemmas.List.{length-drop}
use Rattle.std.proofs.lemmas.List.Sums.{prefix_len-le-length}
use Rattle.sy_base.specs.declared.refusal.FileKind.{FileKind}
use Rattle.sy_base.specs.declared.refusal.Place.{Place}
use Rattle.sy_base.specs.declared.refusal.Refused.{Refused}
use Rattle.sy_lex.specs.declared.cut.LexFault.{LexFault}
use Rattle.sy_lex.specs.declared.cut.LexFault.TheVariants as F
use Rattle.sy_lex.specs.declared.token.Token.{Token}
use Rattle.sy_lex.specs.declared.token.TokenKind.{TokenKind}
use Rattle.sy_lex.specs.declared.spot.Spot.{Spot}
use Rattle.sy_lex.specs.declared.step.Step.{Step}
use Rattle.sy_lex.specs.declared.step.Step.TheVariants as S
use Rattle.sy_lex.specs.Bytes.{is_comment_byte}
use Rattle.sy_lex.specs.Tokens as g
use Rattle.sy_lex.specs.Tokens.{IsFirst, Lexes, HasText, IsReadAs, comment_length, first_spot, next_spot, spot_after, token_at}
use Rattle.sy_lex.specs.Machine.Cutting.{step_at, Moves, Cut, with_first, cut_at, cut_of, Gives, refused_as}
use Rattle.sy_lex.proofs.Begins as c
use Rattle.sy_lex.proofs.Begins.{blank_class, step_by_class}
use Rattle.sy_lex.proofs.Firsts.{first_class, first_step}
use Rattle.sy_lex.proofs.Stands.{Stands, step_stands}
use Rattle.sy_lex.proofs.Steps.{one_step}

pub first_moves : (kind : TokenKind) (n : ℕ) (bytes : List ℕ) → IsFirst kind n bytes
    → Moves (length bytes) (S.Token kind n)
first_moves kind n bytes f = ((first_class kind n bytes f.form).0, f.within)

pub first_stands : (kind : TokenKind) (n : ℕ) (bytes : List ℕ) → IsFirst kind n bytes → S.Token kind n ≡ step_at bytes
first_stands kind n [] f =
    let some = (first_class kind n [] f.form).0 in let within = f.within in absurd (omega arith)
first_stands kind n (b ∷ bytes) f = sym (first_step kind n b bytes f)

pub complete : (at : Spot) (bytes : List ℕ) (tokens : List Token) → Lexes at bytes tokens → cut_at 0 at bytes ≡ Ok tokens
unfolding cut_at spot_after
complete at bytes tokens (g.ends a) = refl
complete at bytes tokens (g.blank a b more others is d) =
    one_step (S.Skip 1) a (b ∷ more) (omega arith) (sym (step_by_class b more c.blank (blank_class b is))) (omega arith, omega arith)
    ∙ complete (next_spot a b) more others d
complete at bytes tokens (g.comment a more others d) =
    let k = comment_length more in
    let size : 2 + k ≡ suc (suc k) = omega arith in
    let within : 2 + k ≤ length (47 ∷ 47 ∷ more) = omega (arith, prefix_len-le-length is_comment_byte more) in
    let one = one_step (S.Skip (2 + k)) a (47 ∷ 47 ∷ more) (omega arith) refl (omega arith, within) in
    one ∙ rw size (complete (spot_after a (47 ∷ 47 ∷ take k more)) (drop k more) others d)
complete at bytes tokens (g.token a kind n all others f d) =
    let moves = first_moves kind n all f in
    one_step (S.Token kind n) a all (omega (arith, moves)) (first_stands kind n all f) moves
    ∙ ap (with_first (token_at kind n a)) (complete (spot_after a (take n all)) (drop n all) others d)

pub with_first_ok : (token : Token) (read : Cut) (tokens : List Token) → with_first token read ≡ Ok tokens
    → (others : List Token) × (read ≡ Ok others) × (token ∷ others ≡ tokens)
with_first_ok token (Ok others) tokens e = (others, refl, cc)
with_first_ok token (Err place) tokens e = absurd cc

-- what is left has fewer bytes, and its tokens are known
abbrev LaterSound : Spot → List ℕ → Type 0
LaterSound at bytes =
    (n : ℕ) (tokens : List Token) → 0 < n → cut_at 0 (spot_after at (take n bytes)) (drop n bytes) ≡ Ok tokens
    → Lexes (spot_after at (take n bytes)) (drop n bytes) tokens

bad_cut : (n : ℕ) (at : Spot) (b : ℕ) (bytes : List ℕ) (tokens : List Token) → S.Bad n ≡ step_at (b ∷ bytes)
    → cut_at 0 at (b ∷ bytes) ≡ Ok tokens → ⊥
unfolding cut_at
bad_cut n at b bytes tokens is cut = let cut' = rw (← is) at cut in absurd cc

by_step : (s : Step) (at : Spot) (b : ℕ) (bytes : List ℕ) (tokens : List Token) → s ≡ step_at (b ∷ bytes)
    → Stands (b ∷ bytes) s → LaterSound at (b ∷ bytes) → cut_at 0 at (b ∷ bytes) ≡ Ok tokens
    → Lexes at (b ∷ bytes) tokens
by_step (S.Token kind n) at b bytes tokens is first later cut =
    let moves = first_moves kind n (b ∷ bytes) first in
    let one = one_step (S.Token kind n) at (b ∷ bytes) (omega arith) is moves in
    let read = with_first_ok (token_at kind n at) _ tokens (sym one ∙ cut) in
    subst (Lexes at (b ∷ bytes)) read.2 (g.token at kind n (b ∷ bytes) read.0 first (later n read.0 moves.0 read.1))
by_step (S.Skip n) at b bytes tokens is stands later cut =
    let one = one_step (S.Skip n) at (b ∷ bytes) (omega arith) is (stands.0, stands.1) in
    stands.2 at tokens (later n tokens stands.0 (sym one ∙ cut))
by_step (S.Bad n) at b bytes tokens is stands later cut = absurd (bad_cut n at b bytes tokens is cut)

pub sound : (limit : ℕ) (at : Spot) (bytes : List ℕ) (tokens : List Token) → length bytes ≤ limit
    → cut_at 0 at bytes ≡ Ok tokens → Lexes at bytes tokens
unfolding cut_at
sound limit at [] tokens within cut = let none : [] ≡ tokens = cc in subst (Lexes at []) none (g.ends at)
sound zero at (b ∷ bytes) tokens within cut = absurd (omega arith)
sound (suc limit) at (b ∷ bytes) tokens within cut =
    by_step (step_at (b ∷ bytes)) at b bytes tokens refl (step_stands b bytes)
    (λ n others some later. sound limit _ (drop n (b ∷ bytes)) others (omega (arith, length-drop n (b ∷ bytes))) later) cut

-- ---- what is answered

abbrev pub Answers : FileKind → Result (List Token) LexFault → Result (List Token) Refused → Type 0
Answers file read answer =
    MatchResult read (λ tokens. answer ≡ Ok tokens) (λ fault. IsErrAnd answer (λ refused. refused ≡ refused_as file fault))

pub is_found : (file : FileKind) (read : Result (List Token) LexFault) (answer : Result (List Token) Refused) (source : List ℕ)
    → Answers file read answer → Gives read (cut_of source) → IfOk answer (λ tokens. HasText tokens source)
is_found file (Ok tokens) answer source answers cut =
    rw answers (sound (length source) first_spot source tokens (omega arith) cut)
is_found file (Err fault) (Ok tokens) source answers cut = absurd answers
is_found file (Err fault) (Err refused) source answers cut = tt

abbrev Reading : Type 0
Reading = Result (List Token) Place

same_tokens : (tokens others : List Token) (cut : Reading) → cut ≡ Ok tokens → cut ≡ Ok others → tokens ≡ others
same_tokens tokens others cut e e' = cc

pub is_read : (file : FileKind) (read : Result (List Token) LexFault) (answer : Result (List Token) Refused) (source : List ℕ)
    → Answers file read answer → Gives read (cut_of source) → (tokens : List Token) → HasText tokens source
    → IsReadAs answer tokens
is_read file (Ok others) answer source answers cut tokens text =
    rw answers (same_tokens others tokens (cut_of source) cut (complete first_spot source tokens text))
is_read file (Err fault) (Ok others) source answers cut tokens text = absurd answers
is_read file (Err F.Memory) (Err refused) source answers cut tokens text = rw answers tt
is_read file (Err (F.At place)) (Err refused) source answers cut tokens text =
    let read = complete first_spot source tokens text in absurd cc

pub at_most_one : (tokens others : List Token) (source : List ℕ) → HasText tokens source → HasText others source
    → tokens ≡ others
at_most_one tokens others source text text' =
    same_tokens tokens others (cut_of source) (complete first_spot source tokens text) (complete first_spot source others text')

pub with_first_err : (token : Token) (cut : Cut) (place : Place) → with_first token cut ≡ Err place → cut ≡ Err place
with_first_err token (Ok tokens) place e = absurd cc
with_first_err token (Err other) place e = e
