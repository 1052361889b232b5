-- Cutting, step by step.
use Rattle.std.proofs.Common.{◌≡◌, ℕ, zero, suc, ◌-◌, ◌<◌, ◌≤◌, List, [], ◌∷◌, ◌++◌, length, take, drop, Ok, Err, refl, sym, ap, ◌∙◌, append_assoc, arith}
use Rattle.std.proofs.lemmas.List.{append-nil}
use Rattle.sy_lex.specs.declared.token.TokenKind.{TokenKind}
use Rattle.sy_lex.specs.declared.token.Token.{Token}
use Rattle.sy_lex.specs.declared.spot.Spot.{Spot}
use Rattle.sy_lex.specs.declared.step.Step.{Step}
use Rattle.sy_lex.specs.declared.step.Step.TheVariants as S
use Rattle.sy_lex.specs.Tokens.{next_spot, spot_after, token_at}
use Rattle.sy_lex.specs.Machine.Cutting.{step_at, Moves, Cut, with_first, taken, cut_at}

abbrev pub with_front : List Token → Cut → Cut
with_front front (Ok tokens) = Ok (front ++ tokens)
with_front front (Err place) = Err place

skip_over : (k : ℕ) (at : Spot) (bytes : List ℕ) → k ≤ length bytes
    → cut_at k at bytes ≡ cut_at 0 (spot_after at (take k bytes)) (drop k bytes)
unfolding cut_at spot_after
skip_over zero at bytes within = refl
skip_over (suc k) at [] within = absurd (omega arith)
skip_over (suc k) at (b ∷ bytes) within = skip_over k (next_spot at b) bytes (omega arith)

-- what a step leaves to do
abbrev pub goes_on : Spot → Step → List ℕ → Cut
goes_on at (S.Token kind n) bytes =
    with_first (token_at kind n at) (cut_at 0 (spot_after at (take n bytes)) (drop n bytes))
goes_on at (S.Skip n) bytes = cut_at 0 (spot_after at (take n bytes)) (drop n bytes)
goes_on at (S.Bad n) bytes = Err (spot_after at (take n bytes)).place

later_is : (n : ℕ) (at : Spot) (b : ℕ) (bytes : List ℕ) → 0 < n → n ≤ length (b ∷ bytes)
    → cut_at (n - 1) (next_spot at b) bytes ≡ cut_at 0 (spot_after at (take n (b ∷ bytes))) (drop n (b ∷ bytes))
unfolding spot_after
later_is zero at b bytes some within = absurd (omega arith)
later_is (suc n) at b bytes some within =
    let e : suc n - 1 ≡ n = omega arith in
    rw e (skip_over n (next_spot at b) bytes (omega arith))

taken_is : (s : Step) (at : Spot) (b : ℕ) (bytes : List ℕ) → Moves (length (b ∷ bytes)) s
    → taken at (b ∷ bytes) s (λ k. cut_at k (next_spot at b) bytes) ≡ goes_on at s (b ∷ bytes)
taken_is (S.Token kind n) at b bytes moves =
    ap (with_first (token_at kind n at)) (later_is n at b bytes moves.0 moves.1)
taken_is (S.Skip n) at b bytes moves = later_is n at b bytes moves.0 moves.1
taken_is (S.Bad n) at b bytes moves = refl

pub one_step : (s : Step) (at : Spot) (bytes : List ℕ) → 0 < length bytes → s ≡ step_at bytes → Moves (length bytes) s
    → cut_at 0 at bytes ≡ goes_on at s bytes
unfolding cut_at
one_step s at [] some is moves = absurd (omega arith)
one_step s at (b ∷ bytes) some is moves = rw (← is) (taken_is s at b bytes moves)

pub more_front : (front : List Token) (token : Token) (read : Cut)
    → with_front front (with_first token read) ≡ with_front (front ++ token ∷ []) read
more_front front token (Ok tokens) = ap (λ (r : List Token). Ok r) (simp append_assoc)
more_front front token (Err place) = refl

pub cut_end : (front : List Token) (at : Spot) (bytes : List ℕ) → length bytes ≡ 0
    → with_front front (cut_at 0 at bytes) ≡ Ok front
unfolding cut_at
cut_end front at [] e = ap (λ (r : List Token). Ok r) (append-nil front)
cut_end front at (b ∷ bytes) e = absurd (omega arith)

-- the loop's step
pub turn : (s : Step) (at : Spot) (bytes : List ℕ) (front : List Token) (whole : Cut) → 0 < length bytes
    → s ≡ step_at bytes → Moves (length bytes) s → with_front front (cut_at 0 at bytes) ≡ whole
    → with_front front (goes_on at s bytes) ≡ whole
turn s at bytes front whole some is moves so_far =
    ap (with_front front) (sym (one_step s at bytes some is moves)) ∙ so_far

pub turn_token : (kind : TokenKind) (n : ℕ) (at : Spot) (bytes : List ℕ) (front : List Token) (whole : Cut)
    → 0 < length bytes → S.Token kind n ≡ step_at bytes → Moves (length bytes) (S.Token kind n)
    → with_front front (cut_at 0 at bytes) ≡ whole
    → with_front (front ++ token_at kind n at ∷ []) (cut_at 0 (spot_after at (take n bytes)) (drop n bytes)) ≡ whole
turn_token kind n at bytes front whole some is moves so_far =
    sym (more_front front (token_at kind n at) (cut_at 0 (spot_after at (take n bytes)) (drop n bytes)))
    ∙ turn (S.Token kind n) at bytes front whole some is moves so_far
