-- Bytes have tokens, or they have none.
use Rattle.std.proofs.Common.{◌≡◌, ◌⊎◌, inl, inr, ℕ, suc, ◌+◌, ◌≤◌, List, [], ◌∷◌, length, take, drop, Result, Ok, Err, refl, sym, ap, ◌∙◌, arith}
use Rattle.std.proofs.lemmas.List.Sums.{prefix_len-le-length}
use Rattle.sy_base.specs.declared.refusal.FileKind.TheVariants.{Log}
use Rattle.sy_base.specs.declared.refusal.Place.{Place}
use Rattle.sy_lex.specs.declared.token.Token.{Token}
use Rattle.sy_lex.specs.declared.token.TokenKind.{TokenKind}
use Rattle.sy_lex.specs.Bytes.{is_comment_byte}
use Rattle.sy_lex.specs.Tokens as g
use Rattle.sy_lex.specs.Tokens.{HasText, IsFirst, Lexes, comment_length, first_spot, next_spot, spot_after, token_at}
use Rattle.sy_lex.specs.Machine.Cutting.{cut_at, cut_of, with_first}
use Rattle.sy_lex.proofs.Begins as c
use Rattle.sy_lex.proofs.Begins.{blank_class, step_by_class}
use Rattle.sy_lex.proofs.Firsts.{first_class, first_step}
use Rattle.sy_lex.proofs.Steps.{one_step}
use Rattle.sy_lex.proofs.Whole.{is_found}
use Rattle.sy_log.proofs.Spots.{Spot}

-- a token at the front is cut off
token_cut : (kind : TokenKind) (n : ℕ) (at : Spot) (bytes : List ℕ) → IsFirst kind n bytes
    → cut_at 0 at bytes ≡ with_first (token_at kind n at) (cut_at 0 (spot_after at (take n bytes)) (drop n bytes))
token_cut kind n at [] first =
    let some = (first_class kind n [] first.form).0 in let within = first.within in absurd (omega arith)
token_cut kind n at (b ∷ bytes) first =
    one_step _ at (b ∷ bytes) (omega arith) (sym (first_step kind n b bytes first))
    ((first_class kind n (b ∷ bytes) first.form).0, first.within)

-- bytes that have tokens are cut into these
cut_all : (at : Spot) (bytes : List ℕ) (tokens : List Token) → Lexes at bytes tokens → cut_at 0 at bytes ≡ Ok tokens
unfolding cut_at spot_after
cut_all at bytes tokens (g.ends a) = refl
cut_all at bytes tokens (g.blank a b more others is d) =
    one_step _ a (b ∷ more) (omega arith) (sym (step_by_class b more c.blank (blank_class b is))) (omega arith, omega arith)
    ∙ cut_all (next_spot a b) more others d
cut_all at bytes tokens (g.comment a more others d) =
    let k = comment_length more in
    let size : 2 + k ≡ suc (suc k) = omega arith in
    let within : 2 + k ≤ length (47 ∷ 47 ∷ more) = omega (arith, prefix_len-le-length is_comment_byte more) in
    one_step _ a (47 ∷ 47 ∷ more) (omega arith) refl (omega arith, within)
    ∙ rw size (cut_all (spot_after a (47 ∷ 47 ∷ take k more)) (drop k more) others d)
cut_all at bytes tokens (g.token a kind n all others first d) =
    token_cut kind n a all first
    ∙ ap (with_first (token_at kind n a)) (cut_all (spot_after a (take n all)) (drop n all) others d)

by_cut : (bytes : List ℕ) (cut : Result (List Token) Place) → cut_of bytes ≡ cut
    → ((tokens : List Token) × HasText tokens bytes) ⊎ ((tokens : List Token) → HasText tokens bytes → ⊥)
by_cut bytes (Ok tokens) is = inl (tokens, is_found Log (Ok tokens) (Ok tokens) bytes refl is)
by_cut bytes (Err place) is = inr (λ tokens text. let whole = cut_all first_spot bytes tokens text in absurd cc)

pub tokens_or_none : (bytes : List ℕ)
    → ((tokens : List Token) × HasText tokens bytes) ⊎ ((tokens : List Token) → HasText tokens bytes → ⊥)
tokens_or_none bytes = by_cut bytes (cut_of bytes) refl
