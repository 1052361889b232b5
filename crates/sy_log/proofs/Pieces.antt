-- Bytes that are put together of tokens, with a blank behind some of them, have these tokens.
use Rattle.std.proofs.Common.{◌≡◌, ℕ, Bool, true, false, List, [], ◌∷◌, ◌++◌, length, take, drop, refl, sym, ap, subst, ◌∙◌, append_assoc, append-nil}
use Rattle.std.proofs.lemmas.List.{take_at, drop_at}
use Rattle.sy_lex.specs.declared.token.Token.{Token}
use Rattle.sy_lex.specs.declared.token.TokenKind.{TokenKind}
use Rattle.sy_lex.specs.Forms.{HasForm}
use Rattle.sy_lex.specs.Tokens as t
use Rattle.sy_lex.specs.Tokens.{HasText, Lexes, first_spot, spot_after, token_at}
use Rattle.sy_lex.specs.Lexemes.{Lexeme, lexemes_of}
use Rattle.sy_log.proofs.Endings.{Ends, token_first}
use Rattle.sy_log.proofs.Spots.{IsRest, Spot, rest_after, text_there}

-- a token, and whether a blank stands behind it
pub record Piece : Type 0 where
  pub kind : TokenKind
  pub text : List ℕ
  pub spaced : Bool

-- a blank, or nothing
abbrev pub gap : Bool → List ℕ
gap true = 32 ∷ []
gap false = []

-- the bytes of some pieces
abbrev pub bytes_of : List Piece → List ℕ
bytes_of [] = []
bytes_of (p ∷ ps) = p.text ++ (gap p.spaced ++ bytes_of ps)

-- each piece is a token that ends where its text does, with these bytes behind them all
abbrev pub ArePieces : List Piece → List ℕ → Type 0
ArePieces [] after = Unit {0}
ArePieces (p ∷ ps) after =
    HasForm p.kind p.text × Ends p.kind (gap p.spaced ++ (bytes_of ps ++ after)) × ArePieces ps after

-- the lexemes have the kinds and texts of the pieces
abbrev pub Alike : List Lexeme → List Piece → Type 0
Alike [] [] = Unit {0}
Alike [] (p ∷ ps) = ⊥
Alike (l ∷ ls) [] = ⊥
Alike (l ∷ ls) (p ∷ ps) = (l.kind ≡ p.kind) × (l.text ≡ p.text) × Alike ls ps

pub bytes_append : (ps us : List Piece) → bytes_of (ps ++ us) ≡ bytes_of ps ++ bytes_of us
bytes_append [] us = refl
bytes_append (p ∷ ps) us =
    ap (λ bytes. p.text ++ (gap p.spaced ++ bytes)) (bytes_append ps us) ∙ simp append_assoc

pub pieces_append : (ps us : List Piece) (after : List ℕ) → ArePieces ps (bytes_of us ++ after) → ArePieces us after
    → ArePieces (ps ++ us) after
pieces_append [] us after are more = more
pieces_append (p ∷ ps) us after are more =
    let same : bytes_of ps ++ (bytes_of us ++ after) ≡ bytes_of (ps ++ us) ++ after =
    sym (ap (λ (bytes : List ℕ). bytes ++ after) (bytes_append ps us) ∙ append_assoc (bytes_of ps) (bytes_of us) after) in
    (are.0, subst (λ (bytes : List ℕ). Ends p.kind (gap p.spaced ++ bytes)) same are.1, pieces_append ps us after are.2 more)

-- ---- the tokens

gap_lexes : (spaced : Bool) (at : Spot) (bytes : List ℕ) (tokens : List Token) → Lexes (spot_after at (gap spaced)) bytes tokens
    → Lexes at (gap spaced ++ bytes) tokens
unfolding spot_after
gap_lexes true at bytes tokens d = t.blank at 32 bytes tokens refl d
gap_lexes false at bytes tokens d = d

pieces_from : (source : List ℕ) (ps : List Piece) (at : Spot) → ArePieces ps [] → IsRest source at.offset (bytes_of ps)
    → (tokens : List Token) × Lexes at (bytes_of ps) tokens × Alike (lexemes_of source tokens) ps
pieces_from source [] at are is = ([], t.ends at, tt)
pieces_from source (p ∷ ps) at (form, ends, are) is =
    let n = length p.text in
    let rest : List ℕ = gap p.spaced ++ bytes_of ps in
    let spot : Spot = spot_after at p.text in
    let here = rest_after source at p.text rest is in
    let next = rest_after source spot (gap p.spaced) (bytes_of ps) here in
    let more = pieces_from source ps (spot_after spot (gap p.spaced)) are next in
    let ends' : Ends p.kind rest = subst (λ (bytes : List ℕ). Ends p.kind (gap p.spaced ++ bytes)) (append-nil (bytes_of ps)) ends in
    let first = token_first p.text rest p.kind form ends' in
    let front : take n (p.text ++ rest) ≡ p.text = take_at p.text rest n refl in
    let back : drop n (p.text ++ rest) ≡ rest = drop_at p.text rest n refl in
    let later : Lexes (spot_after at (take n (p.text ++ rest))) (drop n (p.text ++ rest)) more.0 =
    rw (front, back) (gap_lexes p.spaced spot (bytes_of ps) more.0 more.1) in
    let text = text_there source at n (p.text ++ rest) is ∙ front in (
      token_at p.kind n at ∷ more.0,
      t.token at p.kind n (p.text ++ rest) more.0 first later,
      (refl, text, more.2),
    )

-- the bytes of pieces have exactly these as their tokens
pub pieces_lex : (ps : List Piece) → ArePieces ps []
    → (tokens : List Token) × HasText tokens (bytes_of ps) × Alike (lexemes_of (bytes_of ps) tokens) ps
pieces_lex ps are = pieces_from (bytes_of ps) ps first_spot are refl
