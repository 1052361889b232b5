-- Each token of a text has the form of its kind.
use Rattle.std.proofs.Common.{ℕ, List, [], ◌∷◌, take, drop, refl, sym, ap, subst, ◌∙◌}
use Rattle.std.proofs.lemmas.List.{take-append-drop}
use Rattle.sy_lex.specs.declared.token.Token.{Token}
use Rattle.sy_lex.specs.Forms.{HasForm}
use Rattle.sy_lex.specs.Tokens as t
use Rattle.sy_lex.specs.Tokens.{HasText, Lexes, comment_length, first_spot, next_spot, spot_after}
use Rattle.sy_lex.specs.Lexemes.{Lexeme, lexemes_of}
use Rattle.sy_log.proofs.Spots.{IsRest, Spot, rest_after, rest_drop, rest_next, text_there}

-- the lexemes are tokens
abbrev pub AreTokens : List Lexeme → Type 0
AreTokens [] = Unit {0}
AreTokens (l ∷ ls) = HasForm l.kind l.text × AreTokens ls

tokens_from : (source : List ℕ) (at : Spot) (bytes : List ℕ) (tokens : List Token) → Lexes at bytes tokens
    → IsRest source at.offset bytes → AreTokens (lexemes_of source tokens)
tokens_from source at bytes tokens (t.ends a) is = tt
tokens_from source at bytes tokens (t.blank a b more others blank d) is =
    tokens_from source (next_spot a b) more others d (rest_next source a b more is)
tokens_from source at bytes tokens (t.comment a more others d) is =
    let n = comment_length more in
    let inside : List ℕ = 47 ∷ 47 ∷ take n more in
    let parts = ap (λ (bs : List ℕ). 47 ∷ 47 ∷ bs) (sym (take-append-drop n more)) in
    let rest = rest_after source a inside (drop n more) (is ∙ parts) in
    tokens_from source (spot_after a inside) (drop n more) others d rest
tokens_from source at bytes tokens (t.token a kind n all others first d) is =
    let text = text_there source a n all is in (
      subst (HasForm kind) (sym text) first.form,
      tokens_from source (spot_after a (take n all)) (drop n all) others d (rest_drop source a n all is),
    )

-- each token of a text has the form of its kind
pub tokens_are : (source : List ℕ) (tokens : List Token) → HasText tokens source
    → AreTokens (lexemes_of source tokens)
tokens_are source tokens text = tokens_from source first_spot source tokens text refl
