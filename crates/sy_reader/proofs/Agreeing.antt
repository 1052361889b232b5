-- What reading finds in all lexemes is what they spell, and they spell one thing at most.
use Rattle.std.proofs.Common.{◌≡◌, List, [], ◌∷◌, Ok, Err, refl}
use Rattle.sy_lex.specs.Lexemes.{Lexeme}
use Rattle.sy_reader.specs.Grammar.{Rule}
use Rattle.sy_reader.specs.Machine.Reading.{Read, Reading}
use Rattle.sy_reader.specs.Machine.Reading.{whole_of, whole_at}
use Rattle.sy_reader.proofs.Agree.{Behind, Agrees}

whole_is : {A : Type 0} (read : Read A) (x : A) → whole_of read ≡ Ok x → read ≡ Ok (x, [])
whole_is (Ok (y, [])) x e = let same : y ≡ x = cc in rw same refl
whole_is (Ok (y, l ∷ ls)) x e = absurd cc
whole_is (Err left) x e = absurd cc

module _ {A : Type 0} {R : Rule A} {r : Reading A} {F : Behind} (one : Agrees R r F) (ends : F []) where
  pub whole_read : (x : A) (lexemes : List Lexeme) → R lexemes x [] → whole_at r lexemes ≡ Ok x
  whole_read x lexemes d = rw (one.complete lexemes x [] d ends) refl

  pub whole_spelled : (x : A) (lexemes : List Lexeme) → whole_at r lexemes ≡ Ok x → R lexemes x []
  whole_spelled x lexemes e = one.sound lexemes x [] (whole_is (r lexemes) x e)

  pub whole_one : (x y : A) (lexemes : List Lexeme) → R lexemes x [] → R lexemes y [] → x ≡ y
  whole_one x y lexemes d d' =
      let e : whole_at r lexemes ≡ Ok x = whole_read x lexemes d in
      let e' : whole_at r lexemes ≡ Ok y = whole_read y lexemes d' in
      cc
