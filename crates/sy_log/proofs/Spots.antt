-- Where bytes stand in their source.
use Rattle.std.proofs.Common.{◌≡◌, ℕ, ◌+◌, ◌-◌, List, [], ◌∷◌, ◌++◌, length, take, drop, refl, sym, ap, ◌∙◌, arith}
use Rattle.std.proofs.lemmas.List.{drop_at, drop-drop, take-append-drop}
use Rattle.sy_lex.specs.Tokens.{first_spot, next_spot, spot_after}
use Rattle.sy_lex.specs.Lexemes.{text_of}

-- the type of this
abbrev TypeOf : {A : Type 0} → A → Type 0
TypeOf {A} a = A

-- where a byte of a text stands: its crate gives this type to others by no name
abbrev pub Spot : Type 0
Spot = TypeOf first_spot

offset_after : (at : Spot) (bytes : List ℕ) → (spot_after at bytes).offset ≡ at.offset + length bytes
unfolding spot_after
offset_after at [] = omega arith
offset_after at (b ∷ bytes) = offset_after (next_spot at b) bytes ∙ omega arith

-- behind so many bytes of the source there are these
abbrev pub IsRest : List ℕ → ℕ → List ℕ → Type 0
IsRest source n bytes = drop n source ≡ bytes

pub rest_after : (source : List ℕ) (at : Spot) (front bytes : List ℕ) → IsRest source at.offset (front ++ bytes)
    → IsRest source (spot_after at front).offset bytes
rest_after source at front bytes is =
    ap (λ (n : ℕ). drop n source) (offset_after at front) ∙ sym (drop-drop (length front) at.offset source)
    ∙ ap (drop (length front)) is ∙ drop_at front bytes (length front) refl

-- the text of the token of n bytes that begins there
pub text_there : (source : List ℕ) (at : Spot) (n : ℕ) (bytes : List ℕ) → IsRest source at.offset bytes
    → text_of source at.offset (at.offset + n) ≡ take n bytes
text_there source at n bytes is =
    let size : at.offset + n - at.offset ≡ n = omega arith in
    ap (λ (k : ℕ). take k (drop at.offset source)) size ∙ ap (take n) is

pub rest_next : (source : List ℕ) (at : Spot) (b : ℕ) (bytes : List ℕ) → IsRest source at.offset (b ∷ bytes)
    → IsRest source (next_spot at b).offset bytes
unfolding spot_after
rest_next source at b bytes is = rest_after source at (b ∷ []) bytes is

pub rest_drop : (source : List ℕ) (at : Spot) (n : ℕ) (bytes : List ℕ) → IsRest source at.offset bytes
    → IsRest source (spot_after at (take n bytes)).offset (drop n bytes)
rest_drop source at n bytes is =
    rest_after source at (take n bytes) (drop n bytes) (is ∙ sym (take-append-drop n bytes))
