-- The content of a text between quotes is the one that its form says.
use Rattle.std.proofs.Common.{◌≡◌, ℕ, ◌+◌, ◌-◌, false, true, List, [], ◌∷◌, ◌++◌, length, take, drop, refl, sym, ap, ◌∙◌, arith, length-append}
use Rattle.std.proofs.Math.Seq.{take-append_seam}
use Rattle.std.proofs.lemmas.Bool.Decides.{nat_tests}
use Rattle.sy_lex.specs.Bytes.{is_escaped, is_newline}
use Rattle.sy_lex.specs.Forms as f
use Rattle.sy_lex.specs.Forms.{HasContent, IsString}
use Rattle.sy_literal.specs.Values.{between_ends, text_content, unescaped}

-- a byte that is no `\` stands for itself
plain : (b : ℕ) (bytes : List ℕ) → is_escaped b ≡ false → unescaped (b ∷ bytes) ≡ b ∷ unescaped bytes
plain b [] other = refl
plain b (c ∷ bytes) other = grind (arith, nat_tests)

unescaped_content : (inside content : List ℕ) → HasContent inside content → unescaped inside ≡ content
unescaped_content inside content f.empty = refl
unescaped_content inside content (f.escape b bytes others escaped more) =
    ap (λ (rest : List ℕ). b ∷ rest) (unescaped_content bytes others more)
unescaped_content inside content (f.byte b bytes others newline escaped more) =
    plain b bytes escaped ∙ ap (λ (rest : List ℕ). b ∷ rest) (unescaped_content bytes others more)

between_quotes : (inside : List ℕ) → between_ends (34 ∷ inside ++ 34 ∷ []) ≡ inside
between_quotes inside =
    ap (λ (n : ℕ). take n (inside ++ 34 ∷ [])) (omega (arith, length-append inside (34 ∷ []))) ∙ take-append_seam inside (34 ∷ [])

pub content_of_string : (text : List ℕ) (string : IsString text) → text_content text ≡ string.content
content_of_string text string =
    ap text_content string.quoted ∙ ap unescaped (between_quotes string.inside)
    ∙ unescaped_content string.inside string.content string.holds
