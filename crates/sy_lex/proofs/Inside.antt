-- One step inside a text between quotes.
use Rattle.std.proofs.Common.{◌≡◌, ℕ, ◌+◌, ◌-◌, List, [], ◌∷◌, drop, sym, ◌∙◌, arith}
use Rattle.std.proofs.lemmas.Bool.Decides.{nat_tests}
use Rattle.sy_lex.specs.declared.token.TokenKind.TheVariants as K
use Rattle.sy_lex.specs.declared.step.Step.{Step}
use Rattle.sy_lex.specs.declared.step.Step.TheVariants as S
use Rattle.sy_lex.specs.declared.string.Inside.{Inside}
use Rattle.sy_lex.specs.declared.string.Inside.TheVariants as I
use Rattle.sy_lex.specs.Machine.Cutting.{next_inside, string_step}

-- what is left to do once it is known what stands next
abbrev pub goes_inside : ℕ → ℕ → List ℕ → Inside → Step
goes_inside left at bytes (I.Content n) = string_step (left - 1) (at + n) (drop n bytes)
goes_inside left at bytes I.Quote = S.Token K.Str (at + 1)
goes_inside left at bytes (I.Bad n) = S.Bad (at + n)

pub one_inside : (left at : ℕ) (bytes : List ℕ)
    → string_step left at bytes ≡ goes_inside left at bytes (next_inside left bytes)
unfolding string_step
one_inside left at [] = grind (arith, nat_tests)
one_inside left at (b ∷ []) = grind (arith, nat_tests)
one_inside left at (b ∷ c ∷ bytes) = grind (arith, nat_tests)

-- the loop's step
pub inside_turn : (inside : Inside) (left at : ℕ) (bytes : List ℕ) (whole : Step) → inside ≡ next_inside left bytes
    → string_step left at bytes ≡ whole → goes_inside left at bytes inside ≡ whole
inside_turn inside left at bytes whole is so_far = rw is (sym (one_inside left at bytes) ∙ so_far)
