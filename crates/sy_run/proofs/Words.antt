-- The words of a command.
use Rattle.std.proofs.Common.{◌≡◌, ℕ, ◌<◌, ◌≤◌, Bool, true, false, List, [], ◌∷◌, length, get_or, sym, refl, ◌∙◌, arith}
use Rattle.std.specs.Prelude.{nat_eq, codes}
use Rattle.std.specs.Cmp.Lexicographic.{pointwise}
use Rattle.sy_run.specs.Commands.{Compile, Monitor, Unknown, command_of}

pub two_words : (words : List (List ℕ)) (word spec : List ℕ) → 2 ≤ length words → length words < 3 → word ≡ get_or words 0 word → spec ≡ get_or words 1 spec → words ≡ word ∷ spec ∷ []
two_words [] word spec least below e0 e1 = absurd (omega arith)
two_words (x ∷ []) word spec least below e0 e1 = absurd (omega arith)
two_words (x ∷ y ∷ []) word spec least below e0 e1 = λ i. sym e0 i ∷ sym e1 i ∷ []
two_words (x ∷ y ∷ z ∷ ws) word spec least below e0 e1 = absurd (omega arith)

pub three_words : (words : List (List ℕ)) (word spec bind : List ℕ) → 3 ≤ length words → length words < 4 → word ≡ get_or words 0 word → spec ≡ get_or words 1 spec → bind ≡ get_or words 2 bind
    → words ≡ word ∷ spec ∷ bind ∷ []
three_words [] word spec bind least below e0 e1 e2 = absurd (omega arith)
three_words (x ∷ []) word spec bind least below e0 e1 e2 = absurd (omega arith)
three_words (x ∷ y ∷ []) word spec bind least below e0 e1 e2 = absurd (omega arith)
three_words (x ∷ y ∷ z ∷ []) word spec bind least below e0 e1 e2 = λ i. sym e0 i ∷ sym e1 i ∷ sym e2 i ∷ []
three_words (x ∷ y ∷ z ∷ w ∷ ws) word spec bind least below e0 e1 e2 = absurd (omega arith)

pub compile_words : (words : List (List ℕ)) (word spec : List ℕ) → words ≡ word ∷ spec ∷ [] → pointwise nat_eq word (codes "compile") ≡ true → command_of words ≡ Compile spec
compile_words words word spec is named = rw (is, named) refl

pub monitor_words : (words : List (List ℕ)) (word spec bind : List ℕ) → words ≡ word ∷ spec ∷ bind ∷ [] → pointwise nat_eq word (codes "monitor") ≡ true → command_of words ≡ Monitor spec bind
monitor_words words word spec bind is named = rw (is, named) refl

-- a word is this one, or isn't, where the test of its bytes says so
pub is_word : (result b : Bool) (bytes slice word wanted : List ℕ) → result ≡ pointwise nat_eq bytes slice → result ≡ b → bytes ≡ word → slice ≡ wanted → pointwise nat_eq word wanted ≡ b
is_word result b bytes slice word wanted tested is same text = (λ i. pointwise nat_eq (sym same i) (sym text i)) ∙ (sym tested ∙ is)

pub few_words : (words : List (List ℕ)) → length words < 2 → command_of words ≡ Unknown
few_words [] few = refl
few_words (x ∷ []) few = refl
few_words (x ∷ y ∷ words) few = absurd (omega arith)

pub many_words : (words : List (List ℕ)) → 4 ≤ length words → command_of words ≡ Unknown
many_words [] many = absurd (omega arith)
many_words (x ∷ []) many = absurd (omega arith)
many_words (x ∷ y ∷ []) many = absurd (omega arith)
many_words (x ∷ y ∷ z ∷ []) many = absurd (omega arith)
many_words (x ∷ y ∷ z ∷ w ∷ words) many = refl

pub no_compile_words : (words : List (List ℕ)) (word spec : List ℕ) → words ≡ word ∷ spec ∷ [] → pointwise nat_eq word (codes "compile") ≡ false → command_of words ≡ Unknown
no_compile_words words word spec is other = rw (is, other) refl

pub no_monitor_words : (words : List (List ℕ)) (word spec bind : List ℕ) → words ≡ word ∷ spec ∷ bind ∷ [] → pointwise nat_eq word (codes "monitor") ≡ false → command_of words ≡ Unknown
no_monitor_words words word spec bind is other = rw (is, other) refl
