-- What reading all tokens of a file answers.
use Rattle.std.specs.Prelude.{◌≡◌, ◌-◌, ℕ, List, length, drop, Result, Ok, Err}
use Rattle.sy_base.specs.declared.refusal.FileKind.{FileKind}
use Rattle.sy_base.specs.declared.refusal.Refusal.{Refusal}
use Rattle.sy_base.specs.declared.refusal.Refused.{Refused}
use Rattle.sy_base.specs.declared.refusal.Refused.TheVariants as R
use Rattle.sy_lex.specs.declared.token.Token.{Token}
use Rattle.sy_reader.specs.Faults.{syntax_fault}

-- the refusal where so many of the tokens are left
abbrev pub syntax_fault_of : FileKind → List ℕ → List Token → ℕ → Refusal
syntax_fault_of file source tokens left = syntax_fault file source (drop (length tokens - left) tokens)

-- what was answered is what reading gives, unless memory was wanting
abbrev pub Answers : {A : Type 0} → FileKind → List ℕ → List Token → Result A Refused → Result A ℕ → Type 0
Answers file source tokens (Ok tree) read = read ≡ Ok tree
Answers file source tokens (Err R.Memory) read = Unit {0}
Answers file source tokens (Err (R.Refusal refusal)) read =
    (left : ℕ) × (read ≡ Err left) × (refusal ≡ syntax_fault_of file source tokens left)
