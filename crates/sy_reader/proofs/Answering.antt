-- From what reading gives to what is answered.
use Rattle.std.proofs.Common.{◌≡◌, ℕ, ◌-◌, List, length, Result, Ok, Err, sym, ◌∙◌}
use Rattle.std.specs.Prelude.{IfOk, IfErr}
use Rattle.sy_base.specs.declared.refusal.FileKind.{FileKind}
use Rattle.sy_base.specs.declared.refusal.Refused.{Refused}
use Rattle.sy_base.specs.declared.refusal.Refused.TheVariants as R
use Rattle.sy_lex.specs.declared.token.Token.{Token}
use Rattle.sy_lex.specs.Lexemes.{Lexeme, lexemes_of}
use Rattle.sy_reader.specs.Faults.{IsFaultAt, IsReadAs, IsSyntaxFault}
use Rattle.sy_reader.specs.Machine.Parsing.{Answers}

abbrev done : {A : Type 0} → A → Result A ℕ
done x = Ok x

abbrev failed : {A : Type 0} → ℕ → Result A ℕ
failed left = Err left

module _ {A : Type 0} (file : FileKind) (source : List ℕ) (tokens : List Token) where
  pub is_found : (result : Result A Refused) (read : Result A ℕ) → Answers file source tokens result read → (Q : A → Type 0) → ((tree : A) → read ≡ Ok tree → Q tree) → IfOk result Q
  is_found (Ok tree) read e Q sound = sound tree e
  is_found (Err R.Memory) read e Q sound = tt
  is_found (Err (R.Refusal refusal)) read e Q sound = tt

  pub is_only : (result : Result A Refused) (read : Result A ℕ) → Answers file source tokens result read → (tree : A) → read ≡ Ok tree → IsReadAs result tree
  is_only (Ok found) read e tree is = same found tree (sym e ∙ is)
    where
      same : (x y : A) → done x ≡ done y → x ≡ y
      same x y h = cc
  is_only (Err R.Memory) read e tree is = tt
  is_only (Err (R.Refusal refusal)) read e tree is = differ e.0 tree (sym e.1 ∙ is)
    where
      differ : (left : ℕ) (x : A) → failed left ≡ done x → ⊥
      differ left x h = cc

  pub is_fault : (spells : A → List Lexeme → Type 0) (result : Result A Refused) (read : Result A ℕ) → Answers file source tokens result read
      → ((n : ℕ) → read ≡ Err n → IsFaultAt spells (lexemes_of source tokens) (length tokens - n)) → IfErr result (IsSyntaxFault file spells source tokens)
  is_fault spells (Ok tree) read e fault = tt
  is_fault spells (Err R.Memory) read e fault = tt
  is_fault spells (Err (R.Refusal refusal)) read e fault = (length tokens - e.0, fault e.0 e.1, e.2)
