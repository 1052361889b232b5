-- What the texts of files give.
use Rattle.std.specs.Prelude.{◌≡◌, ℕ, nat_lt, if◌then◌else◌, List, length, Option, None, Some, Result, Ok, Err}
use Rattle.sy_base.specs.declared.refusal.FileKind.{FileKind}
use Rattle.sy_base.specs.declared.refusal.FileKind.TheVariants.{Spec, Bind}
use Rattle.sy_base.specs.declared.refusal.FaultName.TheVariants.{TooBig}
use Rattle.sy_base.specs.declared.refusal.Refusal.{Refusal}
use Rattle.sy_base.specs.declared.refusal.Refused.TheVariants as R
use Rattle.sy_core.specs.declared.deed.Deed.{Deed}
use Rattle.sy_lex.specs.declared.token.Token.{Token}
use Rattle.sy_lex.specs.Tokens.{HasText, IsLexFault}
use Rattle.sy_spec.specs.declared.contract.SpecTree.{SpecTree}
use Rattle.sy_binding.specs.declared.tree.BindTree.{BindTree}
use Rattle.sy_lex.specs.Lexemes.{Lexeme, lexemes_of}
use Rattle.sy_spec.specs.Spelling.{SpellsSpec}
use Rattle.sy_binding.specs.Spelling.{SpellsBinding}
use Rattle.sy_reader.specs.Faults.{IsSyntaxFault}
use Rattle.sy_bind.specs.Deeds.{bind_fault, deed_of}
use Rattle.sy_report.specs.RefusalText.{whole}
use Rattle.sy_typing.specs.Plans.{spec_fault}
use Rattle.sy_run.specs.declared.stop.Stop.{Stop}
use Rattle.sy_run.specs.declared.stop.Stop.TheVariants as stop

-- the bytes of a file: a missing one can't be read, and one past the limit is too big
abbrev pub bytes_in : FileKind → Option (List ℕ) → Result (List ℕ) Stop
bytes_in file None = Err stop.ReadFault
bytes_in file (Some bytes) =
    if nat_lt 1048576 (length bytes) then Err (stop.Refused (whole file TooBig)) else Ok bytes

-- the bytes give this tree, by the rule for it, or this refusal: LexFault where they have no list of tokens, and
-- SyntaxFault where their tokens spell no tree
pub data IsTree {A : Type 0} (file : FileKind) (spells : A → List Lexeme → Type 0) : List ℕ → Result A Stop → Type 0 where
  no_tokens : (bytes : List ℕ) (refusal : Refusal) → IsLexFault file bytes (R.Refusal refusal) → IsTree file spells bytes (Err (stop.Refused refusal))
  no_tree : (bytes : List ℕ) (tokens : List Token) (refusal : Refusal) → HasText tokens bytes
      → IsSyntaxFault file spells bytes tokens (R.Refusal refusal) → IsTree file spells bytes (Err (stop.Refused refusal))
  one_tree : (bytes : List ℕ) (tokens : List Token) (tree : A) → HasText tokens bytes
      → spells tree (lexemes_of bytes tokens) → IsTree file spells bytes (Ok tree)

-- a file of these bytes gives this tree or ends the run so
abbrev pub IsTreeOf : {A : Type 0} → FileKind → (A → List Lexeme → Type 0) → Result (List ℕ) Stop → Result A Stop → Type 0
IsTreeOf file spells (Ok bytes) result = IsTree file spells bytes result
IsTreeOf file spells (Err why) result = result ≡ Err why

-- the specification in a file
abbrev pub IsSpecIn : Option (List ℕ) → Result SpecTree Stop → Type 0
IsSpecIn told result = IsTreeOf Spec SpellsSpec (bytes_in Spec told) result

-- a specification that is read is refused for the first fault that its checks find
abbrev pub accepted : SpecTree → Option Refusal → Result SpecTree Stop
accepted tree None = Ok tree
accepted tree (Some refusal) = Err (stop.Refused refusal)

abbrev pub checked : Result SpecTree Stop → Result SpecTree Stop
checked (Ok tree) = accepted tree (spec_fault tree)
checked (Err why) = Err why

-- the specification without a fault in a file
abbrev pub IsSoundSpecIn : Option (List ℕ) → Result SpecTree Stop → Type 0
IsSoundSpecIn told result = (tree : Result SpecTree Stop) × IsSpecIn told tree × (result ≡ checked tree)

-- the binding in a file
abbrev pub IsBindingIn : Option (List ℕ) → Result BindTree Stop → Type 0
IsBindingIn told result = IsTreeOf Bind SpellsBinding (bytes_in Bind told) result

-- the deed of an accepted specification and a binding, or the refusal of the binding
abbrev pub deed_or_refusal : SpecTree → BindTree → Option Refusal → Result Deed Stop
deed_or_refusal spec tree None = Ok (deed_of spec tree)
deed_or_refusal spec tree (Some refusal) = Err (stop.Refused refusal)

abbrev pub bound : SpecTree → Result BindTree Stop → Result Deed Stop
bound spec (Ok tree) = deed_or_refusal spec tree (bind_fault spec tree)
bound spec (Err why) = Err why

-- the binding is read only once the specification is accepted
abbrev pub IsDeedOf : Result SpecTree Stop → Option (List ℕ) → Result Deed Stop → Type 0
IsDeedOf (Ok spec) bind result = (tree : Result BindTree Stop) × IsBindingIn bind tree × (result ≡ bound spec tree)
IsDeedOf (Err why) bind result = result ≡ Err why

-- the deed of a specification and a binding, or how their files end the run
abbrev pub IsDeedIn : Option (List ℕ) → Option (List ℕ) → Result Deed Stop → Type 0
IsDeedIn spec bind result = (tree : Result SpecTree Stop) × IsSoundSpecIn spec tree × IsDeedOf tree bind result
