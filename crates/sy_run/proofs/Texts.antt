-- From what the files give to the deed.
use Rattle.std.proofs.Common.{◌≡◌, ℕ, List, refl, Ok, Err, Result}
use Rattle.std.specs.declared.option.Option.{Option}
use Rattle.sy_base.specs.declared.refusal.FileKind.{FileKind}
use Rattle.sy_base.specs.declared.refusal.Refused.{Refused}
use Rattle.sy_base.specs.declared.refusal.Refused.TheVariants as R
use Rattle.sy_core.specs.declared.deed.Deed.{Deed}
use Rattle.sy_lex.specs.declared.token.Token.{Token}
use Rattle.sy_lex.specs.Tokens.{HasText, IsLexFault}
use Rattle.sy_spec.specs.declared.contract.SpecTree.{SpecTree}
use Rattle.sy_binding.specs.declared.tree.BindTree.{BindTree}
use Rattle.sy_lex.specs.Lexemes.{Lexeme}
use Rattle.sy_reader.specs.Faults.{IsSyntaxFault}
use Rattle.sy_run.specs.Machine.Stopping.{IsToldAs, stop_of}
use Rattle.sy_run.specs.Texts.{IsTree, no_tokens, no_tree, IsSoundSpecIn, IsBindingIn, IsDeedIn, bound}
use Rattle.sy_run.specs.declared.stop.Stop.{Stop}
use Rattle.sy_run.specs.declared.stop.Stop.TheVariants as stop

module _ {A : Type 0} (file : FileKind) (spells : A → List Lexeme → Type 0) (bytes : List ℕ) where
  -- no tokens
  pub not_cut : (why : Refused) → IsLexFault file bytes why → IsToldAs (IsTree file spells bytes) (Err (stop_of why))
  not_cut R.Memory fault = tt
  not_cut (R.Refusal refusal) fault = no_tokens bytes refusal fault

  -- no tree
  pub not_spelled : (tokens : List Token) → HasText tokens bytes → (why : Refused) → IsSyntaxFault file spells bytes tokens why → IsToldAs (IsTree file spells bytes) (Err (stop_of why))
  not_spelled tokens has R.Memory fault = tt
  not_spelled tokens has (R.Refusal refusal) fault = no_tree bytes tokens refusal has fault

-- what one call was told, another is told too
pub told_too : {A B : Type 0} (IsGiven : Result A Stop → Type 0) (IsThen : Result B Stop → Type 0) → ((why : Stop) → IsGiven (Err why) → IsThen (Err why))
    → (why : Stop) → IsToldAs IsGiven (Err why) → IsToldAs IsThen (Err why)
told_too IsGiven IsThen f (stop.Refused r) told = f (stop.Refused r) told
told_too IsGiven IsThen f stop.ReadFault told = tt
told_too IsGiven IsThen f stop.Memory told = tt

module _ (spec bind : Option (List ℕ)) where
  pub stopped_by_spec : (why : Stop) → IsSoundSpecIn spec (Err why) → IsDeedIn spec bind (Err why)
  stopped_by_spec why given = (Err why, given, refl)

  module _ (tree : SpecTree) (given : IsSoundSpecIn spec (Ok tree)) where
    pub stopped_by_binding : (why : Stop) → IsBindingIn bind (Err why) → IsDeedIn spec bind (Err why)
    stopped_by_binding why there = (Ok tree, given, (Err why, there, refl))

    module _ (binding : BindTree) (there : IsBindingIn bind (Ok binding)) where
      pub with_binding : (result : Result Deed Stop) → IsToldAs (λ (deed : Result Deed Stop). deed ≡ bound tree (Ok binding)) result
          → IsToldAs (IsDeedIn spec bind) result
      with_binding (Ok deed) is = (Ok tree, given, (Ok binding, there, is))
      with_binding (Err (stop.Refused refusal)) is = (Ok tree, given, (Ok binding, there, is))
      with_binding (Err stop.ReadFault) is = tt
      with_binding (Err stop.Memory) is = tt
