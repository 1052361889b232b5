-- What reading finds in all lexemes is the specification that they spell, and they spell one at most.
use Rattle.std.proofs.Common.{◌≡◌, ◌⊎◌, ℕ, ◌-◌, List, length, Ok, Err}
use Rattle.sy_spec.specs.declared.contract.SpecTree.{SpecTree}
use Rattle.sy_base.specs.declared.refusal.FileKind.TheVariants.{Spec}
use Rattle.sy_base.specs.declared.refusal.Refusal.{Refusal}
use Rattle.sy_base.specs.declared.refusal.Refused.TheVariants as refused
use Rattle.sy_lex.specs.declared.token.Token.{Token}
use Rattle.sy_lex.specs.Lexemes.{Lexeme, lexemes_of}
use Rattle.sy_spec.specs.Spelling.{SpellsSpec}
use Rattle.sy_spec.specs.Machine.ReadingSpecifications.{spec_at}
use Rattle.sy_reader.specs.Machine.Reading.{whole_at}
use Rattle.sy_spec.proofs.AgreeSpecifications.{spec_agrees}
use Rattle.sy_reader.specs.Faults.{IsFaultAt, IsSyntaxFault}
use Rattle.sy_spec.proofs.PlacesSpecifications.{spec_places}
use Rattle.sy_reader.proofs.Agreeing.{whole_read, whole_spelled, whole_one}
use Rattle.sy_reader.proofs.PlacesFaults.{token_fault, tree_or_fault}

pub spec_is_read : (tree : SpecTree) (lexemes : List Lexeme) → SpellsSpec tree lexemes → whole_at spec_at lexemes ≡ Ok tree
spec_is_read = whole_read spec_agrees tt

pub read_is_spec : (tree : SpecTree) (lexemes : List Lexeme) → whole_at spec_at lexemes ≡ Ok tree → SpellsSpec tree lexemes
read_is_spec = whole_spelled spec_agrees tt

pub one_spec : (t u : SpecTree) (lexemes : List Lexeme) → SpellsSpec t lexemes → SpellsSpec u lexemes → t ≡ u
one_spec = whole_one spec_agrees tt

-- where lexemes go wrong
pub spec_fault : (source : List ℕ) (tokens : List Token) (n : ℕ) → whole_at spec_at (lexemes_of source tokens) ≡ Err n
    → IsFaultAt SpellsSpec (lexemes_of source tokens) (length tokens - n)
spec_fault = token_fault spec_agrees tt spec_places Spec

-- they spell something or go wrong
pub spec_or_fault : (source : List ℕ) (tokens : List Token)
    → ((tree : SpecTree) × SpellsSpec tree (lexemes_of source tokens)) ⊎ ((refusal : Refusal) × IsSyntaxFault Spec SpellsSpec source tokens (refused.Refusal refusal))
spec_or_fault = tree_or_fault spec_agrees tt spec_places Spec
