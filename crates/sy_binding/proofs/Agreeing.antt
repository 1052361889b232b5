-- What reading finds in all lexemes is the binding that they spell, and they spell one at most.
use Rattle.std.proofs.Common.{◌≡◌, ◌⊎◌, ℕ, ◌-◌, List, length, Ok, Err, refl}
use Rattle.sy_binding.specs.declared.tree.BindTree.{BindTree}
use Rattle.sy_base.specs.declared.refusal.FileKind.TheVariants.{Bind}
use Rattle.sy_base.specs.declared.refusal.Refusal.{Refusal}
use Rattle.sy_base.specs.declared.refusal.Refused.TheVariants as refused
use Rattle.sy_lex.specs.declared.token.Token.{Token}
use Rattle.sy_lex.specs.Lexemes.{Lexeme, lexemes_of}
use Rattle.sy_binding.specs.Spelling.{SpellsBinding}
use Rattle.sy_reader.specs.Machine.Reading.{whole_at}
use Rattle.sy_binding.specs.Machine.ReadingBindings.{binding_at}
use Rattle.sy_binding.proofs.AgreeBindings.{binding_agrees}
use Rattle.sy_reader.specs.Faults.{IsFaultAt, IsSyntaxFault}
use Rattle.sy_binding.proofs.PlacesBindings.{binding_places}
use Rattle.sy_reader.proofs.Agreeing.{whole_read, whole_spelled, whole_one}
use Rattle.sy_reader.proofs.PlacesFaults.{token_fault, tree_or_fault}

pub binding_is_read : (tree : BindTree) (lexemes : List Lexeme) → SpellsBinding tree lexemes → whole_at binding_at lexemes ≡ Ok tree
binding_is_read = whole_read binding_agrees refl

pub read_is_binding : (tree : BindTree) (lexemes : List Lexeme) → whole_at binding_at lexemes ≡ Ok tree → SpellsBinding tree lexemes
read_is_binding = whole_spelled binding_agrees refl

pub one_binding : (t u : BindTree) (lexemes : List Lexeme) → SpellsBinding t lexemes → SpellsBinding u lexemes → t ≡ u
one_binding = whole_one binding_agrees refl

-- where lexemes go wrong
pub binding_fault : (source : List ℕ) (tokens : List Token) (n : ℕ) → whole_at binding_at (lexemes_of source tokens) ≡ Err n
    → IsFaultAt SpellsBinding (lexemes_of source tokens) (length tokens - n)
binding_fault = token_fault binding_agrees refl binding_places Bind

-- they spell something or go wrong
pub binding_or_fault : (source : List ℕ) (tokens : List Token)
    → ((tree : BindTree) × SpellsBinding tree (lexemes_of source tokens)) ⊎ ((refusal : Refusal) × IsSyntaxFault Bind SpellsBinding source tokens (refused.Refusal refusal))
binding_or_fault = tree_or_fault binding_agrees refl binding_places Bind
