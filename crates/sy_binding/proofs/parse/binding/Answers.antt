use Rattle.sy_base.specs.declared.refusal.FileKind.TheVariants.{Bind}
use Rattle.sy_lex.specs.Lexemes.{lexemes_of}
use Rattle.sy_binding.specs.Spelling.{SpellsBinding}
use Rattle.sy_reader.specs.Machine.Reading.{whole_at}
use Rattle.sy_binding.specs.Machine.ReadingBindings.{binding_at}
use Rattle.sy_binding.proofs.Agreeing.{binding_is_read, read_is_binding, one_binding, binding_fault, binding_or_fault}
use Rattle.sy_reader.proofs.Answering.{is_found, is_only, is_fault}
use Rattle.sy_reader.proofs.PlacesFaults.{one_refusal}
use Rattle.sy_binding.proofs.parse.binding.Goals as goal

pub returns-clause-found : goal.returns-clause-found
returns-clause-found c =
    is_found Bind c.args.source.now c.args.tokens.now c.parse.result (whole_at binding_at (lexemes_of c.args.source.now c.args.tokens.now)) c.parse.ensures
    (λ tree. SpellsBinding tree (lexemes_of c.args.source.now c.args.tokens.now)) (λ tree. read_is_binding tree (lexemes_of c.args.source.now c.args.tokens.now))

pub returns-clause-only : goal.returns-clause-only
returns-clause-only c = λ tree spells.
    is_only Bind c.args.source.now c.args.tokens.now c.parse.result _ c.parse.ensures tree (binding_is_read tree (lexemes_of c.args.source.now c.args.tokens.now) spells)

pub returns-clause-refusal : goal.returns-clause-refusal
returns-clause-refusal c =
    is_fault Bind c.args.source.now c.args.tokens.now SpellsBinding c.parse.result (whole_at binding_at (lexemes_of c.args.source.now c.args.tokens.now)) c.parse.ensures
    (binding_fault c.args.source.now c.args.tokens.now)

pub returns-clause-one_refusal : goal.returns-clause-one_refusal
returns-clause-one_refusal c = λ refusal other. one_refusal Bind SpellsBinding c.args.source.now c.args.tokens.now refusal other

pub returns-clause-either : goal.returns-clause-either
returns-clause-either c = binding_or_fault c.args.source.now c.args.tokens.now

pub returns-clause-one : goal.returns-clause-one
returns-clause-one c = λ tree other. one_binding tree other (lexemes_of c.args.source.now c.args.tokens.now)
