use Rattle.sy_base.specs.declared.refusal.FileKind.TheVariants.{Spec}
use Rattle.sy_lex.specs.Lexemes.{lexemes_of}
use Rattle.sy_spec.specs.Spelling.{SpellsSpec}
use Rattle.sy_spec.specs.Machine.ReadingSpecifications.{spec_at}
use Rattle.sy_reader.specs.Machine.Reading.{whole_at}
use Rattle.sy_spec.proofs.Agreeing.{spec_is_read, read_is_spec, one_spec, spec_fault, spec_or_fault}
use Rattle.sy_reader.proofs.Answering.{is_found, is_only, is_fault}
use Rattle.sy_reader.proofs.PlacesFaults.{one_refusal}
use Rattle.sy_spec.proofs.parse.spec.Goals as goal

pub returns-clause-found : goal.returns-clause-found
returns-clause-found c =
    is_found Spec c.args.source.now c.args.tokens.now c.parse.result (whole_at spec_at (lexemes_of c.args.source.now c.args.tokens.now)) c.parse.ensures
    (λ tree. SpellsSpec tree (lexemes_of c.args.source.now c.args.tokens.now)) (λ tree. read_is_spec tree (lexemes_of c.args.source.now c.args.tokens.now))

pub returns-clause-only : goal.returns-clause-only
returns-clause-only c = λ tree spells.
    is_only Spec c.args.source.now c.args.tokens.now c.parse.result _ c.parse.ensures tree (spec_is_read tree (lexemes_of c.args.source.now c.args.tokens.now) spells)

pub returns-clause-refusal : goal.returns-clause-refusal
returns-clause-refusal c =
    is_fault Spec c.args.source.now c.args.tokens.now SpellsSpec c.parse.result (whole_at spec_at (lexemes_of c.args.source.now c.args.tokens.now)) c.parse.ensures
    (spec_fault c.args.source.now c.args.tokens.now)

pub returns-clause-one_refusal : goal.returns-clause-one_refusal
returns-clause-one_refusal c = λ refusal other. one_refusal Spec SpellsSpec c.args.source.now c.args.tokens.now refusal other

pub returns-clause-either : goal.returns-clause-either
returns-clause-either c = spec_or_fault c.args.source.now c.args.tokens.now

pub returns-clause-one : goal.returns-clause-one
returns-clause-one c = λ tree other. one_spec tree other (lexemes_of c.args.source.now c.args.tokens.now)
