use Rattle.std.proofs.Common.{List, sym, subst}
use Rattle.std.proofs.lemmas.Result.{err_from_is_err_and}
use Rattle.sy_base.specs.declared.refusal.FileKind.TheVariants.{Spec}
use Rattle.sy_lex.specs.declared.token.Token.{Token}
use Rattle.sy_lex.specs.Tokens.{HasText}
use Rattle.sy_spec.specs.Spelling.{SpellsSpec}
use Rattle.sy_run.specs.Texts.{one_tree}
use Rattle.sy_run.proofs.Texts.{not_cut, not_spelled}
use Rattle.sy_run.proofs.files.spec_of.Goals as goal

pub returns-in_err-tokens-clause-told : goal.returns-in_err-tokens-clause-told
returns-in_err-tokens-clause-told c =
    let p = err_from_is_err_and c.from_residual.result c.from_residual.ensures.1 in
    rw (p.1, p.2) (not_cut Spec SpellsSpec c.args.bytes.now c.in_err-tokens.field-0.0 c.in_err-tokens.ensures.refusal)

pub returns-in_err-spec-clause-told : goal.returns-in_err-spec-clause-told
returns-in_err-spec-clause-told c =
    let p = err_from_is_err_and c.from_residual-in_err-spec.result c.from_residual-in_err-spec.ensures.1 in
    let has = subst (λ (ts : List Token). HasText ts c.args.bytes.now) (sym c.items.ensures) c.in_ok-tokens.ensures.found in
    rw (p.1, p.2) (not_spelled Spec SpellsSpec c.args.bytes.now c.items.result.now has c.in_err-spec.field-0.0 c.in_err-spec.ensures.refusal)

pub returns-clause-told : goal.returns-clause-told
returns-clause-told c =
    let has = subst (λ (ts : List Token). HasText ts c.args.bytes.now) (sym c.items.ensures) c.in_ok-tokens.ensures.found in
    one_tree c.args.bytes.now c.items.result.now c.in_ok-spec.field-0 has c.in_ok-spec.ensures.found
