use Rattle.std.proofs.Common.{List, Err, subst, sym}
use Rattle.sy_base.specs.declared.refusal.Refused.{Refused}
use Rattle.sy_lex.specs.declared.token.Token.{Token}
use Rattle.sy_lex.specs.Tokens.{HasText, IsReadAs}
use Rattle.sy_log.specs.Machine.Answering.{entry_of_tokens}
use Rattle.sy_log.proofs.Telling.{is_entry, no_entry, told_as}
use Rattle.sy_log.proofs.read.entry_told.Goals as goal

pub returns-in-Ok : goal.returns-in-Ok
returns-in-Ok c =
    let deed = c.args.deed.now in
    let bytes = c.args.bytes.now in
    let text = subst (λ (tokens : List Token). HasText tokens bytes) (sym c.items.ensures) c.in-Ok.ensures.found in
    told_as deed bytes (entry_of_tokens deed bytes c.items.result.now) c.entry_of_tokens.result (is_entry deed bytes c.items.result.now text)
    c.entry_of_tokens.ensures

pub returns : goal.returns
returns c =
    no_entry c.args.deed.now c.args.bytes.now
    (λ tokens text.
    subst (λ (why : Refused). IsReadAs (Err why) tokens) c.in-Err-Refusal.field-0-is (c.in-Err-Refusal.ensures.only tokens text))
