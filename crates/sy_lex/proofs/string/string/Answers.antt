use Rattle.std.proofs.Common.{arith}
use Rattle.std.proofs.lemmas.List.{take_rest, length-drop}
use Rattle.sy_lex.specs.declared.string.Inside.TheVariants as I
use Rattle.sy_lex.proofs.Inside.{inside_turn}
use Rattle.sy_lex.proofs.string.string.Goals as goal

pub returns-in-Quote-clause-value : goal.returns-in-Quote-clause-value
returns-in-Quote-clause-value c =
    inside_turn I.Quote c.content.left c.content.at c.content.rest.now _ c.in-Quote.ensures.value c.content.invariant.read

pub returns-in-Bad-clause-value : goal.returns-in-Bad-clause-value
returns-in-Bad-clause-value c =
    inside_turn (I.Bad c.in-Bad.n) c.content.left c.content.at c.content.rest.now _ c.in-Bad.ensures.value c.content.invariant.read

pub content-preserved : goal.content-preserved
content-preserved c =
    let n = c.in-Content.n in
    let next = inside_turn (I.Content n) c.content.left c.content.at c.content.rest.now _ c.in-Content.ensures.value c.content.invariant.read in
    rw (take_rest c.content.rest.now n) (record { read = next; size = omega (arith, length-drop n c.content.rest.now, c.in-Content.ensures.within) })
