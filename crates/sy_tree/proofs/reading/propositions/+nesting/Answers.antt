use Rattle.std.proofs.Common.{arith, ◌≡◌, length, ◌+◌, [], ◌∷◌, refl, sym, ap, ◌∙◌}
use Rattle.std.proofs.lemmas.List.{length-append}
use Rattle.std.proofs.lemmas.Result.{err_from_is_err_and}
use Rattle.sy_lex.specs.declared.keyword.Keyword.TheVariants.{And, Or}
use Rattle.sy_lex.specs.declared.token.TokenKind.TheVariants as S
use Rattle.sy_tree.specs.declared.proposition.First.{First}
use Rattle.sy_tree.specs.declared.proposition.PropTree.TheVariants as P
use Rattle.sy_reader.specs.Machine.Reading.{is_kind}
use Rattle.sy_tree.specs.Machine.ReadingPropositions.{neg_at, conj_of_at, link_at}
use Rattle.sy_reader.proofs.Loops.{one_more, begins_is}
use Rattle.sy_tree.proofs.Chains.{chain_empty, chain_fails_first, chain_one, chain_more, chain_fails, link_fails, links_done, done, deeper, outermost}
use Rattle.sy_tree.proofs.reading.propositions.+nesting.Goals as goal

pub conj-returns-in_err-token-clause-gives : goal.conj-returns-in_err-token-clause-gives
conj-returns-in_err-token-clause-gives t c =
    let p = err_from_is_err_and c.from_residual.result c.from_residual.ensures.1 in
    let e = c.in_err-token.ensures in
    rw (p.1, p.2, e.1) (chain_empty And P.All (neg_at c.args.levels) c.args.reader.now e.0)

pub conj-returns-in_err-part-clause-gives : goal.conj-returns-in_err-part-clause-gives
conj-returns-in_err-part-clause-gives t c =
    let p = err_from_is_err_and c.from_residual-in_err-part.result c.from_residual-in_err-part.ensures.1 in
    let ahead = c.in_ok-token.ensures in
    rw (p.1, p.2) (chain_fails_first And P.All (neg_at c.args.levels) c.args.reader.now c.in_ok-token.token ahead.0 ahead.1 c.in_err-part.field-0.0 c.neg.new.reader c.in_err-part.ensures.gives)

pub conj-returns-then-not-begins-clause-gives : goal.conj-returns-then-not-begins-clause-gives
conj-returns-then-not-begins-clause-gives t c =
    let ahead = c.in_ok-token.ensures in
    chain_one And P.All (neg_at c.args.levels) c.args.reader.now c.in_ok-token.token ahead.0 ahead.1 c.in_ok-part.part c.neg.new.reader c.in_ok-part.ensures.gives (sym c.begins.ensures ∙ c.if-not-begins.true)

pub conj-returns-in_err-parts-clause-gives : goal.conj-returns-in_err-parts-clause-gives
conj-returns-in_err-parts-clause-gives t c =
    let p = err_from_is_err_and c.from_residual-in_err-parts.result c.from_residual-in_err-parts.ensures.1 in
    let ahead = c.in_ok-token.ensures in
    rw (p.1, p.2) (chain_fails And P.All (neg_at c.args.levels) c.args.reader.now c.in_ok-token.token ahead.0 ahead.1 c.in_ok-part.part c.neg.new.reader c.in_ok-part.ensures.gives c.in_err-parts.field-0.0 c.more_negs.new.reader c.in_err-parts.ensures.gives)

pub conj-returns-clause-gives : goal.conj-returns-clause-gives
conj-returns-clause-gives t c =
    let ahead = c.in_ok-token.ensures in
    chain_more And P.All (neg_at c.args.levels) c.args.reader.now c.in_ok-token.token ahead.0 ahead.1 c.in_ok-part.part c.neg.new.reader c.in_ok-part.ensures.gives c.in_ok-parts.parts c.more_negs.new.reader
    (sym c.begins.ensures ∙ c.if-not-begins.false) c.in_ok-parts.ensures.gives
    ∙ ap (λ (first : First). done (P.All c.in_ok-parts.parts first, c.more_negs.new.reader)) (sym c.in_ok-first.ensures)

pub prop-returns-in_err-token-clause-gives : goal.prop-returns-in_err-token-clause-gives
prop-returns-in_err-token-clause-gives t c =
    let p = err_from_is_err_and c.from_residual.result c.from_residual.ensures.1 in
    let e = c.in_err-token.ensures in
    rw (p.1, p.2, e.1) (chain_empty Or P.Any (conj_of_at (neg_at c.args.levels)) c.args.reader.now e.0)

pub prop-returns-in_err-part-clause-gives : goal.prop-returns-in_err-part-clause-gives
prop-returns-in_err-part-clause-gives t c =
    let p = err_from_is_err_and c.from_residual-in_err-part.result c.from_residual-in_err-part.ensures.1 in
    let ahead = c.in_ok-token.ensures in
    rw (p.1, p.2) (chain_fails_first Or P.Any (conj_of_at (neg_at c.args.levels)) c.args.reader.now c.in_ok-token.token ahead.0 ahead.1 c.in_err-part.field-0.0 c.conj.new.reader c.in_err-part.ensures.gives)

pub prop-returns-then-not-begins-clause-gives : goal.prop-returns-then-not-begins-clause-gives
prop-returns-then-not-begins-clause-gives t c =
    let ahead = c.in_ok-token.ensures in
    chain_one Or P.Any (conj_of_at (neg_at c.args.levels)) c.args.reader.now c.in_ok-token.token ahead.0 ahead.1 c.in_ok-part.part c.conj.new.reader c.in_ok-part.ensures.gives (sym c.begins.ensures ∙ c.if-not-begins.true)

pub prop-returns-in_err-parts-clause-gives : goal.prop-returns-in_err-parts-clause-gives
prop-returns-in_err-parts-clause-gives t c =
    let p = err_from_is_err_and c.from_residual-in_err-parts.result c.from_residual-in_err-parts.ensures.1 in
    let ahead = c.in_ok-token.ensures in
    rw (p.1, p.2) (chain_fails Or P.Any (conj_of_at (neg_at c.args.levels)) c.args.reader.now c.in_ok-token.token ahead.0 ahead.1 c.in_ok-part.part c.conj.new.reader c.in_ok-part.ensures.gives c.in_err-parts.field-0.0 c.more_conjs.new.reader c.in_err-parts.ensures.gives)

pub prop-returns-clause-gives : goal.prop-returns-clause-gives
prop-returns-clause-gives t c =
    let ahead = c.in_ok-token.ensures in
    chain_more Or P.Any (conj_of_at (neg_at c.args.levels)) c.args.reader.now c.in_ok-token.token ahead.0 ahead.1 c.in_ok-part.part c.conj.new.reader c.in_ok-part.ensures.gives c.in_ok-parts.parts c.more_conjs.new.reader
    (sym c.begins.ensures ∙ c.if-not-begins.false) c.in_ok-parts.ensures.gives
    ∙ ap (λ (first : First). done (P.Any c.in_ok-parts.parts first, c.more_conjs.new.reader)) (sym c.in_ok-first.ensures)

pub more_negs-returns-in_err-and_neg-clause-gives : goal.more_negs-returns-in_err-and_neg-clause-gives
more_negs-returns-in_err-and_neg-clause-gives t c =
    let p = err_from_is_err_and c.from_residual-in_err-and_neg.result c.from_residual-in_err-and_neg.ensures.1 in
    rw (p.1, p.2) (link_fails (λ kind. is_kind kind (S.Reserved And)) (link_at And (neg_at c.args.levels)) c.args.part c.part.parts c.args.reader.now c.part.reader c.push.new.self c.in_err-and_neg.field-0.0 c.and_neg.new.reader
    (c.in_ok-push.ensures.ok ∙ rw c.new-parts.ensures refl) (sym (begins_is (S.Reserved And) c.part.reader) ∙ sym c.begins.ensures ∙ c.part-test.true) c.in_err-and_neg.ensures.gives c.part.invariant.fits c.part.invariant.read)

pub more_negs-part-preserved : goal.more_negs-part-preserved
more_negs-part-preserved t c =
    let is = c.in_ok-push-2.ensures.ok in
    let longer : length c.push-in-part.new.self ≡ length c.part.parts + 1 = ap length is ∙ length-append c.part.parts (c.in_ok-and_neg.field-0 ∷ []) in
    record {
      some = omega arith;
      fits = omega (arith, c.part.invariant.fits, c.in_ok-and_neg.ensures.shorter);
      read = one_more (λ kind. is_kind kind (S.Reserved And)) (link_at And (neg_at c.args.levels)) c.part.parts (length c.args.reader.now + 1) c.part.reader _ c.push-in-part.new.self c.in_ok-and_neg.field-0 c.and_neg.new.reader is (sym (begins_is (S.Reserved And) c.part.reader) ∙ sym c.begins.ensures ∙ c.part-test.true) c.in_ok-and_neg.ensures.gives c.part.invariant.fits c.part.invariant.read;
    }

pub more_negs-returns-clause-gives : goal.more_negs-returns-clause-gives
more_negs-returns-clause-gives t c =
    let start : c.push.new.self ≡ c.args.part ∷ [] = c.in_ok-push.ensures.ok ∙ rw c.new-parts.ensures refl in
    links_done (λ kind. is_kind kind (S.Reserved And)) (link_at And (neg_at c.args.levels)) c.args.part c.part.parts c.args.reader.now c.part.reader c.push.new.self start (sym (begins_is (S.Reserved And) c.part.reader) ∙ sym c.begins.ensures ∙ c.part-test.false) c.part.invariant.read

pub more_conjs-returns-in_err-or_conj-clause-gives : goal.more_conjs-returns-in_err-or_conj-clause-gives
more_conjs-returns-in_err-or_conj-clause-gives t c =
    let p = err_from_is_err_and c.from_residual-in_err-or_conj.result c.from_residual-in_err-or_conj.ensures.1 in
    rw (p.1, p.2) (link_fails (λ kind. is_kind kind (S.Reserved Or)) (link_at Or (conj_of_at (neg_at c.args.levels))) c.args.part c.part.parts c.args.reader.now c.part.reader c.push.new.self c.in_err-or_conj.field-0.0 c.or_conj.new.reader
    (c.in_ok-push.ensures.ok ∙ rw c.new-parts.ensures refl) (sym (begins_is (S.Reserved Or) c.part.reader) ∙ sym c.begins.ensures ∙ c.part-test.true) c.in_err-or_conj.ensures.gives c.part.invariant.fits c.part.invariant.read)

pub more_conjs-part-preserved : goal.more_conjs-part-preserved
more_conjs-part-preserved t c =
    let is = c.in_ok-push-2.ensures.ok in
    let longer : length c.push-in-part.new.self ≡ length c.part.parts + 1 = ap length is ∙ length-append c.part.parts (c.in_ok-or_conj.field-0 ∷ []) in
    record {
      some = omega arith;
      fits = omega (arith, c.part.invariant.fits, c.in_ok-or_conj.ensures.shorter);
      read = one_more (λ kind. is_kind kind (S.Reserved Or)) (link_at Or (conj_of_at (neg_at c.args.levels))) c.part.parts (length c.args.reader.now + 1) c.part.reader _ c.push-in-part.new.self c.in_ok-or_conj.field-0 c.or_conj.new.reader is (sym (begins_is (S.Reserved Or) c.part.reader) ∙ sym c.begins.ensures ∙ c.part-test.true) c.in_ok-or_conj.ensures.gives c.part.invariant.fits c.part.invariant.read;
    }

pub more_conjs-returns-clause-gives : goal.more_conjs-returns-clause-gives
more_conjs-returns-clause-gives t c =
    let start : c.push.new.self ≡ c.args.part ∷ [] = c.in_ok-push.ensures.ok ∙ rw c.new-parts.ensures refl in
    links_done (λ kind. is_kind kind (S.Reserved Or)) (link_at Or (conj_of_at (neg_at c.args.levels))) c.args.part c.part.parts c.args.reader.now c.part.reader c.push.new.self start (sym (begins_is (S.Reserved Or) c.part.reader) ∙ sym c.begins.ensures ∙ c.part-test.false) c.part.invariant.read

pub neg-returns-then-levels-eq0-clause-gives : goal.neg-returns-then-levels-eq0-clause-gives
neg-returns-then-levels-eq0-clause-gives t c = rw (c.if-levels-eq0.true, outermost) c.atom.ensures.gives

pub neg-returns-else-levels-eq0-clause-gives : goal.neg-returns-else-levels-eq0-clause-gives
neg-returns-else-levels-eq0-clause-gives t c = rw (deeper c.args.levels (omega arith)) c.nested.ensures.gives
