use Rattle.std.proofs.Common.{◌≡◌, sym, ◌∙◌, refl, arith}
use Rattle.std.proofs.lemmas.Result.{err_from_is_err_and}
use Rattle.sy_lex.specs.declared.token.TokenKind.TheVariants as S
use Rattle.sy_reader.specs.Machine.Reading.{is_kind, behind_at, each_behind, and_more}
use Rattle.sy_reader.proofs.Loops.{one_of_few, few_fail, turn_ends, turn_full, begins_is}
use Rattle.sy_reader.proofs.production.more.Goals.{then-item-test+else-begins, else-item-test}
use Rattle.sy_reader.proofs.production.more.Goals as goal

pub returns-in_err-behind-clause-gives : goal.returns-in_err-behind-clause-gives
returns-in_err-behind-clause-gives g c =
    let p = err_from_is_err_and c.from_residual.result c.from_residual.ensures.1 in
    rw (p.1, p.2) (few_fail (λ found. is_kind found (S.Sign c.args.sign)) (behind_at c.args.sign g.T.Production.reading) c.item.items c.item.left c.item.reader _ c.in_err-behind.field-0.0 c.behind.new.reader
    c.item-test.true (sym (begins_is (S.Sign c.args.sign) c.item.reader) ∙ sym c.begins.ensures ∙ c.if-begins.true) c.in_err-behind.ensures.gives c.item.invariant.read c.args.reader.now (and_more c.args.items (each_behind c.args.sign g.T.Production.reading c.args.most)) refl)

pub item-preserved : goal.item-preserved
item-preserved g c = record {
  within = omega (arith, c.item.invariant.within, c.in_ok-behind.ensures.shorter);
  read = one_of_few (λ found. is_kind found (S.Sign c.args.sign)) (behind_at c.args.sign g.T.Production.reading) c.item.items c.item.left c.item.reader _ c.push.new.self c.in_ok-behind.field-0 c.behind.new.reader
      c.in_ok-push.ensures.ok c.item-test.true (sym (begins_is (S.Sign c.args.sign) c.item.reader) ∙ sym c.begins.ensures ∙ c.if-begins.true) c.in_ok-behind.ensures.gives c.item.invariant.read;
}

pub returns-clause-gives : goal.returns-clause-gives
returns-clause-gives g c = elim c.item-test.branch [
  | then-item-test+else-begins w ↦ turn_ends (λ found. is_kind found (S.Sign c.args.sign)) (behind_at c.args.sign g.T.Production.reading) c.item.items c.item.left c.item.reader _
      (sym (begins_is (S.Sign c.args.sign) c.item.reader) ∙ sym w.begins.ensures ∙ w.if-begins.false) c.item.invariant.read
  | else-item-test w ↦
      let none : c.item.left ≡ 0 = omega (arith, w.item-test.false) in
      turn_full (λ found. is_kind found (S.Sign c.args.sign)) (behind_at c.args.sign g.T.Production.reading) c.item.items c.item.reader _ (rw none at c.item.invariant.read)
]
