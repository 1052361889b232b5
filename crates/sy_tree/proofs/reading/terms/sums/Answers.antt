use Rattle.std.proofs.Common.{◌≡◌, ◌+◌, ◌-◌, length, ap, sym, ◌∙◌, refl, arith, [], ◌∷◌}
use Rattle.std.proofs.lemmas.List.{length-append}
use Rattle.std.proofs.lemmas.Result.{err_from_is_err_and}
use Rattle.sy_tree.specs.Machine.ReadingTerms.{is_sum_sign, sum_at}
use Rattle.sy_reader.proofs.Loops.{one_more, reads_fail, turn_ends}
use Rattle.sy_tree.proofs.reading.terms.sums.Goals as goal

pub returns-in_err-read-clause-gives : goal.returns-in_err-read-clause-gives
returns-in_err-read-clause-gives c =
    let p = err_from_is_err_and c.from_residual.result c.from_residual.ensures.1 in
    rw (p.1, p.2) (reads_fail is_sum_sign sum_at c.sum.sums (length c.args.reader.now) c.sum.reader _ c.in_err-read.field-0.0 c.args.reader.now c.read.new.reader
    (sym c.has_sum.ensures ∙ c.sum-test.true) c.in_err-read.ensures.gives c.sum.invariant.fits c.sum.invariant.read refl)

pub sum-preserved : goal.sum-preserved
sum-preserved c =
    let is = c.in_ok-push.ensures.ok in
    let longer : length c.push.new.self ≡ length c.sum.sums + 1 = ap length is ∙ length-append c.sum.sums (c.in_ok-read.field-0 ∷ []) in
    record {
      fits = omega (arith, c.sum.invariant.fits, c.in_ok-read.ensures.shorter);
      read = one_more is_sum_sign sum_at c.sum.sums (length c.args.reader.now) c.sum.reader _ c.push.new.self c.in_ok-read.field-0 c.read.new.reader is
          (sym c.has_sum.ensures ∙ c.sum-test.true) c.in_ok-read.ensures.gives c.sum.invariant.fits c.sum.invariant.read;
    }

pub returns-clause-gives : goal.returns-clause-gives
returns-clause-gives c =
    turn_ends is_sum_sign sum_at c.sum.sums (length c.args.reader.now - length c.sum.sums) c.sum.reader _ (sym c.has_sum.ensures ∙ c.sum-test.false) c.sum.invariant.read
