use Rattle.std.proofs.Common.{◌≡◌, ◌+◌, ◌-◌, not, length, ap, sym, ◌∙◌, refl, arith, [], ◌∷◌}
use Rattle.std.proofs.lemmas.List.{length-append}
use Rattle.std.proofs.lemmas.Result.{err_from_is_err_and}
use Rattle.sy_lex.specs.declared.sign.Sign.TheVariants.{Semicolon}
use Rattle.sy_reader.specs.Machine.Reading.{before_at}
use Rattle.sy_reader.proofs.Loops.{one_more, reads_fail, turn_ends}
use Rattle.sy_reader.proofs.lines.ended.Goals as goal

pub returns-in_err-before-clause-gives : goal.returns-in_err-before-clause-gives
returns-in_err-before-clause-gives g c =
    let p = err_from_is_err_and c.from_residual.result c.from_residual.ensures.1 in
    rw (p.1, p.2) (reads_fail (λ kind. not (g.H.Headings.is_heading kind)) (before_at g.T.Production.reading Semicolon) c.line.items (length c.args.reader.now) c.line.reader _ c.in_err-before.field-0.0 c.args.reader.now c.before-in-line.new.reader
    (sym c.has_line.ensures ∙ c.line-test.true) c.in_err-before.ensures.gives c.line.invariant.fits c.line.invariant.read refl)

pub line-preserved : goal.line-preserved
line-preserved g c =
    let is = c.in_ok-push.ensures.ok in
    let longer : length c.push.new.self ≡ length c.line.items + 1 = ap length is ∙ length-append c.line.items (c.in_ok-before.field-0 ∷ []) in
    record {
      fits = omega (arith, c.line.invariant.fits, c.in_ok-before.ensures.shorter);
      read = one_more (λ kind. not (g.H.Headings.is_heading kind)) (before_at g.T.Production.reading Semicolon) c.line.items (length c.args.reader.now) c.line.reader _ c.push.new.self c.in_ok-before.field-0 c.before-in-line.new.reader is
          (sym c.has_line.ensures ∙ c.line-test.true) c.in_ok-before.ensures.gives c.line.invariant.fits c.line.invariant.read;
    }

pub returns-clause-gives : goal.returns-clause-gives
returns-clause-gives g c =
    turn_ends (λ kind. not (g.H.Headings.is_heading kind)) (before_at g.T.Production.reading Semicolon) c.line.items (length c.args.reader.now - length c.line.items) c.line.reader _ (sym c.has_line.ensures ∙ c.line-test.false) c.line.invariant.read
