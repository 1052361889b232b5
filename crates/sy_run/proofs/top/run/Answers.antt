use Rattle.std.proofs.Common.{◌≡◌, refl, arith}
use Rattle.std.specs.Prelude.{codes}
use Rattle.sy_run.specs.Commands.{Unknown, command_of}
use Rattle.sy_run.proofs.Runs.{usage_run}
use Rattle.sy_run.proofs.Words.{two_words, three_words, few_words, many_words, is_word, compile_words, no_compile_words, no_monitor_words}
use Rattle.sy_run.proofs.top.run.Goals as goal
use Rattle.sy_run.proofs.top.run.Goals.{in_default-via-then-words-lt2, in_default-via-in-len2+else-eq, in_default-via-in-len3+else-eq-2, in_default-via-else-words-lt2+else-words-lt3+else-words-lt4}

pub returns-in-len2 : goal.returns-in-len2
returns-in-len2 g c =
    let are = two_words c.args.words.now c.form-item.result c.spec-item.result c.in-len2.len_at_least c.in-len2.len_below c.form-item.is c.spec-item.is in
    let is = is_word c.eq.result _ c.bytes.result.now c.as_slice.result.now c.form-item.result (codes "compile") c.eq.ensures c.if-eq.true c.bytes.ensures c.as_slice.ensures in
    rw (compile_words c.args.words.now c.form-item.result c.spec-item.result are is) (c.compile.ensures (g.S.Source.left c.args.input.now) (g.S.Source.faults c.args.input.now))

pub returns-in_default : goal.returns-in_default
returns-in_default g c =
    let unknown : command_of c.args.words.now ≡ Unknown = elim c.in_default.branch [
      | in_default-via-then-words-lt2 w ↦ few_words c.args.words.now (grind arith)
      | in_default-via-in-len2+else-eq w ↦
          no_compile_words c.args.words.now w.form-item.result w.spec-item.result
          (two_words c.args.words.now w.form-item.result w.spec-item.result w.in-len2.len_at_least w.in-len2.len_below w.form-item.is w.spec-item.is)
          (is_word w.eq.result _ w.bytes.result.now w.as_slice.result.now w.form-item.result (codes "compile") w.eq.ensures w.if-eq.false w.bytes.ensures w.as_slice.ensures)
      | in_default-via-in-len3+else-eq-2 w ↦
          no_monitor_words c.args.words.now w.form-item-then-words-lt4.result w.spec-item-then-words-lt4.result w.bind-item.result
          (three_words c.args.words.now w.form-item-then-words-lt4.result w.spec-item-then-words-lt4.result w.bind-item.result w.in-len3.len_at_least w.in-len3.len_below w.form-item-then-words-lt4.is w.spec-item-then-words-lt4.is w.bind-item.is)
          (is_word w.eq-then-words-lt4.result _ w.bytes-then-words-lt4.result.now w.as_slice-then-words-lt4.result.now w.form-item-then-words-lt4.result (codes "monitor") w.eq-then-words-lt4.ensures w.if-eq-2.false
          w.bytes-then-words-lt4.ensures w.as_slice-then-words-lt4.ensures)
      | in_default-via-else-words-lt2+else-words-lt3+else-words-lt4 w ↦ many_words c.args.words.now (grind arith)
    ] in
    rw unknown (usage_run _ _ c.usage.result c.usage.ensures.ends c.usage.ensures.status c.usage.ensures.cause refl (record { left = refl; faults = refl }))
