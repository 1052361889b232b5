use Rattle.std.proofs.Common.{◌∙◌, ap, sym, refl, arith}
use Rattle.sy_run.proofs.Streaming.{begins}
use Rattle.sy_run.proofs.stream.stream.Goals as goal

pub lines-init : goal.lines-init
lines-init g c = record {
  ready = record {
    live = ap (λ r. r.live) c.requires.new;
    counted = c.requires.counted ∙ sym (ap (λ r. r.given) c.requires.new);
    few = omega (arith, c.requires.counted);
  };
  read = refl;
  written = refl;
  told = λ bytes was. begins c.args.log.now.monitor c.args.reader.now bytes (g.S.Source.left c.args.input.now) (g.W.Sink.held c.args.out.now) c.requires.new was c.requires.none;
}

pub returns-in-Some-clause-told : goal.returns-in-Some-clause-told
returns-in-Some-clause-told g c = λ bytes was. c.in-Some.ensures.told c.args.log.now.monitor.deed bytes (g.W.Sink.held c.args.out.now) (c.lines.invariant.told bytes was)
