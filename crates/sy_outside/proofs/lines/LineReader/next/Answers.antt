use Rattle.std.proofs.Common.{subst}
use Rattle.sy_outside.specs.LineReading.{Next}
use Rattle.sy_outside.proofs.ToldLines.{cuts-lines}
use Rattle.sy_outside.proofs.lines.LineReader.next.Goals as goal

pub returns-clause-lines : goal.returns-clause-lines
returns-clause-lines g c = λ bytes rest was left synced.
    let k = subst (λ l. Next c.args.self.now c.advance.new.self l (g.S.Source.left c.advance.new.source) c.advance.result) was c.advance.ensures.next in
    cuts-lines c.args.self.now c.advance.new.self bytes rest (g.S.Source.left c.advance.new.source) left synced c.advance.result k
