use Rattle.std.proofs.Common.{◌≡◌, ◌++◌, take}
use Rattle.sy_print.specs.CanonicalText.{lines}
use Rattle.sy_print.proofs.canonical.writer.Writer.lines.Given as goal

abbrev pub invariant-item : goal.invariant-item
invariant-item g l = l.self ≡ l.initial.self ++ lines g.T.Printed.text (take l.item-index l.items)
