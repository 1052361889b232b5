use Rattle.std.proofs.Common.{◌≡◌, ◌++◌, take}
use Rattle.std.specs.List.{flat_map}
use Rattle.sy_print.proofs.canonical.writer.Writer.each.Given as goal

abbrev pub invariant-item : goal.invariant-item
invariant-item g l = l.self ≡ l.initial.self ++ flat_map g.T.Printed.text (take l.item-index l.items)
