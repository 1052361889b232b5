use Rattle.std.proofs.Common.{◌≡◌, flat_map, take}
use Rattle.sy_typing.specs.Machine.Lines.{order_lines_at}
use Rattle.sy_typing.proofs.cycle.line_bytes.Given as goal

abbrev pub invariant-number : goal.invariant-number
invariant-number l = l.out.items ≡ flat_map (order_lines_at l.deed) (take l.number-index l.order)
