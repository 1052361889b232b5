use Rattle.std.proofs.Common.{◌≡◌, ◌++◌, drop}
use Rattle.std.specs.List.{flat_map}
use Rattle.sy_log.specs.EntryText as text
use Rattle.sy_log.proofs.print.add_escaped.Given as goal

-- what was added and what the rest gives are all the bytes
abbrev pub invariant-byte : goal.invariant-byte
invariant-byte l =
    l.out.items ++ flat_map text.escaped (drop l.byte-index l.bytes) ≡ l.initial.out.items ++ flat_map text.escaped l.bytes
