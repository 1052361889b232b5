-- The exit status that the program ends with.
use Rattle.std.specs.Prelude.{ℕ}
use Rattle.sy_run.specs.declared.status.Status.{Status}
use Rattle.sy_run.specs.declared.status.Status.TheVariants.{Done, Found, Refused, Usage, ReadFault, WriteFault, Memory, Undecided}

-- the number of a status
abbrev pub exit_number : Status → ℕ
exit_number Done = 0
exit_number Found = 1
exit_number Refused = 2
exit_number Usage = 3
exit_number ReadFault = 4
exit_number WriteFault = 5
exit_number Memory = 6
exit_number Undecided = 7
