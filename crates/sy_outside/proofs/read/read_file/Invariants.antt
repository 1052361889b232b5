use Rattle.std.proofs.Common.{◌≡◌, ◌-◌, ◌+◌, ℕ, List, vec_len}
use Rattle.sy_outside.proofs.FileReads.{IsRead}
use Rattle.sy_outside.specs.declared.read.TheConstants.{FILE_LIMIT}
use Rattle.sy_outside.proofs.read.read_file.Given as goal

abbrev pub invariant-pieces : goal.invariant-pieces
invariant-pieces g l = record {
  read : IsRead (g.F.Files.told l.initial.files l.name) l.bytes.items;
  faults : g.F.Files.faults l.files ≡ g.F.Files.faults l.initial.files;
  lent : (n : List ℕ) → g.F.Files.lent l.files n ≡ g.F.Files.lent l.initial.files n;
  told : (n : List ℕ) → g.F.Files.told l.files n ≡ g.F.Files.told l.initial.files n;
}

abbrev pub decreases-pieces : goal.decreases-pieces
decreases-pieces g l = FILE_LIMIT + 1 - vec_len l.bytes
