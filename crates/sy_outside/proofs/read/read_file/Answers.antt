use Rattle.std.proofs.Common.{◌≡◌, ◌∙◌, Ok, length}
use Rattle.sy_outside.specs.Outside.{GivesFile}
use Rattle.sy_outside.specs.declared.outside.Failed.{Failed}
use Rattle.sy_outside.proofs.FileReads.{IsRead-more}
use Rattle.sy_outside.proofs.read.read_file.Goals as goal

pub pieces-preserved : goal.pieces-preserved
pieces-preserved g c =
    let told = c.pieces.invariant.told c.args.name.now in
    let len : c.len-in-pieces.result ≡ length c.pieces.bytes.items = c.len-in-pieces.ensures ∙ c.pieces.bytes.ok.0 in
    let gives : GivesFile {E = Failed} (g.F.Files.told c.args.files.now c.args.name.now) (length c.pieces.bytes.items) (Ok c.in_ok-count.count) c.read.new.buf
    = rw (told, len) at c.in_ok-count.ensures.bytes in
    record {
      read = rw c.in_ok-extend_from_slice.ensures.items (IsRead-more Failed _ c.pieces.bytes.items c.read.new.buf c.in_ok-count.count c.pieces.invariant.read gives);
      faults = c.in_ok-count.ensures.cause.kept ∙ c.pieces.invariant.faults;
      lent = λ n. c.in_ok-count.ensures.lent n ∙ c.pieces.invariant.lent n;
      told = λ n. c.in_ok-count.ensures.told n ∙ c.pieces.invariant.told n;
    }
