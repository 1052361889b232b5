use Rattle.std.proofs.Common.{ℕ, ◌∙◌, arith}
use Rattle.std.proofs.lemmas.List.{length-drop, length-take}
use Rattle.sy_outside.proofs.Appending.{Appends-front}
use Rattle.sy_outside.proofs.write.write_all.Goals as goal

pub pieces-preserved : goal.pieces-preserved
pieces-preserved g c = record {
  within = omega (arith, length-take {A = ℕ}, length-drop {A = ℕ}, c.in_ok-done.ensures.bound);
  bytes = Appends-front _ _ _ c.args.bytes.now c.pieces.done c.in_ok-done.field-0 c.pieces.invariant.bytes c.in_ok-done.ensures.bytes;
  faults = c.in_ok-done.ensures.cause.kept ∙ c.pieces.invariant.faults;
  told = c.in_ok-done.ensures.told ∙ c.pieces.invariant.told;
}
