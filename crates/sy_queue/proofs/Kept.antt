-- The items after a change are kept as they were before.
use Rattle.std.proofs.Common.{◌≡◌, ℕ, ◌-◌, ◌<◌, ◌≤◌, ℤ, List, length, take, reverse, sym, ap, subst, ◌∙◌, arith}
use Rattle.std.specs.List.{insert}
use Rattle.std.proofs.lemmas.List.{length-take}
use Rattle.std.proofs.lemmas.List.Edits.{length-insert}
use Rattle.sy_queue.specs.Deadlines.{IsAscending}
use Rattle.sy_queue.specs.Machine.Keeping.{AreLaterBelow, IsKept}
use Rattle.sy_queue.proofs.Ascending.{with_ascends, later_ascends}
use Rattle.sy_queue.proofs.Splitting.{inserted, cut}

pub put_keeps : (point : ℤ) (items new : List ℤ) (n room capacity more : ℕ) → AreLaterBelow point items n → IsKept items room capacity
    → 0 < room - length items → new ≡ insert items n point → capacity ≤ more → IsKept new room more
put_keeps point items new n room capacity more split kept some is grown = record {
  ascending = subst IsAscending (sym (ap reverse is ∙ inserted point items n split)) (with_ascends point (reverse items) kept.ascending);
  within = let long = ap length is ∙ length-insert items n point split.within in omega (arith, long);
  held = let room_held = kept.held in omega (arith, room_held, grown);
}

pub cut_keeps : (point : ℤ) (items new : List ℤ) (n room capacity same : ℕ) → AreLaterBelow point items n → IsKept items room capacity
    → new ≡ take n items → same ≡ capacity → IsKept new room same
cut_keeps point items new n room capacity same split kept is held = record {
  ascending = subst IsAscending (sym (ap reverse is ∙ cut point items n split)) (later_ascends point (reverse items) kept.ascending);
  within = let short = ap length is ∙ length-take n items in let before = kept.within in omega (arith, short, before);
  held = let room_held = kept.held in omega (arith, room_held, held);
}
