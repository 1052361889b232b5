-- A sink that keeps the first bytes that were written.
use Rattle.std.proofs.Common.{◌≡◌, ◌∙◌, ℕ, ◌+◌, ◌-◌, ◌≤◌, min, List, ◌++◌, length, take, ap, sym, arith}
use Rattle.std.proofs.Math.Seq.{take-append-add}
use Rattle.std.proofs.lemmas.List.{take_min}

-- what is kept, and as much of the bytes as there is room for
pub take-kept : (kept bytes : List ℕ) (room n : ℕ) → length kept ≤ room → n ≡ min (room - length kept) (length bytes) → kept ++ take n bytes ≡ take room (kept ++ bytes)
take-kept kept bytes room n h e =
    let left : length kept + (room - length kept) ≡ room = omega arith in
    ap (λ k. kept ++ take k bytes) e ∙ ap (λ l. kept ++ l) (take_min (room - length kept) bytes)
    ∙ sym (take-append-add kept bytes (room - length kept)) ∙ ap (λ k. take k (kept ++ bytes)) left
