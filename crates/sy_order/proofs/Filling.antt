-- Lists for each position, filled by a walk over the positions.
use Rattle.std.proofs.Common.{◌≡◌, ℕ, suc, ◌+◌, ◌<◌, ◌≤◌, ◌==◌, Bool, true, false, ◌&&◌, ◌||◌, List, [], ◌∷◌, ◌++◌, map, length, take, drop, get_or, replicate, cond, refl, sym, ◌∙◌, ap, subst, arith, add-one, append_assoc, drop-cons, inl, inr, ◌⊎◌, if◌then◌else◌}
use Rattle.std.specs.List.{flat_map, filter, enumerate_from, list_any}
use Rattle.std.proofs.lemmas.Grind.{common_steps}
use Rattle.std.proofs.lemmas.List.{append-nil, length-replicate, get_or-replicate}
use Rattle.sy_core.specs.declared.position.Position.{Position}
use Rattle.sy_order.specs.Machine.Powers.{AreLists, AreMore}

-- the lists of what is given at each position, from number zero on
abbrev pub given : {Y : Type 0} → (ℕ → ℕ × Position → List Y) → List Position → ℕ → List Y
given give positions k = flat_map (give k) (enumerate_from 0 positions)

-- the lists so far, after so many positions
pub record AreFilled {Y : Type 0} (give : ℕ → ℕ × Position → List Y) (positions : List Position) (number : ℕ) (lists : List (List Y)) : Type 0 where
  pub filled_length : length lists ≡ length positions
  pub filled : (k : ℕ) → k < length positions → get_or lists k [] ++ flat_map (give k) (enumerate_from number (drop number positions)) ≡ given give positions k

module _ {Y : Type 0} (give : ℕ → ℕ × Position → List Y) (positions : List Position) where
  pub none_filled : AreFilled give positions 0 (replicate (length positions) [])
  none_filled = record {
    filled_length = length-replicate (length positions) [];
    filled = λ k lt. ap (λ l. l ++ given give positions k) (get_or-replicate (length positions) k [] [] lt);
  }

  pub more_filled : (number : ℕ) (p : Position) (old new : List (List Y)) → number < length positions → p ≡ get_or positions number p → AreMore (λ k. give k (number, p)) old new → AreFilled give positions number old → AreFilled give positions (number + 1) new
  more_filled number p old new lt is more so_far = record {
    filled_length = more.more_length ∙ so_far.filled_length;
    filled = λ k below.
        let e : drop number positions ≡ p ∷ drop (suc number) positions = drop-cons positions number p lt ∙ ap (λ x. x ∷ drop (suc number) positions) (sym is) in
        let h = subst (λ l. get_or old k [] ++ flat_map (give k) (enumerate_from number l) ≡ given give positions k) e (so_far.filled k below) in
        let g = more.more_are k (omega (arith, so_far.filled_length, below)) in
        let a : suc number ≡ number + 1 = omega arith in
        subst (λ n. get_or new k [] ++ flat_map (give k) (enumerate_from (number + 1) (drop n positions)) ≡ given give positions k) a
        (ap (λ l. l ++ flat_map (give k) (enumerate_from (number + 1) (drop (suc number) positions))) g ∙ (append_assoc (get_or old k []) (give k (number, p)) _ ∙ h));
  }

  pub all_filled : (number : ℕ) (lists : List (List Y)) → length positions ≤ number → AreFilled give positions number lists → AreLists (length positions) (given give positions) lists
  all_filled number lists le so_far = record {
    lists_length = so_far.filled_length;
    lists_are = λ k below.
        let e : drop number positions ≡ [] = grind (arith, common_steps) in
        let h = subst (λ l. get_or lists k [] ++ flat_map (give k) (enumerate_from number l) ≡ given give positions k) e (so_far.filled k below) in
        sym (append-nil (get_or lists k [])) ∙ h;
  }
