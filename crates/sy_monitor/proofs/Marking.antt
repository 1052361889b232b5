-- The marks of one more position, and of one more moment.
use Rattle.std.proofs.Common.{◌≡◌, ℕ, ◌+◌, ◌<◌, ℤ, Bool, true, false, cond, List, [], ◌∷◌, ◌++◌, length, drop, get_or, sym, ap, ◌∙◌, add-one, drop-cons, append_assoc, append-nil}
use Rattle.sy_core.specs.declared.position.Position.{Position}
use Rattle.sy_core.specs.declared.table.Mark.{Mark}
use Rattle.sy_core.specs.Moments.{Moment}
use Rattle.sy_core.specs.Tables.{marks, marks_at}

-- an item that is there or not, ahead of the others
first_of : (b : Bool) (old later : List Mark) (x : Mark) → (old ++ cond b (x ∷ []) []) ++ later ≡ old ++ cond b (x ∷ later) later
first_of true old later x = append_assoc old (x ∷ []) later
first_of false old later x = ap (λ l. l ++ later) (append-nil old)

module _ (test : Moment → ℕ → Bool) where
  pub one_position : (m : Moment) (ps : List Position) (i number : ℕ) (p : Position) (point : ℤ) (wanted : Bool) (old new whole : List Mark)
      → i < length ps → point ≡ m.point → wanted ≡ test m number
      → new ≡ old ++ cond wanted (record { point = point; position = number } ∷ []) []
      → old ++ marks_at test m number (drop i ps) ≡ whole → new ++ marks_at test m (number + 1) (drop (i + 1) ps) ≡ whole
  one_position m ps i number p point wanted old new whole lt at wants is so =
      let later = marks_at test m (number + 1) (drop (i + 1) ps) in
      let rest : drop i ps ≡ get_or ps i p ∷ drop (i + 1) ps = drop-cons ps i p lt ∙ ap (λ k. get_or ps i p ∷ drop k ps) (sym (add-one i)) in
      ap (λ l. l ++ later) is ∙ first_of wanted old later (record { point = point; position = number })
      ∙ (λ j. old ++ cond (wants j) (record { point = at j; position = number } ∷ later) later)
      ∙ ap (λ l. old ++ marks_at test m number l) (sym rest) ∙ so

  pub one_moment : (positions : List Position) (before : List Moment) (m : Moment) → marks test positions (before ++ m ∷ []) ≡ marks test positions before ++ marks_at test m 0 positions
  one_moment positions [] m = append-nil (marks_at test m 0 positions)
  one_moment positions (x ∷ before) m =
      ap (λ l. marks_at test x 0 positions ++ l) (one_moment positions before m)
      ∙ sym (append_assoc (marks_at test x 0 positions) (marks test positions before) (marks_at test m 0 positions))

  -- marks to which those of one more moment were added
  pub more_marks : (positions : List Position) (before : List Moment) (m : Moment) (old new : List Mark) → old ≡ marks test positions before
      → new ≡ old ++ marks_at test m 0 positions → new ≡ marks test positions (before ++ m ∷ [])
  more_marks positions before m old new were are =
      are ∙ ap (λ l. l ++ marks_at test m 0 positions) were ∙ sym (one_moment positions before m)
