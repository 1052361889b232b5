-- One read of a file after what was read of it.
use Rattle.std.proofs.Common.{◌≡◌, ℕ, ◌+◌, List, [], ◌++◌, None, Some, Ok, length, take, drop, sym, ap, ◌∙◌}
use Rattle.std.proofs.Math.Seq.{take-add}
use Rattle.std.proofs.lemmas.List.{length-append, length-take-le}
use Rattle.std.specs.declared.option.Option.{Option}
use Rattle.sy_outside.specs.Outside.{GivesFile}

-- what was read so far of a file that is told or not
abbrev pub IsRead : Option (Option (List ℕ)) → List ℕ → Type 0
IsRead None text = Unit {0}
IsRead (Some None) text = text ≡ []
IsRead (Some (Some file)) text = text ≡ take (length text) file

pub IsRead-more : (E : Type 0) (told : Option (Option (List ℕ))) (text buf : List ℕ) (n : ℕ)
    → IsRead told text → GivesFile {E = E} told (length text) (Ok n) buf → IsRead told (text ++ take n buf)
IsRead-more E None text buf n p q = tt
IsRead-more E (Some None) text buf n p q = absurd q
IsRead-more E (Some (Some file)) text buf n p q =
    let rest = drop (length text) file in
    let size : length (text ++ take n buf) ≡ length text + n = length-append text (take n buf) ∙ ap (λ k. length text + k) (ap length q.same ∙ length-take-le n rest q.within) in
    sym (ap (λ k. take k file) size ∙ take-add (length text) n file ∙ ap (λ l. l ++ take n rest) (sym p) ∙ ap (λ l. text ++ l) (sym q.same))
