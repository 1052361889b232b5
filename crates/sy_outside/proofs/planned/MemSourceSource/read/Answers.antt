use Rattle.std.proofs.Common.{◌≡◌, ◌∙◌, sym, ap, refl, arith, ◌++◌, take, drop}
use Rattle.std.proofs.lemmas.Grind.{common_steps}
use Rattle.std.proofs.lemmas.List.{take-append-drop, drop-drop}
use Rattle.sy_outside.proofs.ReadLemmas.{rest_of}
use Rattle.sy_outside.proofs.planned.MemSourceSource.read.Goals as goal

pub returns-clause-bytes : goal.returns-clause-bytes
returns-clause-bytes c =
    let at = c.self.inside.at in
    let bytes = c.self.inside.bytes in
    let count = c.copy_front-count.result in
    let given : take count c.copy_front-count.new.buf ≡ take count (drop at bytes) = c.copy_front-count.ensures.same ∙ ap (take count) (rest_of c.bytes.result.now bytes at at c.bytes.ensures refl) in (
      sym (ap (λ s. s.left) c.self.view_is) ∙ sym (take-append-drop count (drop at bytes)) ∙ (λ i. sym given i ++ drop-drop count at bytes i),
      grind (arith, common_steps),
    )
