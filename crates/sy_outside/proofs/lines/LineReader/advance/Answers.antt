use Rattle.std.proofs.Common.{◌≡◌, ℕ, ◌≤◌, ◌+◌, arith, drop, length, refl, sym, subst, Ok, Err}
use Rattle.std.proofs.lemmas.List.{length-drop, drop-drop}
use Rattle.std.proofs.lemmas.Result.{err_from_is_err_and}
use Rattle.sy_outside.specs.Machine.Filling.{CutsHeld}
use Rattle.sy_outside.proofs.Advances.{next_of, cuts_fault, cuts_line}
use Rattle.sy_outside.proofs.ReadLemmas.{rest_of}
use Rattle.sy_outside.proofs.lines.LineReader.advance.Goals as goal

pub returns-in_err-line-clause-next : goal.returns-in_err-line-clause-next
returns-in_err-line-clause-next g c =
    let f = c.find_newline.ensures in
    let fault = c.in_err-line.field-0.0 in
    let newline = c.in_ok-newline.newline in
    let held = drop c.find_newline.new.at c.find_newline.new.buffer.items in
    let slice = rest_of c.deref.result.now c.find_newline.new.buffer.items c.find_newline.new.at c.find_newline.new.at c.deref.ensures.value refl in
    let cuts : CutsHeld held newline c.self.inside.given (Err fault) = subst (λ l. CutsHeld l newline c.self.inside.given (Err fault)) slice c.in_err-line.ensures.cuts in
    let few : length held ≤ 4096 + 65536 = omega (arith, length-drop {A = ℕ}, f.few) in
    let answer = err_from_is_err_and c.from_residual-in_err-line.result c.from_residual-in_err-line.ensures.1 in
    rw (answer.1, answer.2, ← c.self.view_is) (next_of _ _ _ _ held _
    (record { starts = f.starts; bytes = f.bytes; ended = f.ended; stays = f.stays; idle = f.idle; needed = f.needed })
    (cuts_fault held newline c.find_newline.new.ended c.self.inside.given fault few cuts) (refl, refl))

pub returns-in-Some-clause-next : goal.returns-in-Some-clause-next
returns-in-Some-clause-next g c =
    let f = c.find_newline.ensures in
    let cut = c.in-Some.field-0 in
    let newline = c.in_ok-newline.newline in
    let at = c.find_newline.new.at in
    let items = c.find_newline.new.buffer.items in
    let held = drop at items in
    let slice = rest_of c.deref.result.now items at at c.deref.ensures.value refl in
    let sliced = subst (λ l. CutsHeld l newline c.self.inside.given (Ok c.in_ok-line.field-0)) slice c.in_ok-line.ensures.cuts in
    let cuts = subst (λ o. CutsHeld held newline c.self.inside.given (Ok o)) c.in-Some.is sliced in
    let rest : drop (at + cut.size) items ≡ drop cut.size held = sym (drop-drop cut.size at items) in
    rw (← c.self.view_is) (next_of _ _ _ _ held _
    (record { starts = f.starts; bytes = f.bytes; ended = f.ended; stays = f.stays; idle = f.idle; needed = f.needed })
    (cuts_line held (drop (at + cut.size) items) newline c.find_newline.new.ended c.self.inside.given cut c.in_ok-newline.ensures.whole rest cuts) (refl, refl))
