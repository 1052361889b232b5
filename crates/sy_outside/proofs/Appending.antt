-- One append of a part of a slice after another, and of a front of it.
use Rattle.std.proofs.Common.{◌≡◌, ◌∙◌, ℕ, ◌+◌, ◌-◌, ◌≤◌, List, ◌++◌, length, take, drop, ap, sym, subst, arith}
use Rattle.std.proofs.Math.Seq.{take-add, take-append-add}
use Rattle.std.proofs.lemmas.List.{take_all, take-append-le, length-append, length-drop}
use Rattle.std.specs.declared.option.Option.{Option}
use Rattle.std.specs.Io.KnownBytes.{Appends}
use Rattle.std.proofs.KnownBytes.{Appends-trans}
use Rattle.sy_outside.specs.Writing.{AppendsPrefix, AppendsProperPrefix}

-- a front of the bytes, and then a front of what stands after it, is a longer front
pub Appends-front : (a b c : Option (List ℕ)) (bytes : List ℕ) (done n : ℕ)
    → Appends a b (take done bytes) → Appends b c (take n (take (length bytes - done) (drop done bytes)))
    → Appends a c (take (done + n) bytes)
Appends-front a b c bytes done n first second =
    let whole : take (length bytes - done) (drop done bytes) ≡ drop done bytes = take_all _ _ (omega (arith, length-drop done bytes)) in
    let next : Appends b c (take n (drop done bytes)) = rw whole at second in
    subst (Appends a c) (sym (take-add done n bytes)) (Appends-trans a b c _ _ first next)

pub AppendsPrefix-proper : (a b : Option (List ℕ)) (text : List ℕ) → AppendsProperPrefix a b text → AppendsPrefix a b text
AppendsPrefix-proper a b text p = (p.0, omega (arith, p.1), p.2)

-- a proper prefix of a text was appended after what came before it, and more was to come
pub AppendsProperPrefix-after : (a b c : Option (List ℕ)) (before text more : List ℕ)
    → Appends a b before → AppendsProperPrefix b c text → AppendsProperPrefix a c (before ++ (text ++ more))
AppendsProperPrefix-after a b c before text more p q =
    let short : q.0 ≤ length text = omega (arith, q.1) in
    let front : take (length before + q.0) (before ++ (text ++ more)) ≡ before ++ take q.0 text =
    take-append-add before (text ++ more) q.0 ∙ ap (λ l. before ++ l) (take-append-le q.0 text more short) in (
      length before + q.0,
      omega (arith, length-append before (text ++ more), length-append text more, q.1),
      subst (Appends a c) (sym front) (Appends-trans a b c before (take q.0 text) p q.2),
    )
