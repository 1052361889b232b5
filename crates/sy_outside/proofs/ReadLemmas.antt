-- One read after another, and the first newline of what they gave.
use Rattle.std.proofs.Common.{◌≡◌, ℕ, ◌+◌, ◌-◌, ◌≤◌, List, ◌∷◌, ◌++◌, length, take, drop, ap, sym, subst, ◌∙◌, append_assoc, add_assoc, false, IsTrue, Bool, arith}
use Rattle.std.proofs.KnownBytes.{starts_with_rest}
use Rattle.std.proofs.Math.Seq.{take-append-add, drop-append-add}
use Rattle.std.proofs.lemmas.List.{take-append-le, take_all, length-append, length-drop, length-take}
use Rattle.std.specs.Io.{StartsWith}
use Rattle.sy_outside.specs.Lines.{has_newline}
use Rattle.sy_outside.specs.Machine.Filling.{StandsFirst}
use Rattle.sy_outside.proofs.LineLemmas.{has_newline-append}

pub not_true : (b : Bool) → b ≡ false → IsTrue b → ⊥
not_true b f t = cc

pub StartsWith-trans : (a b c : List ℕ) → StartsWith b a → StartsWith c b → StartsWith c a
StartsWith-trans a b c p q =
    let short : length a ≤ length b = omega (arith, ap length p, length-take (length a) b) in
    ap (take (length a)) (starts_with_rest c b q) ∙ take-append-le (length a) b (drop (length b) c) short ∙ p

-- a slice from there on, as a call is given it
pub rest_of : (slice new : List ℕ) (n m : ℕ) → slice ≡ new → n ≡ m → take (length slice - n) (drop n slice) ≡ drop m new
rest_of slice new n m p q =
    take_all (length slice - n) (drop n slice) (omega (arith, length-drop n slice)) ∙ (λ i. drop (q i) (p i))

StandsFirst-after : (old more : List ℕ) (place : ℕ) → has_newline old ≡ false → StandsFirst more place → StandsFirst (old ++ more) (length old + place)
StandsFirst-after old more place none first = record {
  within = omega (arith, length-append old more, first.within);
  splits =
      let front : take (length old + place) (old ++ more) ≡ old ++ take place more = take-append-add old more place in
      let back : drop (length old + place + 1) (old ++ more) ≡ drop (place + 1) more = ap (λ n. drop n (old ++ more)) (add_assoc (length old) place 1) ∙ drop-append-add old more (place + 1) in
      ap (λ l. old ++ l) first.splits ∙ sym (append_assoc old (take place more) (10 ∷ drop (place + 1) more)) ∙ sym (λ i. front i ++ 10 ∷ back i);
  none_before = ap has_newline (take-append-add old more place) ∙ has_newline-append old (take place more) none ∙ first.none_before;
}

-- none was held, and the first newline of what was read after it is this one
pub StandsFirst-read : (old new : List ℕ) (place : ℕ) → StartsWith new old → has_newline old ≡ false → StandsFirst (drop (length old) new) place → StandsFirst new (length old + place)
StandsFirst-read old new place starts none first =
    subst (λ l. StandsFirst l (length old + place)) (sym (starts_with_rest new old starts)) (StandsFirst-after old (drop (length old) new) place none first)

-- none was held, and none was read after it
pub has_newline-read : (old new : List ℕ) → StartsWith new old → has_newline old ≡ false → has_newline (drop (length old) new) ≡ false → has_newline new ≡ false
has_newline-read old new starts none more = ap has_newline (starts_with_rest new old starts) ∙ has_newline-append old (drop (length old) new) none ∙ more
