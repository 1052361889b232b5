-- The verdict of one more postcondition.
use Rattle.std.proofs.Common.{◌≡◌, ℕ, ◌+◌, ◌<◌, List, [], ◌∷◌, ◌++◌, length, drop, get_or, map, sym, ap, ◌∙◌, add-one, drop-cons, append_assoc}

pub one_more : {X Y : Type 0} (f : X → Y) (xs : List X) (i : ℕ) (x : X) (y : Y) (old new whole : List Y) → i < length xs → y ≡ f (get_or xs i x)
    → new ≡ old ++ y ∷ [] → old ++ map f (drop i xs) ≡ whole → new ++ map f (drop (i + 1) xs) ≡ whole
one_more f xs i x y old new whole lt is more so =
    let later = map f (drop (i + 1) xs) in
    let rest : drop i xs ≡ get_or xs i x ∷ drop (i + 1) xs = drop-cons xs i x lt ∙ ap (λ k. get_or xs i x ∷ drop k xs) (sym (add-one i)) in
    ap (λ l. l ++ later) more ∙ append_assoc old (y ∷ []) later ∙ ap (λ v. old ++ v ∷ later) is
    ∙ ap (λ l. old ++ map f l) (sym rest) ∙ so
