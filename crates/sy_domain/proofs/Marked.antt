-- The types with marks are those on cycles.
use Rattle.std.proofs.Common.{◌≡◌, ℕ, ◌+◌, ◌<◌, List, [], ◌∷◌, ◌++◌, length, get_or, not, flat_map, None, is_some, refl, ap, ◌∙◌, arith}
use Rattle.std.specs.List.{enumerate_from}
use Rattle.sy_spec.specs.declared.domain.TypeTree.{TypeTree}
use Rattle.sy_chains.specs.Chains.{Bases, is_cyclic}
use Rattle.sy_chains.specs.Machine.Walks.{Marks}
use Rattle.sy_domain.specs.Failures.{unless}
use Rattle.sy_domain.specs.Chains.{type_name, cyclic_name}
use Rattle.sy_domain.specs.Machine.Marked.{marked_name}

marked_from : (bases : Bases) (cyclic : Marks) (types : List TypeTree) (i : ℕ)
    → ((n : ℕ) → n < i + length types → is_some (get_or cyclic n None) ≡ is_cyclic bases n)
    → flat_map (marked_name cyclic) (enumerate_from i types) ≡ flat_map (cyclic_name bases) (enumerate_from i types)
marked_from bases cyclic [] i told = refl
marked_from bases cyclic (t ∷ ts) i told =
    let here : marked_name cyclic (i, t) ≡ cyclic_name bases (i, t) = ap (λ b. unless (not b) (type_name t)) (told i (omega arith)) in
    let later = marked_from bases cyclic ts (i + 1) (λ n less. told n (omega arith)) in
    ap (λ l. l ++ flat_map (marked_name cyclic) (enumerate_from (i + 1) ts)) here
    ∙ ap (λ l. cyclic_name bases (i, t) ++ l) later

pub marked_are_cyclic : (bases : Bases) (cyclic : Marks) (types : List TypeTree) → length bases ≡ length types
    → ((n : ℕ) → n < length bases → is_some (get_or cyclic n None) ≡ is_cyclic bases n)
    → flat_map (marked_name cyclic) (enumerate_from 0 types) ≡ flat_map (cyclic_name bases) (enumerate_from 0 types)
marked_are_cyclic bases cyclic types same told = marked_from bases cyclic types 0 (λ n less. told n (omega arith))
