-- What the nodes of the crossed deed need, and the cycle that is named.
use Rattle.std.proofs.Common.{◌≡◌, ℕ, [], ◌∷◌, length, get_or, refl, ap}
use Rattle.std.proofs.Math.Path.{fun_ext}
use Rattle.sy_core.specs.Orders.{named_cycle}
use Rattle.sy_core.specs.Prerequisites.{nodes, numbered_needs}
use Rattle.sy_axioms_tests.specs.Crossed.{crossed, crossed_needs}
use Rattle.sy_axioms_tests.proofs.ByNumber.{and_later}
use Rattle.sy_axioms_tests.proofs.Naming.{names-const, names-happens}

pub needs_are : (k : ℕ) → numbered_needs crossed k ≡ get_or crossed_needs k []
needs_are =
    and_later _ _ (simp names-happens)
    (and_later _ _ (simp names-const)
    (and_later _ _ (simp (names-const, names-happens))
    (and_later _ _ (simp names-happens)
    (and_later _ _ (simp names-const)
    (and_later _ _ (simp (names-const, names-happens))
    (and_later _ _ (simp names-happens) (λ k. refl)))))))

pub cycle_is : named_cycle (numbered_needs crossed) (length (nodes crossed)) ≡ 0 ∷ 5 ∷ 3 ∷ 2 ∷ []
cycle_is = ap (λ needs. named_cycle needs 7) (fun_ext needs_are)
