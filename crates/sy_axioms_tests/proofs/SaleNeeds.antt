-- What the nodes of the meat sale need, and their order.
use Rattle.std.proofs.Common.{◌≡◌, ℕ, [], get_or, refl, ap}
use Rattle.std.proofs.Math.Path.{fun_ext}
use Rattle.sy_core.specs.Orders.{order}
use Rattle.sy_core.specs.Prerequisites.{numbered_needs, order_of}
use Rattle.sy_axioms_tests.specs.MeatSale.{meat_sale, sale_numbers}
use Rattle.sy_axioms_tests.specs.SaleOrder.{sale_needs}
use Rattle.sy_axioms_tests.proofs.ByNumber.{and_later}
use Rattle.sy_axioms_tests.proofs.Naming.{names-const, names-not, names-happens, names-before}

pub needs_are : (k : ℕ) → numbered_needs meat_sale k ≡ get_or sale_needs k []
needs_are =
    and_later _ _ (simp names-const)
    (and_later _ _ (simp names-const)
    (and_later _ _ (simp (names-const, names-before))
    (and_later _ _ (simp names-happens)
    (and_later _ _ (simp names-const)
    (and_later _ _ (simp (names-const, names-before))
    (and_later _ _ (simp names-happens)
    (and_later _ _ (simp names-const)
    (and_later _ _ (simp (names-const, names-before))
    (and_later _ _ (simp names-const)
    (and_later _ _ (simp names-const)
    (and_later _ _ (simp (names-const, names-not, names-before))
    (and_later _ _ refl
    (and_later _ _ (simp names-happens)
    (and_later _ _ (simp names-const)
    (and_later _ _ (simp names-const)
    (and_later _ _ refl
    (and_later _ _ (simp names-happens)
    (and_later _ _ (simp names-const)
    (and_later _ _ (simp names-const)
    (and_later _ _ refl
    (and_later _ _ (simp names-const)
    (and_later _ _ (simp names-const)
    (and_later _ _ (simp names-const)
    (and_later _ _ (simp (names-const, names-happens)) (λ k. refl)))))))))))))))))))))))))

pub order_is : order_of meat_sale ≡ sale_numbers
order_is = ap (λ needs. order needs 25) (fun_ext needs_are)
