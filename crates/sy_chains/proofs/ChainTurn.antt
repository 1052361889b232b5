-- One step up a chain.
use Rattle.std.proofs.Common.{◌≡◌, ℕ, suc, ◌+◌, ◌-◌, ◌<◌, Bool, false, ◌||◌, List, [], ◌∷◌, ◌++◌, append_assoc, Some, Option, nat_eq, refl, sym, ap, ◌∙◌, arith}
use Rattle.std.specs.List.{list_any}
use Rattle.std.proofs.Common.{ne_eqb}
use Rattle.sy_chains.specs.Chains.{Bases, chain, base_at}

pub chain_turn : (bases : Bases) (number n m k : ℕ) (at : Option ℕ) → at ≡ Some n → k < m → (number ≡ n → ⊥)
    → list_any (nat_eq number) (chain bases (m - k) at)
    ≡ list_any (nat_eq number) (chain bases (m - (k + 1)) (base_at bases n))
chain_turn bases number n m k at is below other =
    let e : m - k ≡ suc (m - (k + 1)) = omega arith in
    ap (λ o. list_any (nat_eq number) (chain bases (m - k) o)) is
    ∙ ap (λ most. list_any (nat_eq number) (chain bases most (Some n))) e
    ∙ ap (λ b. b || list_any (nat_eq number) (chain bases (m - (k + 1)) (base_at bases n))) (ne_eqb number n other)

-- what a chain that is gone through has, one step further
pub chain_collects : (bases : Bases) (n m k : ℕ) (at : Option ℕ) (whole out turned : List ℕ) (next : Option ℕ)
    → at ≡ Some n → k < m → whole ≡ out ++ chain bases (m - k) at → turned ≡ out ++ n ∷ []
    → next ≡ base_at bases n → whole ≡ turned ++ chain bases (m - (k + 1)) next
chain_collects bases n m k at whole out turned next is below done pushed up =
    let e : m - k ≡ suc (m - (k + 1)) = omega arith in
    let rest = chain bases (m - (k + 1)) (base_at bases n) in
    done
    ∙ ap (λ o. out ++ chain bases (m - k) o) is
    ∙ ap (λ most. out ++ chain bases most (Some n)) e
    ∙ sym (append_assoc out (n ∷ []) rest)
    ∙ ap (λ l. l ++ rest) (sym pushed)
    ∙ ap (λ o. turned ++ chain bases (m - (k + 1)) o) (sym up)
