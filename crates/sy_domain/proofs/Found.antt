-- A member with a name, among the own ones of a type and of those above it.
use Rattle.std.proofs.Common.{◌≡◌, ℕ, suc, ◌-◌, ◌+◌, ◌<◌, Bool, true, false, cond, List, [], ◌∷◌, ◌++◌, length, Option, Some, None, flat_map, refl, sym, ap, ◌∙◌, arith, append_assoc}
use Rattle.std.specs.Map.{lookup, keys_of}
use Rattle.std.proofs.lemmas.List.{map-append}
use Rattle.sy_chains.specs.Chains.{Bases, chain, base_at}

module _ {K X : Type 0} (test : K → Bool) where
  -- what is found in the first entries
  pub found_first : (es fs : List (K × X)) (x : X) → lookup test es ≡ Some x → lookup test (es ++ fs) ≡ Some x
  found_first [] fs x e = cc
  found_first (a ∷ es) fs x e = at (test a.0) e (found_first es fs x)
    where
      at : (b : Bool) → cond b (Some a.1) (lookup test es) ≡ Some x
          → (lookup test es ≡ Some x → lookup test (es ++ fs) ≡ Some x)
          → cond b (Some a.1) (lookup test (es ++ fs)) ≡ Some x
      at true e more = e
      at false e more = more e

  -- what isn't found there is found in the later ones
  pub found_later : (es fs : List (K × X)) → lookup test es ≡ None → lookup test (es ++ fs) ≡ lookup test fs
  found_later [] fs e = refl
  found_later (a ∷ es) fs e = at (test a.0) e (found_later es fs)
    where
      at : (b : Bool) → ◌≡◌ {A = Option X} (cond b (Some a.1) (lookup test es)) None
          → (lookup test es ≡ None → lookup test (es ++ fs) ≡ lookup test fs)
          → cond b (Some a.1) (lookup test (es ++ fs)) ≡ lookup test fs
      at true e more = cc
      at false e more = more e

  -- the chain from a type on, one type further
  module _ (entries : ℕ → List (K × X)) (bases : Bases) (n m k : ℕ) (at : Option ℕ) (is : at ≡ Some n) (below : k < m) where
    here : chain bases (m - k) at ≡ n ∷ chain bases (m - (k + 1)) (base_at bases n)
    here =
        let e : m - k ≡ suc (m - (k + 1)) = omega arith in
        ap (λ o. chain bases (m - k) o) is ∙ ap (λ most. chain bases most (Some n)) e

    pub found_here : (x : X) → lookup test (entries n) ≡ Some x
        → lookup test (flat_map entries (chain bases (m - k) at)) ≡ Some x
    found_here x e =
        ap (λ l. lookup test (flat_map entries l)) here
        ∙ found_first (entries n) (flat_map entries (chain bases (m - (k + 1)) (base_at bases n))) x e

    pub found_above : lookup test (entries n) ≡ None
        → lookup test (flat_map entries (chain bases (m - k) at))
        ≡ lookup test (flat_map entries (chain bases (m - (k + 1)) (base_at bases n)))
    found_above e =
        ap (λ l. lookup test (flat_map entries l)) here
        ∙ found_later (entries n) (flat_map entries (chain bases (m - (k + 1)) (base_at bases n))) e

-- the keys of the entries of some things, and of some entries behind
pub keys_of_all : {K X : Type 0} (entries : ℕ → List (K × X)) (ns : List ℕ) (es : List (K × X))
    → flat_map (λ n. keys_of (entries n)) ns ++ keys_of es ≡ keys_of (flat_map entries ns ++ es)
keys_of_all entries [] es = refl
keys_of_all entries (n ∷ ns) es =
    append_assoc (keys_of (entries n)) (flat_map (λ m. keys_of (entries m)) ns) (keys_of es)
    ∙ ap (λ l. keys_of (entries n) ++ l) (keys_of_all entries ns es)
    ∙ sym (map-append (λ e. e.0) (entries n) (flat_map entries ns ++ es))
    ∙ ap keys_of (sym (append_assoc (entries n) (flat_map entries ns) es))
