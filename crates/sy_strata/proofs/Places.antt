-- How the order grows, place by place.
use Rattle.std.proofs.Common.{◌≡◌, ℕ, zero, suc, ◌<◌, ◌≤◌, ◌==◌, Bool, true, false, List, [], ◌∷◌, ◌++◌, refl, sym, ◌∙◌, ap, arith}
use Rattle.std.specs.declared.option.Option.{Option}
use Rattle.std.specs.declared.option.Option.TheVariants.{Some, None}
use Rattle.std.specs.List.{find, All}
use Rattle.std.proofs.lemmas.Bool.{both_ways}
use Rattle.std.proofs.lemmas.Bool.Decides.{Decides-eqb}
use Rattle.std.proofs.lemmas.List.Elements.{All-nil, All-push}
use Rattle.sy_core.specs.Orders.{numbers_below, is_ready, and_node, and_least, first_listed}
use Rattle.sy_strata.proofs.Finding.{IsLeast, found_least}

at_most_last : (k n : ℕ) → k ≤ suc n → (k ≡ suc n → ⊥) → k ≤ n
at_most_last k n le other = grind arith

module _ (needs : ℕ → List ℕ) (count : ℕ) where
  -- one more place
  pub grows : (places : ℕ) (listed : List ℕ) (node : ℕ) → listed ≡ first_listed needs count places → find (is_ready needs listed) (numbers_below count) ≡ Some node → listed ++ node ∷ [] ≡ first_listed needs count (suc places)
  grows places listed node is found = ap (and_node listed) (sym found) ∙ ap (and_least needs count) is

  -- the list stays as it is once no node is ready
  pub stays : (places : ℕ) (listed : List ℕ) → listed ≡ first_listed needs count places → find (is_ready needs listed) (numbers_below count) ≡ None → (more : ℕ) → places ≤ more → listed ≡ first_listed needs count more
  stays places listed is none zero le = is ∙ ap (first_listed needs count) (let e : places ≡ 0 = omega (arith, le) in e)
  stays places listed is none (suc more) le = at (places == suc more) refl (stays places listed is none more)
    where
      at : (b : Bool) → (places == suc more) ≡ b → (places ≤ more → listed ≡ first_listed needs count more) → listed ≡ first_listed needs count (suc more)
      at true same later = is ∙ ap (first_listed needs count) ((Decides-eqb places (suc more)).0 same)
      at false other later =
          ap (and_node listed) (sym none) ∙ ap (and_least needs count) (later (at_most_last places more le (λ same. both_ways (places == suc more) other ((Decides-eqb places (suc more)).1 same))))

  and_below : (listed : List ℕ) → All (λ node. node < count) listed → (found : Option ℕ) → IsLeast (is_ready needs listed) count found → All (λ node. node < count) (and_node listed found)
  and_below listed below None least = below
  and_below listed below (Some node) least = All-push (λ node. node < count) listed node below least.0

  -- what is listed is below the count
  pub listed_below : (places : ℕ) → All (λ node. node < count) (first_listed needs count places)
  listed_below zero = All-nil (λ node. node < count)
  listed_below (suc n) =
      let listed = first_listed needs count n in
      and_below listed (listed_below n) (find (is_ready needs listed) (numbers_below count)) (found_least (is_ready needs listed) count)
