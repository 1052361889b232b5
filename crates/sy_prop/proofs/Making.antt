-- The nodes of a proposition with parts, and what a loop over the parts keeps.
use Rattle.std.proofs.Common.{◌≡◌, ℕ, suc, zero, ◌+◌, ◌-◌, ◌<◌, ◌≤◌, true, false, List, [], ◌∷◌, ◌++◌, map, drop, length, get_or, refl, sym, ◌∙◌, ap, arith, append_assoc, length-append, drop-cons, add-one}
use Rattle.sy_base.specs.declared.time.TimeUnit.{TimeUnit}
use Rattle.sy_core.specs.declared.proposition.Prop.{Prop}
use Rattle.sy_core.specs.declared.proposition.Prop.TheVariants as Props
use Rattle.sy_core.specs.declared.proposition.Prop.TheOpen as P
use Rattle.sy_core.specs.declared.proposition.Prop.TheVariants.{rolls-All, rolls-Any, rolls-Not}
use Rattle.sy_core.specs.declared.proposition.Prop.TheFolds.{fold-roll-Prop}
use Rattle.sy_quiet.specs.Histories.{History}
use Rattle.sy_prop.specs.declared.node.Node.{Node}
use Rattle.sy_prop.specs.declared.node.Node.TheVariants as N
use Rattle.sy_prop.specs.Machine.Tables.{chain_from, chain, nodes_step, nodes_of_prop}

module _ (unit : TimeUnit) (h : History) where
  pub nodes-all : (ps : List Prop) (n : ℕ) → nodes_of_prop unit h (Props.All ps) n ≡ chain true N.Both (map (nodes_of_prop unit h) ps) n
  nodes-all ps n = ap (λ g. g n) (ap (nodes_of_prop unit h) (sym (rolls-All ps)) ∙ fold-roll-Prop (ℕ → List Node) (nodes_step unit h) (P.All ps))

  pub nodes-any : (ps : List Prop) (n : ℕ) → nodes_of_prop unit h (Props.Any ps) n ≡ chain false N.Either (map (nodes_of_prop unit h) ps) n
  nodes-any ps n = ap (λ g. g n) (ap (nodes_of_prop unit h) (sym (rolls-Any ps)) ∙ fold-roll-Prop (ℕ → List Node) (nodes_step unit h) (P.Any ps))

  pub nodes-not : (p : Prop) (n : ℕ) → nodes_of_prop unit h (Props.Not p) n ≡ nodes_of_prop unit h p n ++ N.Not ∷ []
  nodes-not p n = ap (λ g. g n) (ap (nodes_of_prop unit h) (sym (rolls-Not p)) ∙ fold-roll-Prop (ℕ → List Node) (nodes_step unit h) (P.Not p))

  pub not_made : (p q : Prop) (old added next : List Node) → q ≡ Props.Not p → added ≡ old ++ nodes_of_prop unit h p (length old) → next ≡ added ++ N.Not ∷ [] → next ≡ old ++ nodes_of_prop unit h q (length old)
  not_made p q old added next is a b =
      b ∙ (ap (λ l. l ++ N.Not ∷ []) a ∙ (append_assoc old (nodes_of_prop unit h p (length old)) (N.Not ∷ []) ∙ ap (λ l. old ++ l) (sym (ap (λ x. nodes_of_prop unit h x (length old)) is ∙ nodes-not p (length old)))))

  append_none : (xs : List Node) → xs ++ [] ≡ xs
  append_none [] = refl
  append_none (x ∷ xs) = ap (λ ys. x ∷ ys) (append_none xs)

  drop_all : (items : List Prop) (i : ℕ) → length items ≤ i → drop i items ≡ []
  drop_all [] zero le = refl
  drop_all [] (suc i) le = refl
  drop_all (x ∷ xs) zero le = absurd (omega arith)
  drop_all (x ∷ xs) (suc i) le = drop_all xs i (omega arith)

  pub all_made : (q : Prop) (ps items : List Prop) (i : ℕ) (old nodes : List Node) → q ≡ Props.All ps → items ≡ ps → length items ≤ i → nodes ++ chain_from N.Both (map (nodes_of_prop unit h) (drop i items)) (length nodes) ≡ old ++ N.Const true ∷ chain_from N.Both (map (nodes_of_prop unit h) items) (length old + 1) → nodes ≡ old ++ nodes_of_prop unit h q (length old)
  all_made q ps items i old nodes is same le rest =
      sym (ap (λ l. nodes ++ chain_from N.Both (map (nodes_of_prop unit h) l) (length nodes)) (drop_all items i le) ∙ append_none nodes)
      ∙ (rest ∙ (ap (λ l. old ++ chain true N.Both (map (nodes_of_prop unit h) l) (length old)) same ∙ ap (λ l. old ++ l) (sym (ap (λ x. nodes_of_prop unit h x (length old)) is ∙ nodes-all ps (length old)))))

  pub any_made : (q : Prop) (ps items : List Prop) (i : ℕ) (old nodes : List Node) → q ≡ Props.Any ps → items ≡ ps → length items ≤ i → nodes ++ chain_from N.Either (map (nodes_of_prop unit h) (drop i items)) (length nodes) ≡ old ++ N.Const false ∷ chain_from N.Either (map (nodes_of_prop unit h) items) (length old + 1) → nodes ≡ old ++ nodes_of_prop unit h q (length old)
  any_made q ps items i old nodes is same le rest =
      sym (ap (λ l. nodes ++ chain_from N.Either (map (nodes_of_prop unit h) l) (length nodes)) (drop_all items i le) ∙ append_none nodes)
      ∙ (rest ∙ (ap (λ l. old ++ chain false N.Either (map (nodes_of_prop unit h) l) (length old)) same ∙ ap (λ l. old ++ l) (sym (ap (λ x. nodes_of_prop unit h x (length old)) is ∙ nodes-any ps (length old)))))

  -- one part more
  pub chain_goes_on : (join : ℕ → Node) (items : List Prop) (i : ℕ) (part : Prop) (nodes added next whole : List Node) → i < length items → part ≡ get_or items i part → added ≡ nodes ++ nodes_of_prop unit h part (length nodes) → next ≡ added ++ join (length nodes - 1) ∷ [] → nodes ++ chain_from join (map (nodes_of_prop unit h) (drop i items)) (length nodes) ≡ whole → next ++ chain_from join (map (nodes_of_prop unit h) (drop (i + 1) items)) (length next) ≡ whole
  chain_goes_on join items i part nodes added next whole lt is a b rest =
      let n = length nodes in
      let own = nodes_of_prop unit h part n in
      let more = λ (m : ℕ). chain_from join (map (nodes_of_prop unit h) (drop (i + 1) items)) m in
      let ahead : drop i items ≡ part ∷ drop (i + 1) items = rw add-one (drop-cons items i part lt ∙ ap (λ x. x ∷ drop (suc i) items) (sym is)) in
      let made = b ∙ ap (λ l. l ++ join (n - 1) ∷ []) a in
      let size : length next ≡ n + length own + 1 = ap length made ∙ omega (arith, length-append (nodes ++ own) (join (n - 1) ∷ []), length-append nodes own) in
      (λ j. made j ++ more (size j))
      ∙ (append_assoc (nodes ++ own) (join (n - 1) ∷ []) (more (n + length own + 1))
      ∙ (append_assoc nodes own (join (n - 1) ∷ more (n + length own + 1))
      ∙ (ap (λ l. nodes ++ chain_from join (map (nodes_of_prop unit h) l) n) (sym ahead) ∙ rest)))
