use Rattle.std.proofs.Common.{◌≡◌, ℕ, ◌+◌, ◌<◌, Bool, true, false, cond, ◌||◌, List, [], ◌∷◌, ◌++◌, length, take, get_or, refl, sym, ap, ◌∙◌, arith}
use Rattle.std.specs.Cmp.Lexicographic.{nat_list_eq_equiv}
use Rattle.std.specs.List.{list_any}
use Rattle.std.proofs.lemmas.List.{take_more}
use Rattle.sy_spec.specs.declared.contract.GiveTree.{GiveTree}
use Rattle.sy_domain.specs.Names.{same}
use Rattle.sy_types.specs.Declarations.{given_names}
use Rattle.sy_types.proofs.declarations.given_names.Goals as goal

or_last : (b : Bool) → (b || false) ≡ b
or_last true = refl
or_last false = refl

or_assoc : (a b c : Bool) → ((a || b) || c) ≡ (a || (b || c))
or_assoc true b c = refl
or_assoc false b c = refl

cond_or : (a b : Bool) → cond a true b ≡ (b || a)
cond_or true true = refl
cond_or true false = refl
cond_or false b = sym (or_last b)

-- one more give has one more name
given_append : (name : List ℕ) (gives : List GiveTree) (give : GiveTree)
    → list_any (same name) (given_names (gives ++ give ∷ []))
    ≡ (list_any (same name) (given_names gives) || same name give.name.text)
given_append name [] give = or_last (same name give.name.text)
given_append name (g ∷ gs) give =
    ap (λ b. same name g.name.text || b) (given_append name gs give)
    ∙ sym (or_assoc (same name g.name.text) (list_any (same name) (given_names gs)) (same name give.name.text))

-- a name is there, if it was there before or is the one that was put there
given_turn : (name key : List ℕ) (before after : Bool) (gives : List GiveTree) (i : ℕ) (give : GiveTree)
    → i < length gives → give ≡ get_or gives i give → key ≡ give.name.text
    → before ≡ list_any (same name) (given_names (take i gives)) → after ≡ cond (same key name) true before
    → after ≡ list_any (same name) (given_names (take (i + 1) gives))
given_turn name key before after gives i give within is named done turn =
    turn
    ∙ cond_or (same key name) before
    ∙ ap (λ b. before || b) (nat_list_eq_equiv.symm key name)
    ∙ ap (λ b. b || same name key) done
    ∙ ap (λ k. list_any (same name) (given_names (take i gives)) || same name k) (named ∙ ap (λ g. g.name.text) is)
    ∙ sym (ap (λ l. list_any (same name) (given_names l)) (take_more gives i give within)
    ∙ given_append name (take i gives) (get_or gives i give))

pub give-preserved : goal.give-preserved
give-preserved c = λ name.
    given_turn name c.in_ok-copy.field-0 _ _ c.args.gives.now c.give.give-index c.give-item.result
    (omega arith) c.give-item.is c.in_ok-copy.ensures (c.give.invariant name) (c.in_ok-insert.ensures.updates.0 name)
