-- Checks that are made one behind the other.
use Rattle.std.proofs.Common.{◌≡◌, List, [], ◌∷◌, Option, Some, None, refl, sym, ap, ◌∙◌}
use Rattle.std.specs.Option.{option_or}
use Rattle.sy_base.specs.declared.refusal.Refusal.{Refusal}
use Rattle.sy_typing.specs.Plans.{first_refusal}

-- the first that refuses gives the fault
pub stops : (check : Option Refusal) (later : List (Option Refusal)) (made : Option Refusal) (refusal : Refusal)
    → made ≡ check → made ≡ Some refusal → Some refusal ≡ first_refusal (check ∷ later)
unfolding first_refusal
stops check later made refusal is some = ap (λ o. option_or o (first_refusal later)) (sym some ∙ is)

-- behind one that doesn't refuse the fault is that of the later ones
pub passes : (check : Option Refusal) (later : List (Option Refusal)) (made fault : Option Refusal)
    → made ≡ check → made ≡ None → fault ≡ first_refusal later → fault ≡ first_refusal (check ∷ later)
unfolding first_refusal
passes check later made fault is none others = others ∙ ap (λ o. option_or o (first_refusal later)) (sym none ∙ is)

pub none_refuses : None ≡ first_refusal []
unfolding first_refusal
none_refuses = refl
