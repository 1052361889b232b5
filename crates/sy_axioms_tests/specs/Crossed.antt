-- A deed of two obligations of which each begins with the violation of the other: its needs have a cycle.
use Rattle.std.specs.Prelude.{ℕ, pos, List, [], ◌∷◌, codes}
use Rattle.sy_base.specs.declared.time.TimeUnit.TheVariants.{Day}
use Rattle.sy_words.specs.declared.kind.Kind.TheVariants.{Violated}
use Rattle.sy_words.specs.declared.form.Form.TheVariants.{Obligation}
use Rattle.sy_core.specs.declared.kind.Target.TheVariants as T
use Rattle.sy_core.specs.declared.event.Ev.{Ev}
use Rattle.sy_core.specs.declared.event.Ev.TheVariants.{Outer, Inner}
use Rattle.sy_core.specs.declared.proposition.Prop.TheVariants as Props
use Rattle.sy_core.specs.declared.position.Goal.TheVariants as G
use Rattle.sy_core.specs.declared.position.Position.{Position}
use Rattle.sy_core.specs.declared.deed.Deed.{Deed}
use Rattle.sy_axioms_tests.specs.MeatSale.{position}

-- the violation of one of them
abbrev pub violation : ℕ → Ev
violation i = Inner Violated (T.Position i)

-- an obligation that begins with the violation of another
abbrev pub after_other : List ℕ → ℕ → Position
after_other name other =
    position name Obligation (codes "a") (codes "b") (Props.Happens (violation other)) (G.Duty (Props.Happens (Outer 0 [])))

abbrev pub crossed : Deed
crossed = record {
  unit = Day;
  start = pos 100;
  events = record { name = codes "e"; attrs = [] } ∷ [];
  choices = [];
  positions = after_other (codes "o1") 1 ∷ after_other (codes "o2") 0 ∷ [];
  posts = [];
  order = [];
}

-- what each node needs, by number: Trig, Act and End of o1 are 0 to 2, those of o2 are 3 to 5, and Contract is 6
abbrev pub crossed_needs : List (List ℕ)
crossed_needs =
    (5 ∷ [])
    ∷ (0 ∷ [])
    ∷ (0 ∷ 1 ∷ [])
    ∷ (2 ∷ [])
    ∷ (3 ∷ [])
    ∷ (3 ∷ 4 ∷ [])
    ∷ (0 ∷ 1 ∷ 2 ∷ 3 ∷ 4 ∷ 5 ∷ 3 ∷ 4 ∷ 5 ∷ 0 ∷ 1 ∷ 2 ∷ [])
    ∷ []
