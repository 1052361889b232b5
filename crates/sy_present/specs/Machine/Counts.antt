-- How many nodes act on the contract.
use Rattle.std.specs.Prelude.{◌≡◌, ℕ, List, count_by}
use Rattle.sy_words.specs.declared.verb.Verb.{Verb}
use Rattle.sy_words.specs.declared.verb.Verb.TheVariants as Verbs
use Rattle.sy_core.specs.declared.deed.Deed.{Deed}
use Rattle.sy_core.specs.Prerequisites.{Node}
use Rattle.sy_core.specs.EventOrder.{acts}
use Rattle.sy_present.specs.declared.acting.Acting.{Acting}

-- how many of some nodes do this to the contract
abbrev pub count_acting : Deed → Verb → List Node → ℕ
count_acting deed verb ns = count_by (acts deed verb) ns

-- the counts are those of these nodes
pub record AreActing (acting : Acting) (deed : Deed) (ns : List Node) : Type 0 where
  pub resumes : acting.resumes ≡ count_acting deed Verbs.Resumes ns
  pub suspends : acting.suspends ≡ count_acting deed Verbs.Suspends ns
  pub terminates : acting.terminates ≡ count_acting deed Verbs.Terminates ns
