-- Which events of the contract stand behind a node.
use Rattle.std.specs.Prelude.{Bool, false}
use Rattle.sy_words.specs.declared.verb.Verb.{Verb}
use Rattle.sy_words.specs.declared.verb.Verb.TheVariants as Verbs
use Rattle.sy_present.specs.declared.acting.Behind.{Behind}

-- the event of what this does to the contract stands there
abbrev pub stands_behind : Behind → Verb → Bool
stands_behind behind Verbs.Suspends = behind.suspends
stands_behind behind Verbs.Resumes = behind.resumes
stands_behind behind Verbs.Discharges = false
stands_behind behind Verbs.Terminates = behind.terminates
stands_behind behind Verbs.Triggers = false
