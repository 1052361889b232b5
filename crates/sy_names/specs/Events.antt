-- The names of declared events and of their guards that aren't declared for their place.
use Rattle.std.specs.Prelude.{ℕ, is_some, List, [], ◌++◌, Option, Some, None}
use Rattle.sy_lex.specs.declared.written.Written.{Written}
use Rattle.sy_tree.specs.declared.proposition.GuardTree.{GuardTree}
use Rattle.sy_domain.specs.declared.failure.Failure.{Failure}
use Rattle.sy_domain.specs.declared.meaning.Sort.{Sort}
use Rattle.sy_domain.specs.Failures.{unless}
use Rattle.sy_scope.specs.Scopes.{Things, event_sort, env_sort}
use Rattle.sy_names.specs.Paths.{unknown_in_rhs}

-- a name where an event is named, that is no declaration of an event type
abbrev pub unknown_event : Things → Written → List Failure
unknown_event s name = unless (is_some (event_sort s name.text)) name

-- a name that is no Env attribute of an event of the type. Of an event that isn't known nothing is said: its name stands before
abbrev pub unknown_env : Things → Option Sort → Written → List Failure
unknown_env s None name = []
unknown_env s (Some event) name = unless (is_some (env_sort s event name.text)) name

-- in a guard of the event with a name
abbrev pub unknown_in_guard : Things → ℕ → Written → GuardTree → List Failure
unknown_in_guard s visible event guard =
    unknown_env s (event_sort s event.text) guard.name
    ++ unknown_in_rhs s visible guard.value
