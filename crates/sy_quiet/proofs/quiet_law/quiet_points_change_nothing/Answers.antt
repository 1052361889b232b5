use Rattle.std.proofs.Common.{◌≡◌, ℕ, zero, suc, false, List, length}
use Rattle.sy_core.specs.declared.deed.Deed.{Deed}
use Rattle.sy_core.specs.declared.event.Ev.TheVariants.{Inner}
use Rattle.sy_core.specs.declared.happening.Happening.{Happening}
use Rattle.sy_core.specs.Mentions.{InternalEvent}
use Rattle.sy_core.specs.Chronicle.{state_at, moment_at}
use Rattle.sy_core.specs.Orders.{IsAcyclic}
use Rattle.sy_core.specs.Prerequisites.{nodes, numbered_needs}
use Rattle.sy_core.specs.Wakes.{is_wake_after}
use Rattle.sy_quiet.proofs.WakeLaw.{none_inside, same_states, same_posts, run_at}
use Rattle.sy_quiet.proofs.quiet_law.quiet_points_change_nothing.Goals as goal

nothing_at : (deed : Deed) → IsAcyclic (numbered_needs deed) (length (nodes deed)) → (narrative : List Happening) (n : ℕ) → is_wake_after deed narrative n ≡ false → (event : InternalEvent) → (moment_at deed narrative n).seen (Inner event.0 event.1) ≡ false
nothing_at deed acyclic narrative zero h event = cc
nothing_at deed acyclic narrative (suc n) h event = none_inside deed acyclic narrative n h event

states_at : (deed : Deed) → IsAcyclic (numbered_needs deed) (length (nodes deed)) → (narrative : List Happening) (n : ℕ) → is_wake_after deed narrative n ≡ false → state_at deed narrative (suc n) ≡ state_at deed narrative n
states_at deed acyclic narrative zero h = cc
states_at deed acyclic narrative (suc n) h = same_states deed acyclic narrative n h

pub returns-clause-nothing : goal.returns-clause-nothing
returns-clause-nothing c = nothing_at

pub returns-clause-states : goal.returns-clause-states
returns-clause-states c = states_at

pub returns-clause-posts : goal.returns-clause-posts
returns-clause-posts c = same_posts

pub returns-clause-history : goal.returns-clause-history
returns-clause-history c = run_at
