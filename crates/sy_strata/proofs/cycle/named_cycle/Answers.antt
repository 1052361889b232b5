use Rattle.std.proofs.Common.{ℕ, suc, Bool, false, ◌<◌, List, [], get_or, sym, ◌∙◌, ap, subst}
use Rattle.std.specs.declared.option.Option.{Option}
use Rattle.std.specs.declared.option.Option.TheVariants.{None}
use Rattle.std.specs.Prelude.{IfSome}
use Rattle.std.specs.List.{All, find}
use Rattle.std.proofs.lemmas.Result.{IfOk-weaker}
use Rattle.sy_core.specs.Orders.{numbers_below, cycle_on}
use Rattle.sy_strata.specs.Edges.{needs_by}
use Rattle.sy_strata.specs.Machine.Ways.{AreLeast}
use Rattle.sy_strata.proofs.Places.{listed_below}
use Rattle.sy_strata.proofs.Walks.{found_below, next_below, cycle_is_named}
use Rattle.sy_strata.proofs.cycle.named_cycle.Goals as goal

pub remaining-requires : goal.remaining-requires
remaining-requires c = rw c.requires.listed (listed_below (needs_by c.args.edges.now) c.args.n c.args.n)

pub walk-requires-clause-first : goal.walk-requires-clause-first
walk-requires-clause-first c =
    subst (λ o. IfSome o (λ node. node < c.args.n)) (sym c.first_that_remains.ensures) (found_below (λ node. get_or c.deref-2.result.now node false) c.args.n)

pub walk-requires-clause-next : goal.walk-requires-clause-next
walk-requires-clause-next c =
    let edges = c.args.edges.now in
    let marks = c.in_ok-remains.remains.items in
    let least = c.in_ok-least_needs.least_needs.items in
    let are = subst (λ m. AreLeast c.args.n c.args.edges.now m c.in_ok-least_needs.least_needs.items) c.deref.ensures.value c.in_ok-least_needs.ensures in
    subst (λ l. All (λ o. IfSome o (λ n. n < c.args.n)) l) (sym c.deref-3.ensures.value) (next_below edges c.args.n c.args.listed.now c.requires.listed marks c.in_ok-remains.ensures least are)

pub returns : goal.returns
returns c =
    let edges = c.args.edges.now in
    let marks = c.in_ok-remains.remains.items in
    let least = c.in_ok-least_needs.least_needs.items in
    let are = subst (λ m. AreLeast c.args.n c.args.edges.now m c.in_ok-least_needs.least_needs.items) c.deref.ensures.value c.in_ok-least_needs.ensures in
    let found = c.first_that_remains.ensures ∙ ap (λ (m : List Bool). find (λ node. get_or m node false) (numbers_below c.args.n)) c.deref-2.ensures.value in
    let walked = ap (λ (l : List (Option ℕ)). cycle_on (λ node. get_or l node None) (suc c.args.n) [] c.first_that_remains.result) c.deref-3.ensures.value in
    IfOk-weaker c.walk.result _ _ (λ cycle e. cycle_is_named edges c.args.n c.args.listed.now c.requires.listed marks c.in_ok-remains.ensures least are cycle c.first_that_remains.result found (e ∙ walked)) c.walk.ensures
