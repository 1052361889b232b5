use Rattle.std.proofs.Common.{◌≡◌, [], ◌∷◌, sym, ◌∙◌}
use Rattle.sy_domain.specs.Checks.{names_apart, types_known, chains_end, attributes_apart}
use Rattle.sy_domain.proofs.Chain.{stops, passes, none_fails}
use Rattle.sy_domain.proofs.Ended.{no_cycle_then}
use Rattle.sy_domain.proofs.checks.fault.Goals as goal

pub clashes-requires-clause-none : goal.clashes-requires-clause-none
clashes-requires-clause-none c = no_cycle_then c.args.tree.now (sym c.in_ok-fault-3.ensures ∙ c.in-None-3.is)

pub returns-in-Some : goal.returns-in-Some
returns-in-Some c =
    let s = c.args.tree.now in
    stops (names_apart s) (types_known s ∷ chains_end s ∷ attributes_apart s ∷ []) c.in_ok-fault.field-0 c.in-Some.fault c.in_ok-fault.ensures c.in-Some.is

pub returns-in-Some-2 : goal.returns-in-Some-2
returns-in-Some-2 c =
    let s = c.args.tree.now in
    passes (names_apart s) (types_known s ∷ chains_end s ∷ attributes_apart s ∷ []) c.in_ok-fault.field-0 _ c.in_ok-fault.ensures c.in-None.is
    (stops (types_known s) (chains_end s ∷ attributes_apart s ∷ []) c.in_ok-fault-2.field-0 c.in-Some-2.fault c.in_ok-fault-2.ensures c.in-Some-2.is)

pub returns-in-Some-3 : goal.returns-in-Some-3
returns-in-Some-3 c =
    let s = c.args.tree.now in
    passes (names_apart s) (types_known s ∷ chains_end s ∷ attributes_apart s ∷ []) c.in_ok-fault.field-0 _ c.in_ok-fault.ensures c.in-None.is
    (passes (types_known s) (chains_end s ∷ attributes_apart s ∷ []) c.in_ok-fault-2.field-0 _ c.in_ok-fault-2.ensures c.in-None-2.is
    (stops (chains_end s) (attributes_apart s ∷ []) c.in_ok-fault-3.field-0 c.in-Some-3.fault c.in_ok-fault-3.ensures c.in-Some-3.is))

pub returns-in-Some-4 : goal.returns-in-Some-4
returns-in-Some-4 c =
    let s = c.args.tree.now in
    passes (names_apart s) (types_known s ∷ chains_end s ∷ attributes_apart s ∷ []) c.in_ok-fault.field-0 _ c.in_ok-fault.ensures c.in-None.is
    (passes (types_known s) (chains_end s ∷ attributes_apart s ∷ []) c.in_ok-fault-2.field-0 _ c.in_ok-fault-2.ensures c.in-None-2.is
    (passes (chains_end s) (attributes_apart s ∷ []) c.in_ok-fault-3.field-0 _ c.in_ok-fault-3.ensures c.in-None-3.is
    (stops (attributes_apart s) [] c.in_ok-fault-4.field-0 c.in-Some-4.fault c.in_ok-fault-4.ensures c.in-Some-4.is)))

pub returns : goal.returns
returns c =
    let s = c.args.tree.now in
    passes (names_apart s) (types_known s ∷ chains_end s ∷ attributes_apart s ∷ []) c.in_ok-fault.field-0 _ c.in_ok-fault.ensures c.in-None.is
    (passes (types_known s) (chains_end s ∷ attributes_apart s ∷ []) c.in_ok-fault-2.field-0 _ c.in_ok-fault-2.ensures c.in-None-2.is
    (passes (chains_end s) (attributes_apart s ∷ []) c.in_ok-fault-3.field-0 _ c.in_ok-fault-3.ensures c.in-None-3.is
    (passes (attributes_apart s) [] c.in_ok-fault-4.field-0 _ c.in_ok-fault-4.ensures c.in-None-4.is none_fails)))
