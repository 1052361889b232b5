use Rattle.std.proofs.Common.{◌≡◌, [], ◌∷◌}
use Rattle.sy_domain.specs.Failures.{refusal_of}
use Rattle.sy_literal.specs.Calendar.{calendar_refusal}
use Rattle.sy_literal.specs.Consequents.{consequents_without_situations}
use Rattle.sy_literal.specs.Limits.{limits_kept}
use Rattle.sy_literal.specs.Numbers.{numbers_in_range}
use Rattle.sy_names.specs.UnknownNames.{names_known}
use Rattle.sy_types.specs.WrongTypes.{types_right}
use Rattle.sy_typing.specs.Plans.{text_refusals}
use Rattle.sy_typing.proofs.Refusals.{stops, passes, none_refuses}
use Rattle.sy_typing.proofs.faults.text_fault.Goals as goal

pub returns-in-Some : goal.returns-in-Some
unfolding text_refusals
returns-in-Some c =
    let s = c.args.tree.now in
    let c1 = refusal_of (names_known s) in
    let c2 = refusal_of (types_right s) in
    let c3 = refusal_of (numbers_in_range s) in
    let c4 = calendar_refusal s in
    let c5 = refusal_of (consequents_without_situations s) in
    let c6 = refusal_of (limits_kept s) in
    stops c1 (c2 ∷ c3 ∷ c4 ∷ c5 ∷ c6 ∷ []) c.in_ok-fault.field-0 c.in-Some.fault c.in_ok-fault.ensures c.in-Some.is

pub returns-in-Some-2 : goal.returns-in-Some-2
unfolding text_refusals
returns-in-Some-2 c =
    let s = c.args.tree.now in
    let c1 = refusal_of (names_known s) in
    let c2 = refusal_of (types_right s) in
    let c3 = refusal_of (numbers_in_range s) in
    let c4 = calendar_refusal s in
    let c5 = refusal_of (consequents_without_situations s) in
    let c6 = refusal_of (limits_kept s) in
    passes c1 (c2 ∷ c3 ∷ c4 ∷ c5 ∷ c6 ∷ []) c.in_ok-fault.field-0 _ c.in_ok-fault.ensures c.in-None.is (
    stops c2 (c3 ∷ c4 ∷ c5 ∷ c6 ∷ []) c.in_ok-fault-2.field-0 c.in-Some-2.fault c.in_ok-fault-2.ensures c.in-Some-2.is)

pub returns-in-Some-3 : goal.returns-in-Some-3
unfolding text_refusals
returns-in-Some-3 c =
    let s = c.args.tree.now in
    let c1 = refusal_of (names_known s) in
    let c2 = refusal_of (types_right s) in
    let c3 = refusal_of (numbers_in_range s) in
    let c4 = calendar_refusal s in
    let c5 = refusal_of (consequents_without_situations s) in
    let c6 = refusal_of (limits_kept s) in
    passes c1 (c2 ∷ c3 ∷ c4 ∷ c5 ∷ c6 ∷ []) c.in_ok-fault.field-0 _ c.in_ok-fault.ensures c.in-None.is (
    passes c2 (c3 ∷ c4 ∷ c5 ∷ c6 ∷ []) c.in_ok-fault-2.field-0 _ c.in_ok-fault-2.ensures c.in-None-2.is (
    stops c3 (c4 ∷ c5 ∷ c6 ∷ []) c.in_ok-fault-3.field-0 c.in-Some-3.fault c.in_ok-fault-3.ensures c.in-Some-3.is))

pub returns-in-Some-4 : goal.returns-in-Some-4
unfolding text_refusals
returns-in-Some-4 c =
    let s = c.args.tree.now in
    let c1 = refusal_of (names_known s) in
    let c2 = refusal_of (types_right s) in
    let c3 = refusal_of (numbers_in_range s) in
    let c4 = calendar_refusal s in
    let c5 = refusal_of (consequents_without_situations s) in
    let c6 = refusal_of (limits_kept s) in
    passes c1 (c2 ∷ c3 ∷ c4 ∷ c5 ∷ c6 ∷ []) c.in_ok-fault.field-0 _ c.in_ok-fault.ensures c.in-None.is (
    passes c2 (c3 ∷ c4 ∷ c5 ∷ c6 ∷ []) c.in_ok-fault-2.field-0 _ c.in_ok-fault-2.ensures c.in-None-2.is (
    passes c3 (c4 ∷ c5 ∷ c6 ∷ []) c.in_ok-fault-3.field-0 _ c.in_ok-fault-3.ensures c.in-None-3.is (
    stops c4 (c5 ∷ c6 ∷ []) c.in_ok-fault-4.field-0 c.in-Some-4.fault c.in_ok-fault-4.ensures c.in-Some-4.is)))

pub returns-in-Some-5 : goal.returns-in-Some-5
unfolding text_refusals
returns-in-Some-5 c =
    let s = c.args.tree.now in
    let c1 = refusal_of (names_known s) in
    let c2 = refusal_of (types_right s) in
    let c3 = refusal_of (numbers_in_range s) in
    let c4 = calendar_refusal s in
    let c5 = refusal_of (consequents_without_situations s) in
    let c6 = refusal_of (limits_kept s) in
    passes c1 (c2 ∷ c3 ∷ c4 ∷ c5 ∷ c6 ∷ []) c.in_ok-fault.field-0 _ c.in_ok-fault.ensures c.in-None.is (
    passes c2 (c3 ∷ c4 ∷ c5 ∷ c6 ∷ []) c.in_ok-fault-2.field-0 _ c.in_ok-fault-2.ensures c.in-None-2.is (
    passes c3 (c4 ∷ c5 ∷ c6 ∷ []) c.in_ok-fault-3.field-0 _ c.in_ok-fault-3.ensures c.in-None-3.is (
    passes c4 (c5 ∷ c6 ∷ []) c.in_ok-fault-4.field-0 _ c.in_ok-fault-4.ensures c.in-None-4.is (
    stops c5 (c6 ∷ []) c.in_ok-fault-5.field-0 c.in-Some-5.fault c.in_ok-fault-5.ensures c.in-Some-5.is))))

pub returns-in-Some-6 : goal.returns-in-Some-6
unfolding text_refusals
returns-in-Some-6 c =
    let s = c.args.tree.now in
    let c1 = refusal_of (names_known s) in
    let c2 = refusal_of (types_right s) in
    let c3 = refusal_of (numbers_in_range s) in
    let c4 = calendar_refusal s in
    let c5 = refusal_of (consequents_without_situations s) in
    let c6 = refusal_of (limits_kept s) in
    passes c1 (c2 ∷ c3 ∷ c4 ∷ c5 ∷ c6 ∷ []) c.in_ok-fault.field-0 _ c.in_ok-fault.ensures c.in-None.is (
    passes c2 (c3 ∷ c4 ∷ c5 ∷ c6 ∷ []) c.in_ok-fault-2.field-0 _ c.in_ok-fault-2.ensures c.in-None-2.is (
    passes c3 (c4 ∷ c5 ∷ c6 ∷ []) c.in_ok-fault-3.field-0 _ c.in_ok-fault-3.ensures c.in-None-3.is (
    passes c4 (c5 ∷ c6 ∷ []) c.in_ok-fault-4.field-0 _ c.in_ok-fault-4.ensures c.in-None-4.is (
    passes c5 (c6 ∷ []) c.in_ok-fault-5.field-0 _ c.in_ok-fault-5.ensures c.in-None-5.is (
    stops c6 ([]) c.in_ok-fault-6.field-0 c.in-Some-6.fault c.in_ok-fault-6.ensures c.in-Some-6.is)))))

pub returns : goal.returns
unfolding text_refusals
returns c =
    let s = c.args.tree.now in
    let c1 = refusal_of (names_known s) in
    let c2 = refusal_of (types_right s) in
    let c3 = refusal_of (numbers_in_range s) in
    let c4 = calendar_refusal s in
    let c5 = refusal_of (consequents_without_situations s) in
    let c6 = refusal_of (limits_kept s) in
    passes c1 (c2 ∷ c3 ∷ c4 ∷ c5 ∷ c6 ∷ []) c.in_ok-fault.field-0 _ c.in_ok-fault.ensures c.in-None.is (
    passes c2 (c3 ∷ c4 ∷ c5 ∷ c6 ∷ []) c.in_ok-fault-2.field-0 _ c.in_ok-fault-2.ensures c.in-None-2.is (
    passes c3 (c4 ∷ c5 ∷ c6 ∷ []) c.in_ok-fault-3.field-0 _ c.in_ok-fault-3.ensures c.in-None-3.is (
    passes c4 (c5 ∷ c6 ∷ []) c.in_ok-fault-4.field-0 _ c.in_ok-fault-4.ensures c.in-None-4.is (
    passes c5 (c6 ∷ []) c.in_ok-fault-5.field-0 _ c.in_ok-fault-5.ensures c.in-None-5.is (
    passes c6 ([]) c.in_ok-fault-6.field-0 _ c.in_ok-fault-6.ensures c.in-None-6.is (
    none_refuses))))))
