-- A run of a command, from what its parts do.
use Rattle.std.proofs.Common.{◌≡◌, ℕ, inl, inr, List, [], ◌++◌, refl, sym, subst, ◌∙◌, Some, Ok, Err, Result, arith}
use Rattle.std.proofs.lemmas.List.{append_cancel_right}
use Rattle.std.specs.Prelude.{MatchBool}
use Rattle.std.specs.declared.option.Option.{Option}
use Rattle.std.specs.Io.KnownBytes.{Appends}
use Rattle.sy_outside.specs.Outside.{RoseSince}
use Rattle.sy_base.specs.declared.refusal.Refusal.{Refusal}
use Rattle.sy_core.specs.declared.deed.Deed.{Deed}
use Rattle.sy_spec.specs.declared.contract.SpecTree.{SpecTree}
use Rattle.sy_run.specs.Commands.{Command, Compile, Monitor, Unknown}
use Rattle.sy_run.specs.Machine.Stopping.{IsToldAs, is_read_stop}
use Rattle.sy_run.specs.Machine.Stream.{HowStopped, refused, half_refused, not_refused, not_read, no_memory, IsReadingStatus, IsUsageStatus, IsWritingStatus, StopsWith, StreamCaused, StreamEnds, WriteCaused, WroteAllRead}
use Rattle.sy_run.specs.Outcomes.{End, Finished, Stopped, Missing, Misused, GivesDeed, IsAskedFor, IsOutcome, Outcome, compiled, stopped, usage}
use Rattle.sy_run.specs.Run.{Caused, Ends, IsRun, IsStatusFor, IsStatusOf, KnowsFor}
use Rattle.sy_run.specs.Texts.{IsDeedIn, IsSoundSpecIn}
use Rattle.sy_run.specs.World.{World, InputStays, NoneFailed, ReadsSteady}
use Rattle.sy_run.proofs.OneOutcome.{asks_nothing, knows_of, one_asked, one_outcome}
use Rattle.sy_run.specs.declared.stop.Stop.{Stop}
use Rattle.sy_run.specs.declared.stop.Stop.TheVariants as stop
use Rattle.sy_run.specs.declared.status.Status.{Status}
use Rattle.sy_run.specs.declared.status.Status.TheVariants.{Done, Found, Refused, Usage, ReadFault, WriteFault, Memory, Undecided}

out_of_memory : (end : End) → IsStatusOf end Memory
out_of_memory Finished = inr refl
out_of_memory Stopped = inr refl
out_of_memory Misused = inr refl
out_of_memory Missing = tt

-- a run in which no call failed ends as its outcome says
module _ (command : Command) (before after : World) where
  completed : (outcome : Outcome) (status : Status) → Ends before.held after.held outcome status → Caused command before after status → NoneFailed before after → IsStatusOf outcome.end status
  completed outcome Done ends cause none = subst (λ (e : End). IsStatusOf e Done) (sym ends.1) (inl refl)
  completed outcome Refused ends cause none = subst (λ (e : End). IsStatusOf e Refused) (sym ends.1) (inl refl)
  completed outcome Usage ends cause none = subst (λ (e : End). IsStatusOf e Usage) (sym ends.1) (inl refl)
  completed outcome ReadFault ends cause none = absurd (elim cause.0 [ inl rose ↦ none.files rose | inr rose ↦ none.input rose.1 ])
  completed outcome WriteFault ends cause none = absurd (none.output cause.1)
  completed outcome Memory ends cause none = out_of_memory outcome.end
  completed outcome Found ends cause none = absurd ends
  completed outcome Undecided ends cause none = absurd ends

  pub completes : (status : Status) → ((outcome : Outcome) → IsOutcome command before outcome → Ends before.held after.held outcome status) → Caused command before after status
      → (outcome : Outcome) → IsOutcome command before outcome → NoneFailed before after → IsStatusOf outcome.end status
  completes status ends cause outcome is none = completed outcome status (ends outcome is) cause none

-- a read failed only where the status says so
differ : (status : Status) (is : Status → Type 0) → is status → status ≡ ReadFault → (is ReadFault → ⊥) → ⊥
differ status is holds e never = never (subst is e holds)

-- what was written for its causes, where the reads went well
written_caused : (command : Command) (before after : World) (status : Status) → IsWritingStatus status → WriteCaused before.output_faults after.output_faults status
    → ReadsSteady before after → Caused command before after status
written_caused command before after Done is wrote steady = (steady, wrote)
written_caused command before after Memory is wrote steady = (steady, wrote)
written_caused command before after WriteFault is wrote steady = (steady, wrote)
written_caused command before after Found is wrote steady = absurd is
written_caused command before after Refused is wrote steady = absurd is
written_caused command before after Usage is wrote steady = absurd is
written_caused command before after ReadFault is wrote steady = absurd is
written_caused command before after Undecided is wrote steady = absurd is

writing_status : (spec : List ℕ) (status : Status) → IsWritingStatus status → IsStatusFor (Compile spec) status
writing_status spec Done is = tt
writing_status spec Memory is = tt
writing_status spec WriteFault is = tt
writing_status spec Found is = absurd is
writing_status spec Refused is = absurd is
writing_status spec Usage is = absurd is
writing_status spec ReadFault is = absurd is
writing_status spec Undecided is = absurd is

-- a specification was read and its text written
pub compiled_run : (spec : List ℕ) (before after : World) (tree : SpecTree) (status : Status)
    → ((text : Option (List ℕ)) → before.file spec ≡ Some text → IsSoundSpecIn text (Ok tree))
    → Ends before.held after.held (compiled (Ok tree)) status → IsWritingStatus status → WriteCaused before.output_faults after.output_faults status
    → after.file_faults ≡ before.file_faults → InputStays before after → IsRun (Compile spec) before after status
compiled_run spec before after tree status given ends is wrote files stays =
    let cause : Caused (Compile spec) before after status = written_caused (Compile spec) before after status is wrote (record { files = files; input = stays.faults }) in
    let outcome : (outcome : Outcome) → IsOutcome (Compile spec) before outcome → Ends before.held after.held outcome status =
    λ outcome is.
    let same = one_outcome (Compile spec) before (compiled (Ok tree)) outcome (Ok tree, (is.1.0, is.1.1, given is.1.0 is.1.1), refl) is in
    subst (λ (o : Outcome). Ends before.held after.held o status) same ends in record {
      outcome = outcome;
      answered = λ failed taken rest text was now asked. absurd (differ status IsWritingStatus is failed (λ w. w));
      complete = completes (Compile spec) before after status outcome cause;
      cause = cause;
      input = λ leaves. stays;
      allowed = writing_status spec status is;
    }

-- the words are no command
usage_caused : (before after : World) (status : Status) → IsUsageStatus status → WriteCaused before.output_faults after.output_faults status
    → ReadsSteady before after → Caused Unknown before after status
usage_caused before after Usage is wrote steady = (steady, wrote)
usage_caused before after WriteFault is wrote steady = (steady, wrote)
usage_caused before after Done is wrote steady = absurd is
usage_caused before after Memory is wrote steady = absurd is
usage_caused before after Found is wrote steady = absurd is
usage_caused before after Refused is wrote steady = absurd is
usage_caused before after ReadFault is wrote steady = absurd is
usage_caused before after Undecided is wrote steady = absurd is

usage_status : (status : Status) → IsUsageStatus status → IsStatusFor Unknown status
usage_status Usage is = tt
usage_status WriteFault is = tt
usage_status Done is = absurd is
usage_status Memory is = absurd is
usage_status Found is = absurd is
usage_status Refused is = absurd is
usage_status ReadFault is = absurd is
usage_status Undecided is = absurd is

pub usage_run : (before after : World) (status : Status) → Ends before.held after.held usage status → IsUsageStatus status → WriteCaused before.output_faults after.output_faults status
    → after.file_faults ≡ before.file_faults → InputStays before after → IsRun Unknown before after status
usage_run before after status ends is wrote files stays =
    let cause : Caused Unknown before after status = usage_caused before after status is wrote (record { files = files; input = stays.faults }) in
    let outcome : (outcome : Outcome) → IsOutcome Unknown before outcome → Ends before.held after.held outcome status =
    λ outcome is. subst (λ (o : Outcome). Ends before.held after.held o status) (sym is) ends in record {
      outcome = outcome;
      answered = λ failed taken rest text was now asked. absurd (differ status IsUsageStatus is failed (λ w. w));
      complete = completes Unknown before after status outcome cause;
      cause = cause;
      input = λ leaves. stays;
      allowed = usage_status status is;
    }

-- how a run stopped, case by case
how_stopped : (old new : Option (List ℕ)) (why : Stop) (status : Status) → StopsWith old new why status → HowStopped old new why status
how_stopped old new (stop.Refused r) Refused p = refused r p
how_stopped old new (stop.Refused r) WriteFault p = half_refused r p
how_stopped old new (stop.Refused r) Memory p = not_refused r p
how_stopped old new (stop.Refused r) Done p = absurd p
how_stopped old new (stop.Refused r) Found p = absurd p
how_stopped old new (stop.Refused r) Usage p = absurd p
how_stopped old new (stop.Refused r) ReadFault p = absurd p
how_stopped old new (stop.Refused r) Undecided p = absurd p
how_stopped old new stop.ReadFault ReadFault p = not_read p
how_stopped old new stop.ReadFault Done p = absurd p
how_stopped old new stop.ReadFault Found p = absurd p
how_stopped old new stop.ReadFault Refused p = absurd p
how_stopped old new stop.ReadFault Usage p = absurd p
how_stopped old new stop.ReadFault WriteFault p = absurd p
how_stopped old new stop.ReadFault Memory p = absurd p
how_stopped old new stop.ReadFault Undecided p = absurd p
how_stopped old new stop.Memory Memory p = no_memory p
how_stopped old new stop.Memory Done p = absurd p
how_stopped old new stop.Memory Found p = absurd p
how_stopped old new stop.Memory Refused p = absurd p
how_stopped old new stop.Memory Usage p = absurd p
how_stopped old new stop.Memory ReadFault p = absurd p
how_stopped old new stop.Memory WriteFault p = absurd p
how_stopped old new stop.Memory Undecided p = absurd p

taken_none : (taken rest : List ℕ) (before after : Option (List ℕ)) → before ≡ Some (taken ++ rest) → after ≡ Some rest → after ≡ before → taken ≡ []
taken_none taken rest before after was now stays =
    let same : taken ++ rest ≡ [] ++ rest = both (taken ++ rest) rest after (stays ∙ was) now in
    append_cancel_right taken [] rest same
  where
    both : (xs ys : List ℕ) (l : Option (List ℕ)) → l ≡ Some xs → l ≡ Some ys → xs ≡ ys
    both xs ys l p q = cc

-- what files that stop a run mean for a command
pub record StopsBy (command : Command) (before : World) (why : Stop) : Type 0 where
  pub outcome : (refusal : Refusal) → why ≡ stop.Refused refusal → KnowsFor command before → IsOutcome command before (stopped (stop.Refused refusal))
  pub asked : (text : List ℕ) → IsAskedFor command before [] text → text ≡ []
  pub reads : (status : Status) → IsReadingStatus status → IsStatusFor command status

module _ (command : Command) (before after : World) (stays : InputStays before after) where
  stopped_ends : (why : Stop) (status : Status) → StopsBy command before why → HowStopped before.held after.held why status
      → (outcome : Outcome) → IsOutcome command before outcome → Ends before.held after.held outcome status
  stopped_ends why status by (refused r p) outcome is =
      let same = one_outcome command before (stopped (stop.Refused r)) outcome (by.outcome r refl (knows_of command before outcome is)) is in
      subst (λ (o : Outcome). Ends before.held after.held o Refused) same (p, refl)
  stopped_ends why status by (half_refused r p) outcome is =
      let same = one_outcome command before (stopped (stop.Refused r)) outcome (by.outcome r refl (knows_of command before outcome is)) is in
      subst (λ (o : Outcome). Ends before.held after.held o WriteFault) same p
  stopped_ends why status by (not_refused r p) outcome is = (0, omega arith, p)
  stopped_ends why status by (not_read p) outcome is = (0, omega arith, p)
  stopped_ends why status by (no_memory p) outcome is = (0, omega arith, p)

  stopped_caused : (why : Stop) (status : Status) → HowStopped before.held after.held why status → MatchBool (is_read_stop why) (RoseSince before.file_faults after.file_faults) (after.file_faults ≡ before.file_faults)
      → WriteCaused before.output_faults after.output_faults status → Caused command before after status
  stopped_caused why status (refused r p) read wrote = (record { files = read; input = stays.faults }, wrote)
  stopped_caused why status (half_refused r p) read wrote = (record { files = read; input = stays.faults }, wrote)
  stopped_caused why status (not_refused r p) read wrote = (record { files = read; input = stays.faults }, wrote)
  stopped_caused why status (not_read p) read wrote = (inl read, wrote)
  stopped_caused why status (no_memory p) read wrote = (record { files = read; input = stays.faults }, wrote)

  stopped_reading : (why : Stop) (status : Status) → HowStopped before.held after.held why status → IsReadingStatus status
  stopped_reading why status (refused r p) = tt
  stopped_reading why status (half_refused r p) = tt
  stopped_reading why status (not_refused r p) = tt
  stopped_reading why status (not_read p) = tt
  stopped_reading why status (no_memory p) = tt

  wrote_nothing : (why : Stop) (status : Status) → HowStopped before.held after.held why status → status ≡ ReadFault → Appends before.held after.held []
  wrote_nothing why status (refused r p) e = absurd cc
  wrote_nothing why status (half_refused r p) e = absurd cc
  wrote_nothing why status (not_refused r p) e = absurd cc
  wrote_nothing why status (not_read p) e = p
  wrote_nothing why status (no_memory p) e = absurd cc

  -- the files let the run go no further
  pub stopped_run : (why : Stop) (status : Status) → StopsBy command before why → StopsWith before.held after.held why status
      → MatchBool (is_read_stop why) (RoseSince before.file_faults after.file_faults) (after.file_faults ≡ before.file_faults)
      → WriteCaused before.output_faults after.output_faults status → IsRun command before after status
  stopped_run why status by stops read wrote =
      let how = how_stopped before.held after.held why status stops in
      let cause : Caused command before after status = stopped_caused why status how read wrote in
      let outcome : (outcome : Outcome) → IsOutcome command before outcome → Ends before.held after.held outcome status = stopped_ends why status by how in record {
        outcome = outcome;
        answered = λ failed taken rest text was now asked.
            let none = taken_none taken rest before.left after.left was now stays.left in
            let nothing = by.asked text (subst (λ (t : List ℕ). IsAskedFor command before t text) none asked) in
            subst (λ (t : List ℕ). Appends before.held after.held t) (sym nothing) (wrote_nothing why status how failed);
        complete = completes command before after status outcome cause;
        cause = cause;
        input = λ leaves. stays;
        allowed = by.reads status (stopped_reading why status how);
      }

-- what a refusal of the files means for each command
given_refusal : {A : Type 0} (IsGiven : Result A Stop → Type 0) (why : Stop) (refusal : Refusal) → why ≡ stop.Refused refusal → IsToldAs IsGiven (Err why) → IsGiven (Err (stop.Refused refusal))
given_refusal {A = A} IsGiven why refusal e told = subst (λ (w : Stop). IsToldAs {A = A} IsGiven (Err w)) e told

reading_compile : (spec : List ℕ) (status : Status) → IsReadingStatus status → IsStatusFor (Compile spec) status
reading_compile spec Done is = tt
reading_compile spec Refused is = tt
reading_compile spec ReadFault is = tt
reading_compile spec WriteFault is = tt
reading_compile spec Memory is = tt
reading_compile spec Found is = absurd is
reading_compile spec Usage is = absurd is
reading_compile spec Undecided is = absurd is

reading_monitor : (spec bind : List ℕ) (status : Status) → IsReadingStatus status → IsStatusFor (Monitor spec bind) status
reading_monitor spec bind Done is = tt
reading_monitor spec bind Refused is = tt
reading_monitor spec bind ReadFault is = tt
reading_monitor spec bind WriteFault is = tt
reading_monitor spec bind Memory is = tt
reading_monitor spec bind Found is = absurd is
reading_monitor spec bind Usage is = absurd is
reading_monitor spec bind Undecided is = absurd is

pub compile_stops : (spec : List ℕ) (before : World) (why : Stop) → ((text : Option (List ℕ)) → before.file spec ≡ Some text → IsToldAs (IsSoundSpecIn text) (Err why)) → StopsBy (Compile spec) before why
compile_stops spec before why given = record {
  outcome = λ refusal is knows. (Err (stop.Refused refusal), (knows.0, knows.1, given_refusal (IsSoundSpecIn knows.0) why refusal is (given knows.0 knows.1)), refl);
  asked = λ text asked. asked;
  reads = reading_compile spec;
}

pub monitor_stops : (spec bind : List ℕ) (before : World) (why : Stop)
    → ((s b : Option (List ℕ)) → before.file spec ≡ Some s → before.file bind ≡ Some b → IsToldAs (IsDeedIn s b) (Err why)) → StopsBy (Monitor spec bind) before why
monitor_stops spec bind before why given = record {
  outcome = λ refusal is knows. (
    Err (stop.Refused refusal),
    (knows.0.0, knows.1.0, knows.0.1, knows.1.1, given_refusal (IsDeedIn knows.0.0 knows.1.0) why refusal is (given knows.0.0 knows.1.0 knows.0.1 knows.1.1)),
    (knows.2.0, knows.2.1, refl),
  );
  asked = asks_nothing spec bind before;
  reads = reading_monitor spec bind;
}

-- the contract was followed along its log
followed_caused : (spec bind : List ℕ) (before after : World) (status : Status) → IsReadingStatus status → after.file_faults ≡ before.file_faults
    → StreamCaused before.input_faults after.input_faults before.output_faults after.output_faults status → Caused (Monitor spec bind) before after status
followed_caused spec bind before after ReadFault is files cause = (inr (tt, cause.0), cause.1)
followed_caused spec bind before after WriteFault is files cause = (record { files = files; input = cause.0 }, cause.1)
followed_caused spec bind before after Done is files cause = (record { files = files; input = cause.0 }, cause.1)
followed_caused spec bind before after Refused is files cause = (record { files = files; input = cause.0 }, cause.1)
followed_caused spec bind before after Memory is files cause = (record { files = files; input = cause.0 }, cause.1)
followed_caused spec bind before after Found is files cause = absurd is
followed_caused spec bind before after Usage is files cause = absurd is
followed_caused spec bind before after Undecided is files cause = absurd is

pub followed_run : (spec bind : List ℕ) (before after : World) (deed : Deed) (status : Status)
    → ((s b : Option (List ℕ)) → before.file spec ≡ Some s → before.file bind ≡ Some b → IsDeedIn s b (Ok deed))
    → ((log : List ℕ) → before.left ≡ Some log → StreamEnds deed log after.left before.held after.held status)
    → IsReadingStatus status → after.file_faults ≡ before.file_faults
    → StreamCaused before.input_faults after.input_faults before.output_faults after.output_faults status → IsRun (Monitor spec bind) before after status
followed_run spec bind before after deed status given ends is files wrote =
    let cause : Caused (Monitor spec bind) before after status = followed_caused spec bind before after status is files wrote in
    let gives : (s b : Option (List ℕ)) → before.file spec ≡ Some s → before.file bind ≡ Some b → GivesDeed before spec bind (Ok deed) =
    λ s b ks kb. (s, b, ks, kb, given s b ks kb) in
    let outcome : (outcome : Outcome) → IsOutcome (Monitor spec bind) before outcome → Ends before.held after.held outcome status =
    λ outcome is.
    let knows = knows_of (Monitor spec bind) before outcome is in
    let e = (ends knows.2.0 knows.2.1).ends in
    let there : IsOutcome (Monitor spec bind) before e.0 = (Ok deed, gives knows.0.0 knows.1.0 knows.0.1 knows.1.1, (knows.2.0, knows.2.1, e.1)) in
    subst (λ (o : Outcome). Ends before.held after.held o status) (one_outcome (Monitor spec bind) before e.0 outcome there is) e.2 in record {
      outcome = outcome;
      answered = λ failed taken rest text was now asked.
          let all = subst (WroteAllRead before.held after.held (Ok deed) taken) failed ((ends (taken ++ rest) was).all_read taken rest now refl) in
          let there : IsAskedFor (Monitor spec bind) before taken all.0 = (Ok deed, gives asked.1.0 asked.1.1 asked.1.2 asked.1.3, all.1) in
          subst (λ (t : List ℕ). Appends before.held after.held t) (one_asked spec bind before taken all.0 text there asked) all.2;
      complete = completes (Monitor spec bind) before after status outcome cause;
      cause = cause;
      input = λ leaves. absurd (leaves.2 deed (gives leaves.0.0 leaves.1.0 leaves.0.1 leaves.1.1));
      allowed = reading_monitor spec bind status is;
    }
