-- A stream goes on from line to line, and ends.
use Rattle.std.proofs.Common.{◌≡◌, ◌↔◌, ℕ, ◌+◌, List, [], ◌∷◌, ◌++◌, length, take, Bool, true, false, cond, eqb, refl, sym, ap, subst, ◌∙◌, append_assoc, append-nil, arith, None, Some, Ok, Err}
use Rattle.std.proofs.Math.Seq.{take-append-add, take-append_seam}
use Rattle.std.proofs.lemmas.List.{take-append-le, length-append, append_cancel_right}
use Rattle.sy_run.proofs.Replying.{not_both, false_of}
use Rattle.std.proofs.KnownBytes.{Appends-nil, Appends-trans}
use Rattle.std.specs.declared.option.Option.{Option}
use Rattle.std.specs.Io.KnownBytes.{Appends}
use Rattle.std.specs.List.{Contains}
use Rattle.sy_outside.specs.Lines.{lines_of, whole_lines_of, onto_whole, has_newline}
use Rattle.sy_outside.specs.LineReaderState.{LineReaderState, new_line_reader}
use Rattle.sy_outside.specs.Writing.{AppendsPrefix, AppendsProperPrefix}
use Rattle.sy_core.specs.declared.deed.Deed.{Deed}
use Rattle.sy_core.specs.declared.happening.Happening.{Happening}
use Rattle.sy_monitor.specs.Following.{Followed}
use Rattle.sy_run.specs.Output as o
use Rattle.sy_run.specs.Output.{IsAnswered, IsOutput, IsOutputOf, Goes, Stops}
use Rattle.sy_run.specs.Outcomes.{IsAskedByLines, IsMonitored, Outcome, end_of}
use Rattle.sy_run.proofs.Outputs.{has_output}
use Rattle.sy_run.specs.Run.{Ends}
use Rattle.sy_report.specs.RefusalText.{refusal_text}
use Rattle.sy_run.specs.Machine.Replies.{Answers, Refuses, BreaksOff, RepliesNext}
use Rattle.sy_run.specs.Machine.Stream.{SoFar, StreamEnds, StopsWith, WritesReply, AfterLine}
use Rattle.sy_run.specs.declared.stop.Stop.{Stop}
use Rattle.sy_run.specs.declared.stop.Stop.TheVariants as stop
use Rattle.sy_run.specs.declared.status.Status.{Status}
use Rattle.sy_run.specs.declared.status.Status.TheVariants.{Done, Found, Refused, Usage, ReadFault, WriteFault, Memory, Undecided}

-- a text that was appended is a front of a longer one
pub prefix_of : (a b : Option (List ℕ)) (text more : List ℕ) → Appends a b text → AppendsPrefix a b (text ++ more)
prefix_of a b text more p =
    (length text, omega (arith, length-append text more), subst (Appends a b) (sym (take-append_seam text more)) p)

-- so is one of which a proper front was appended after another text
pub prefix_after : (a b c : Option (List ℕ)) (before text more : List ℕ) → Appends a b before → AppendsProperPrefix b c text → AppendsProperPrefix a c (before ++ (text ++ more))
prefix_after a b c before text more p q =
    let front : take (length before + q.0) (before ++ (text ++ more)) ≡ before ++ take q.0 text =
    take-append-add before (text ++ more) q.0 ∙ ap (λ l. before ++ l) (take-append-le q.0 text more (omega (arith, q.1))) in (
      length before + q.0,
      omega (arith, length-append before (text ++ more), length-append text more, q.1),
      subst (Appends a c) (sym front) (Appends-trans a b c before (take q.0 text) p q.2),
    )

-- the whole lines of a line and what comes after it
whole_lines_of-line : (line rest : List ℕ) → has_newline line ≡ false → whole_lines_of (line ++ 10 ∷ rest) ≡ line ∷ whole_lines_of rest
whole_lines_of-line [] rest p = refl
whole_lines_of-line (x ∷ xs) rest p =
    elim (eqb x 10) as (λ b. cond b true (has_newline xs) ≡ false → cond b ([] ∷ whole_lines_of (xs ++ 10 ∷ rest)) (onto_whole x (whole_lines_of (xs ++ 10 ∷ rest))) ≡ (x ∷ xs) ∷ whole_lines_of rest) [
      | true ↦ λ q. absurd (cc)
      | false ↦ λ q. ap (onto_whole x) (whole_lines_of-line xs rest q)
    ] p

-- bytes without a newline have no whole line
whole_lines_of-none : (bytes : List ℕ) → has_newline bytes ≡ false → whole_lines_of bytes ≡ []
whole_lines_of-none [] p = refl
whole_lines_of-none (x ∷ xs) p =
    elim (eqb x 10) as (λ b. cond b true (has_newline xs) ≡ false → cond b ([] ∷ whole_lines_of xs) (onto_whole x (whole_lines_of xs)) ≡ []) [
      | true ↦ λ q. absurd (cc)
      | false ↦ λ q. ap (onto_whole x) (whole_lines_of-none xs q)
    ] p

same_rest : (xs ys : List ℕ) (left : Option (List ℕ)) → left ≡ Some xs → left ≡ Some ys → xs ≡ ys
same_rest xs ys left p q = cc

module _ (deed : Deed) (bytes : List ℕ) (first : Option (List ℕ)) where
  -- the outcome of all has a text, and what was written of it
  abbrev pub EndsIn : Option (List ℕ) → Status → Type 0
  EndsIn new status = (outcome : Outcome) × IsMonitored (Ok deed) bytes outcome × Ends first new outcome status

  abbrev outcome : List ℕ → Bool → Outcome
  outcome text is_refused = record { text = text; end = end_of is_refused }

  module _ (monitor : Followed) (reader : LineReaderState) (left held : Option (List ℕ)) (so : SoFar deed monitor reader bytes left first held) where
    -- the lines that are to come
    abbrev to_come : List (List ℕ)
    to_come = lines_of (reader.held ++ so.rest)

    -- the output of all is what was written and that of what is to come
    all_output : (text : List ℕ) (is_refused : Bool) → IsOutput deed so.noted (reader.given + 1) to_come text is_refused
        → IsMonitored (Ok deed) bytes (outcome (so.piece ++ text) is_refused)
    all_output text is_refused output = (
      so.piece ++ text,
      is_refused,
      subst (λ (lines : List (List ℕ)). IsOutputOf deed lines (so.piece ++ text) is_refused) (sym so.cut) (so.says to_come text is_refused output),
      refl,
    )

    -- the input ended
    pub finished : reader.held ++ so.rest ≡ [] → EndsIn held Done
    finished none =
        let output : IsOutput deed so.noted (reader.given + 1) to_come [] false =
        subst (λ (rest : List ℕ). IsOutput deed so.noted (reader.given + 1) (lines_of rest) [] false) (sym none) (o.ends so.noted (reader.given + 1)) in
        (outcome (so.piece ++ []) false, all_output [] false output, (subst (Appends first held) (sym (append-nil so.piece)) so.appended, refl))

    still : (new : Option (List ℕ)) → Appends held new [] → Appends first new so.piece
    still new p = subst (Appends first new) (append-nil so.piece) (Appends-trans first held new so.piece [] so.appended p)

    abbrev CutOff : Option (List ℕ) → Type 0
    CutOff new = (outcome : Outcome) × IsMonitored (Ok deed) bytes outcome × AppendsPrefix first new outcome.text

    -- memory was wanting, or nothing more was written for another reason
    pub cut_off : (new : Option (List ℕ)) → Appends held new [] → CutOff new
    cut_off new p =
        let rest = has_output deed to_come so.noted (reader.given + 1) in
        (outcome (so.piece ++ rest.0) rest.1, all_output rest.0 rest.1 rest.2, prefix_of first new so.piece rest.0 (still new p))

    module _ (text : List ℕ) (refused : Refuses deed so.noted reader so.rest text) where
      -- the output of all, which ends with the refusal
      refused_output : IsMonitored (Ok deed) bytes (outcome (so.piece ++ text) true)
      refused_output =
          all_output text true
          (subst (λ (lines : List (List ℕ)). IsOutput deed so.noted (reader.given + 1) lines text true) (sym refused.cut)
          (o.stops so.noted (reader.given + 1) refused.line refused.others text refused.stops))

      -- the refusal was written
      pub refused_whole : (new : Option (List ℕ)) → Appends held new text → EndsIn new Refused
      refused_whole new p = (outcome (so.piece ++ text) true, refused_output, (Appends-trans first held new so.piece text so.appended p, refl))

      -- a front of it was written
      pub refused_part : (new : Option (List ℕ)) → AppendsProperPrefix held new text → EndsIn new WriteFault
      refused_part new p = (
        outcome (so.piece ++ text) true,
        refused_output,
        subst (AppendsProperPrefix first new) (ap (λ l. so.piece ++ l) (append-nil text)) (prefix_after first held new so.piece text [] so.appended p),
      )

    abbrev AllRead : Option (List ℕ) → List ℕ → Type 0
    AllRead new taken = (text : List ℕ) × IsAskedByLines (Ok deed) taken text × Appends first new text

    -- a read failed after all that was read was answered
    pub broke_off : (left' : Option (List ℕ)) → BreaksOff reader so.rest left' → (new : Option (List ℕ)) → Appends held new [] → (taken rest : List ℕ) → left' ≡ Some rest
        → bytes ≡ taken ++ rest → AllRead new taken
    broke_off left' broken new p taken rest tells cut =
        let same : rest ≡ broken.after = same_rest rest broken.after left' tells broken.tells in
        let here : bytes ≡ (so.front ++ broken.part) ++ broken.after = so.split broken.open_end ∙ ap (λ l. so.front ++ l) broken.split ∙ sym (append_assoc so.front broken.part broken.after) in
        let is : taken ≡ so.front ++ broken.part = append_cancel_right taken (so.front ++ broken.part) broken.after (ap (λ l. taken ++ l) (sym same) ∙ sym cut ∙ here) in
        let lines : whole_lines_of taken ≡ so.lines ++ [] =
        ap whole_lines_of is ∙ so.whole broken.open_end broken.part ∙ ap (λ l. so.lines ++ l) (whole_lines_of-none broken.part broken.none) in
        let output : IsOutputOf deed (whole_lines_of taken) (so.piece ++ []) false =
        subst (λ (ls : List (List ℕ)). IsOutputOf deed ls (so.piece ++ []) false) (sym lines) (so.says [] [] false (o.ends so.noted (reader.given + 1))) in
        (so.piece ++ [], (false, output), Appends-trans first held new so.piece [] so.appended p)

    module _ (monitor' : Followed) (reader' : LineReaderState) (left' : Option (List ℕ)) (text : List ℕ) (a : Answers deed so.noted monitor' reader reader' so.rest left' text) where
      -- what the line writes, and what comes after it
      line_output : (more : List (List ℕ)) (later : List ℕ) (is_refused : Bool) → IsOutput deed a.reply.noted (reader.given + 1 + 1) more later is_refused
          → IsOutputOf deed ((so.lines ++ a.line ∷ []) ++ more) (so.piece ++ (text ++ later)) is_refused
      line_output more later is_refused output =
          subst (λ (ls : List (List ℕ)). IsOutputOf deed ls (so.piece ++ (text ++ later)) is_refused) (sym (append_assoc so.lines (a.line ∷ []) more))
          (so.says (a.line ∷ more) (text ++ later) is_refused
          (o.goes_on so.noted a.reply.noted (reader.given + 1) a.line more text later is_refused a.reply.given output))

      -- a front of what the line writes was written
      pub answered_part : (new : Option (List ℕ)) → AppendsProperPrefix held new text → EndsIn new WriteFault
      answered_part new p =
          let after = has_output deed (lines_of (reader'.held ++ a.after)) a.reply.noted (reader.given + 1 + 1) in
          let all : lines_of bytes ≡ (so.lines ++ a.line ∷ []) ++ lines_of (reader'.held ++ a.after) =
          so.cut ∙ ap (λ l. so.lines ++ l) a.cut ∙ sym (append_assoc so.lines (a.line ∷ []) (lines_of (reader'.held ++ a.after))) in
          let output : IsOutputOf deed (lines_of bytes) (so.piece ++ (text ++ after.0)) after.1 =
          subst (λ (ls : List (List ℕ)). IsOutputOf deed ls (so.piece ++ (text ++ after.0)) after.1) (sym all)
          (line_output (lines_of (reader'.held ++ a.after)) after.0 after.1 after.2) in (
            outcome (so.piece ++ (text ++ after.0)) after.1,
            (so.piece ++ (text ++ after.0), after.1, output, refl),
            prefix_after first held new so.piece text after.0 so.appended p,
          )

      -- it was written, and the stream goes on
      pub go_on : reader'.given ≡ reader.given + 1 → (new : Option (List ℕ)) → Appends held new text → SoFar deed monitor' reader' bytes left' first new
      go_on count new p =
          let earlier : reader'.ended ≡ false → reader.ended ≡ false = λ going. false_of reader.ended (λ t. not_both reader'.ended going (a.stays t)) in
          let joined : (more : List ℕ) → (so.front ++ (a.line ++ 10 ∷ [])) ++ more ≡ so.front ++ (a.line ++ 10 ∷ more) =
          λ more. append_assoc so.front (a.line ++ 10 ∷ []) more ∙ ap (λ l. so.front ++ l) (append_assoc a.line (10 ∷ []) more) in record {
            rest = a.after;
            tells = a.tells;
            synced = a.synced;
            noted = a.reply.noted;
            follows = a.reply.follows;
            lines = so.lines ++ a.line ∷ [];
            cut = so.cut ∙ ap (λ l. so.lines ++ l) a.cut ∙ sym (append_assoc so.lines (a.line ∷ []) (lines_of (reader'.held ++ a.after)));
            piece = so.piece ++ text;
            appended = Appends-trans first held new so.piece text so.appended p;
            says = λ more later is_refused output.
                subst (λ (t : List ℕ). IsOutputOf deed ((so.lines ++ a.line ∷ []) ++ more) t is_refused) (sym (append_assoc so.piece text later))
                (line_output more later is_refused
                (subst (λ (n : ℕ). IsOutput deed a.reply.noted (n + 1) more later is_refused) count output));
            front = so.front ++ (a.line ++ 10 ∷ []);
            split = λ going.
                so.split (earlier going) ∙ ap (λ l. so.front ++ l) (a.whole going) ∙ sym (joined (reader'.held ++ a.after));
            whole = λ going more.
                ap whole_lines_of (joined more) ∙ so.whole (earlier going) (a.line ++ 10 ∷ more)
                ∙ ap (λ l. so.lines ++ l) (whole_lines_of-line a.line more a.one)
                ∙ sym (append_assoc so.lines (a.line ∷ []) (whole_lines_of more));
          }

      -- what is answered to the line was written, or a front of it
      pub answered : (result : Option Status) → reader'.given ≡ reader.given + 1 → (new : Option (List ℕ)) → WritesReply held new text result → AfterLine deed monitor' reader' bytes left' first new result
      answered None count new p = go_on count new p
      answered (Some WriteFault) count new p = record { ends = answered_part new p; all_read = λ taken rest t c. tt }
      answered (Some Done) count new p = absurd p
      answered (Some Found) count new p = absurd p
      answered (Some Refused) count new p = absurd p
      answered (Some Usage) count new p = absurd p
      answered (Some ReadFault) count new p = absurd p
      answered (Some Memory) count new p = absurd p
      answered (Some Undecided) count new p = absurd p

    -- the stream goes no further
    pub stopped : (monitor' : Followed) (reader' : LineReaderState) (left' : Option (List ℕ)) (why : Stop) (status : Status) (new : Option (List ℕ))
        → RepliesNext deed so.noted monitor' reader reader' so.rest left' (Err why) → StopsWith held new why status → StreamEnds deed bytes left' first new status
    stopped monitor' reader' left' (stop.Refused r) Refused new told p = record { ends = refused_whole (refusal_text r) told new p; all_read = λ taken rest t c. tt }
    stopped monitor' reader' left' (stop.Refused r) WriteFault new told p = record { ends = refused_part (refusal_text r) told new p; all_read = λ taken rest t c. tt }
    stopped monitor' reader' left' (stop.Refused r) Memory new told p = record { ends = cut_off new p; all_read = λ taken rest t c. tt }
    stopped monitor' reader' left' (stop.Refused r) Done new told p = absurd p
    stopped monitor' reader' left' (stop.Refused r) Found new told p = absurd p
    stopped monitor' reader' left' (stop.Refused r) Usage new told p = absurd p
    stopped monitor' reader' left' (stop.Refused r) ReadFault new told p = absurd p
    stopped monitor' reader' left' (stop.Refused r) Undecided new told p = absurd p
    stopped monitor' reader' left' stop.ReadFault ReadFault new told p = record { ends = cut_off new p; all_read = broke_off left' told new p }
    stopped monitor' reader' left' stop.ReadFault Done new told p = absurd p
    stopped monitor' reader' left' stop.ReadFault Found new told p = absurd p
    stopped monitor' reader' left' stop.ReadFault Refused new told p = absurd p
    stopped monitor' reader' left' stop.ReadFault Usage new told p = absurd p
    stopped monitor' reader' left' stop.ReadFault WriteFault new told p = absurd p
    stopped monitor' reader' left' stop.ReadFault Memory new told p = absurd p
    stopped monitor' reader' left' stop.ReadFault Undecided new told p = absurd p
    stopped monitor' reader' left' stop.Memory Memory new told p = record { ends = cut_off new p; all_read = λ taken rest t c. tt }
    stopped monitor' reader' left' stop.Memory Done new told p = absurd p
    stopped monitor' reader' left' stop.Memory Found new told p = absurd p
    stopped monitor' reader' left' stop.Memory Refused new told p = absurd p
    stopped monitor' reader' left' stop.Memory Usage new told p = absurd p
    stopped monitor' reader' left' stop.Memory ReadFault new told p = absurd p
    stopped monitor' reader' left' stop.Memory WriteFault new told p = absurd p
    stopped monitor' reader' left' stop.Memory Undecided new told p = absurd p

-- nothing was read yet
pub begins : (monitor : Followed) (reader : LineReaderState) (bytes : List ℕ) (left held : Option (List ℕ)) → reader ≡ new_line_reader → left ≡ Some bytes
    → monitor.happened ≡ [] → SoFar monitor.deed monitor reader bytes left held held
begins monitor reader bytes left held new tells empty =
    let none : reader.held ++ bytes ≡ bytes = ap (λ r. r.held ++ bytes) new in record {
      rest = bytes;
      tells = tells;
      synced = λ t. absurd (not_both reader.ended (ap (λ r. r.ended) new) t);
      noted = [];
      follows = record {
        keeps = refl;
        same = λ h. subst (λ (hs : List Happening). Contains hs h ↔ Contains [] h) (sym empty) (λ c. c, λ c. c);
        counted = ap length empty;
      };
      lines = [];
      cut = ap lines_of (sym none);
      piece = [];
      appended = Appends-nil held;
      says = λ more text is_refused output. subst (λ (r : LineReaderState). IsOutput monitor.deed [] (r.given + 1) more text is_refused) new output;
      front = [];
      split = λ going. sym none;
      whole = λ going more. refl;
    }

-- nothing was written
pub not_begun : (deed : Deed) (bytes : List ℕ) (left held : Option (List ℕ)) → StreamEnds deed bytes left held held Memory
not_begun deed bytes left held =
    let all = has_output deed (lines_of bytes) [] 1 in record {
      ends = (record { text = all.0; end = end_of all.1 }, (all.0, all.1, all.2, refl), prefix_of held held [] all.0 (Appends-nil held));
      all_read = λ taken rest t c. tt;
    }
