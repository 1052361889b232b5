-- What a monitor holds as happenings are noted.
use Rattle.std.proofs.Common.{◌≡◌, ◌↔◌, ◌⊎◌, inl, inr, ℕ, ◌+◌, ◌^◌, ◌≤◌, ℤ, ◌≤ℤ◌, List, [], ◌∷◌, ◌++◌, length, Result, Ok, Err, refl, sym, ap, subst, ◌∙◌, arith}
use Rattle.std.specs.List.{Contains}
use Rattle.std.proofs.lemmas.Int.{ints}
use Rattle.std.proofs.lemmas.List.{length-append}
use Rattle.sy_core.specs.declared.deed.Deed.{Deed}
use Rattle.sy_core.specs.declared.happening.Happening.{Happening}
use Rattle.sy_core.specs.Tables.{table_as_of}
use Rattle.sy_core.proofs.Members.{Among, among, contained}
use Rattle.sy_base.specs.declared.refusal.FaultName.{FaultName}
use Rattle.sy_base.specs.declared.refusal.FaultName.TheVariants.{TooMany}
use Rattle.sy_base.specs.declared.refusal.Refusal.{Refusal}
use Rattle.sy_base.specs.declared.refusal.Refused.{Refused}
use Rattle.sy_base.specs.declared.refusal.Refused.TheVariants as R
use Rattle.sy_story.specs.declared.story.Noted.{Noted as WhatIsNew}
use Rattle.sy_story.specs.declared.story.Noted.TheVariants.{New, Known}
use Rattle.sy_story.specs.declared.story.StoryFault.TheVariants as F
use Rattle.sy_story.specs.Narratives.{Narrative, Noting, HasOneMore}
use Rattle.sy_log.specs.declared.read.Entry.{Entry}
use Rattle.sy_log.specs.declared.read.Entry.TheVariants.{Noted}
use Rattle.sy_log.specs.Entries.{IsAnswer, IsEntry}
use Rattle.sy_report.specs.RefusalText.{refusal_text}
use Rattle.sy_report.specs.ReportText.{report_text}
use Rattle.sy_monitor.specs.Following.{Followed, narrative_of}
use Rattle.sy_monitor.proofs.SameHappenings.{tables_same}
use Rattle.sy_run.specs.Output as o
use Rattle.sy_run.specs.Output.{Goes, IsAnswered, IsReply, Reply, Stops, refused}
use Rattle.sy_run.specs.Machine.Replies.{Follows, IsTextOf, Replies}
use Rattle.sy_run.specs.Machine.Stopping.{stop_of}
use Rattle.sy_run.specs.declared.stop.Stop.{Stop}
use Rattle.sy_run.specs.declared.stop.Stop.TheVariants as S

among_left : (xs : List Happening) (x h : Happening) → Among xs h → Among (xs ++ x ∷ []) h
among_left [] x h a = absurd a
among_left (y ∷ ys) x h (inl e) = inl e
among_left (y ∷ ys) x h (inr a) = inr (among_left ys x h a)

among_last : (xs : List Happening) (x : Happening) → Among (xs ++ x ∷ []) x
among_last [] x = inl refl
among_last (y ∷ ys) x = inr (among_last ys x)

among_either : (xs : List Happening) (x h : Happening) → Among (xs ++ x ∷ []) h → Among xs h ⊎ (x ≡ h)
among_either [] x h (inl e) = inr e
among_either [] x h (inr a) = absurd a
among_either (y ∷ ys) x h (inl e) = inl (inl e)
among_either (y ∷ ys) x h (inr a) = elim (among_either ys x h a) [ inl b ↦ inl (inr b) | inr e ↦ inr e ]

module _ (old new : Followed) (deed : Deed) (noted : List Happening) (h : Happening) (follows : Follows old deed noted) where
  -- a new one
  joined : HasOneMore old.happened h new.happened → new.deed ≡ old.deed → Follows new deed (noted ++ h ∷ [])
  joined more same = record {
    keeps = same ∙ follows.keeps;
    same = λ k. (
      λ c. elim ((more.members k).0 c) [
        | inl b ↦ contained (noted ++ h ∷ []) k (among_left noted h k (among noted k ((follows.same k).0 b)))
        | inr e ↦ subst (Contains (noted ++ h ∷ [])) (sym e) (contained (noted ++ h ∷ []) h (among_last noted h))
      ],
      λ c. (more.members k).1 (elim (among_either noted h k (among (noted ++ h ∷ []) k c)) [
        | inl b ↦ inl ((follows.same k).1 (contained noted k b))
        | inr e ↦ inr (sym e)
      ]),
    );
    counted = more.count ∙ ap (λ n. n + 1) follows.counted ∙ sym (length-append noted (h ∷ []));
  }

  absent : (Contains old.happened h → ⊥) → Contains noted h → ⊥
  absent never c = never ((follows.same h).1 c)

  -- nothing new
  unchanged : narrative_of new ≡ narrative_of old → new.deed ≡ old.deed → Follows new deed noted
  unchanged stays same =
      let held : new.happened ≡ old.happened = ap (λ (n : Narrative). n.happenings) stays in record {
        keeps = same ∙ follows.keeps;
        same = λ k. subst (λ (hs : List Happening). Contains hs k ↔ Contains noted k) (sym held) (follows.same k);
        counted = ap length held ∙ follows.counted;
      }

  module _ (number : ℕ) (same : new.deed ≡ old.deed) where
    abbrev Given : Reply → Type 0
    Given = IsReply deed noted number (Ok (Noted h))

    pub is_noted : (found : WhatIsNew) → Noting (narrative_of old) h (narrative_of new) (Ok found) → IsTextOf new deed Given []
    is_noted New noting = record {
      noted = noted ++ h ∷ [];
      given = o.new h (absent noting.0.absent) (omega (arith, noting.1, follows.counted));
      follows = joined noting.2.more same;
    }
    is_noted Known noting = record {
      noted = noted;
      given = o.known h ((follows.same h).0 noting.0);
      follows = unchanged noting.1 same;
    }

    pub is_full : Noting (narrative_of old) h (narrative_of new) (Err F.TooMany) → Given (refused number TooMany)
    is_full noting = o.too_many h (absent noting.0.absent) (omega (arith, noting.1, follows.counted))

pub isnt_early : (old new : Followed) (h : Happening) → old.deed.start ≤ℤ h.point → Noting (narrative_of old) h (narrative_of new) (Err F.TooEarly) → ⊥
isnt_early old new h timely noting = absurd (omega (arith, ints, noting.0, timely))

-- the report of what a monitor follows is that of what was noted
pub reported : (followed : Followed) (deed : Deed) (noted : List Happening) (date : ℤ) → Follows followed deed noted
    → report_text followed.deed (table_as_of followed.deed followed.happened date) ≡ report_text deed (table_as_of deed noted date)
reported followed deed noted date follows =
    ap (λ (d : Deed). report_text d (table_as_of d followed.happened date)) follows.keeps
    ∙ ap (report_text deed) (tables_same followed.happened noted follows.same deed date)

module _ (monitor : Followed) (deed : Deed) (noted : List Happening) (number : ℕ) (line : List ℕ) (few : number ≤ 2 ^ 32) (short : length line ≤ 4096) where
  -- what is answered to what a line says is answered to the line
  pub answered_by : (said : Result Entry FaultName) → IsEntry deed line said → (result : Result (List ℕ) Stop)
      → Replies monitor deed (IsReply deed noted number said) result → Replies monitor deed (IsAnswered deed noted number line) result
  answered_by said entry (Ok text) replies = record {
    noted = replies.noted;
    given = (said, o.says said few short entry, replies.given);
    follows = replies.follows;
  }
  answered_by said entry (Err (S.Refused refusal)) replies = (said, o.says said few short entry, replies)
  answered_by said entry (Err S.ReadFault) replies = absurd replies
  answered_by said entry (Err S.Memory) replies = tt

  pub refused_by : (why : Refused) → IsAnswer deed number line (Err why) → Replies monitor deed (IsAnswered deed noted number line) (Err (stop_of why))
  refused_by R.Memory answer = tt
  refused_by (R.Refusal refusal) answer =
      subst (λ (r : Refusal). IsAnswered deed noted number line (Stops (refusal_text r))) (sym answer.2)
      (Err answer.0, o.says (Err answer.0) few short answer.1, o.fault answer.0)
