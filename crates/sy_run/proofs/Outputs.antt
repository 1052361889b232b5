-- Each log has an output.
use Rattle.std.proofs.Common.{◌≡◌, ◌⊎◌, inl, inr, ℕ, ◌+◌, ◌^◌, ◌<◌, ◌≤◌, nat_lt, Bool, true, false, List, [], ◌∷◌, ◌++◌, length, Result, Ok, Err, refl, subst, sym, arith}
use Rattle.std.specs.List.{Contains, list_any}
use Rattle.std.proofs.lemmas.Bool.Decides.{nat_tests}
use Rattle.sy_base.specs.declared.refusal.FaultName.{FaultName}
use Rattle.sy_base.specs.declared.refusal.FaultName.TheVariants.{TooLong, TooMany, TooManyLines}
use Rattle.sy_core.specs.declared.deed.Deed.{Deed}
use Rattle.sy_core.specs.declared.happening.Happening.{Happening}
use Rattle.sy_core.specs.Tables.{table_as_of}
use Rattle.sy_core.specs.contracts.happening.HappeningPartialEq.TheImpl as compared
use Rattle.sy_core.proofs.Equal.{happening_Decides}
use Rattle.sy_core.proofs.Members.{Among, among, contained}
use Rattle.sy_quiet.proofs.Members.{any_in, some_in}
use Rattle.sy_log.specs.declared.read.Entry.{Entry}
use Rattle.sy_log.specs.declared.read.Entry.TheVariants.{Blank, Noted, Report}
use Rattle.sy_log.proofs.Saying.{each_line_says}
use Rattle.sy_report.specs.ReportText.{report_text}
use Rattle.sy_run.specs.Output as o
use Rattle.sy_run.specs.Output.{Goes, IsAnswered, IsOutput, IsReply, Reply, Says, Stops, refused}

abbrev happening_eq : Happening → Happening → Bool
happening_eq = compared.eq-value.it

below_or_not : (a b : ℕ) → (a < b) ⊎ (b ≤ a)
below_or_not a b = by (nat_lt a b) refl
  where
    by : (test : Bool) → nat_lt a b ≡ test → (a < b) ⊎ (b ≤ a)
    by true is = inl (grind (arith, nat_tests))
    by false is = inr (grind (arith, nat_tests))

-- a happening is noted, or it isn't
noted_or_not : (noted : List Happening) (h : Happening) → Contains noted h ⊎ (Contains noted h → ⊥)
noted_or_not noted h = by (list_any (happening_eq h) noted) refl
  where
    by : (test : Bool) → list_any (happening_eq h) noted ≡ test → Contains noted h ⊎ (Contains noted h → ⊥)
    by true is =
        let some = some_in (happening_eq h) noted is in
        inl (contained noted h (subst (Among noted) (sym ((happening_Decides h some.0).0 some.2)) some.1))
    by false is =
        inr (λ c. let there = any_in (happening_eq h) noted h (among noted h c) ((happening_Decides h h).1 refl) in absurd cc)

module _ (deed : Deed) (noted : List Happening) (number : ℕ) where
  abbrev Replied : Result Entry FaultName → Type 0
  Replied said = (reply : Reply) × IsReply deed noted number said reply

  told : (h : Happening) → Contains noted h ⊎ (Contains noted h → ⊥) → (length noted < 200000) ⊎ (200000 ≤ length noted) → Replied (Ok (Noted h))
  told h (inl there) room = (Goes [] noted, o.known h there)
  told h (inr news) (inl few) = (Goes [] (noted ++ h ∷ []), o.new h news few)
  told h (inr news) (inr many) = (refused number TooMany, o.too_many h news many)

  replied : (said : Result Entry FaultName) → Replied said
  replied (Ok Blank) = (Goes [] noted, o.blank)
  replied (Ok (Noted h)) = told h (noted_or_not noted h) (below_or_not (length noted) 200000)
  replied (Ok (Report date)) = (Goes (report_text deed (table_as_of deed noted date)) noted, o.report date)
  replied (Err name) = (refused number name, o.fault name)

says_something : (deed : Deed) (number : ℕ) (line : List ℕ) → (said : Result Entry FaultName) × Says deed number line said
says_something deed number line = by (below_or_not (2 ^ 32) number) (below_or_not 4096 (length line))
  where
    by : (2 ^ 32 < number) ⊎ (number ≤ 2 ^ 32) → (4096 < length line) ⊎ (length line ≤ 4096) → (said : Result Entry FaultName) × Says deed number line said
    by (inl many) _ = (Err TooManyLines, o.too_many_lines many)
    by (inr few) (inl long) = (Err TooLong, o.too_long few long)
    by (inr few) (inr short) = let e = each_line_says deed line in (e.0, o.says e.0 few short e.1)

-- each line has a reply
pub is_answered : (deed : Deed) (noted : List Happening) (number : ℕ) (line : List ℕ) → (reply : Reply) × IsAnswered deed noted number line reply
is_answered deed noted number line =
    let said = says_something deed number line in
    let reply = replied deed noted number said.0 in
    (reply.0, (said.0, said.1, reply.1))

abbrev HasOutput : Deed → List Happening → ℕ → List (List ℕ) → Type 0
HasOutput deed noted number lines = (text : List ℕ) × (is_refused : Bool) × IsOutput deed noted number lines text is_refused

pub has_output : (deed : Deed) (lines : List (List ℕ)) (noted : List Happening) (number : ℕ) → HasOutput deed noted number lines
has_output deed [] noted number = ([], false, o.ends noted number)
has_output deed (line ∷ lines) noted number = by (is_answered deed noted number line) (λ more. has_output deed lines more (number + 1))
  where
    by : (reply : Reply) × IsAnswered deed noted number line reply → ((more : List Happening) → HasOutput deed more (number + 1) lines)
        → HasOutput deed noted number (line ∷ lines)
    by (Goes text more, a) later =
        let rest = later more in
        (text ++ rest.0, rest.1, o.goes_on noted more number line lines text rest.0 rest.1 a rest.2)
    by (Stops text, a) later = (text, true, o.stops noted number line lines text a)
