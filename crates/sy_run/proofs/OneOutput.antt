-- A log has one output at most.
use Rattle.std.proofs.Common.{◌≡◌, ℕ, ◌+◌, Bool, List, ◌++◌, Result, refl, ap, subst, arith}
use Rattle.sy_base.specs.declared.refusal.FaultName.{FaultName}
use Rattle.sy_core.specs.declared.deed.Deed.{Deed}
use Rattle.sy_core.specs.declared.happening.Happening.{Happening}
use Rattle.sy_log.specs.declared.read.Entry.{Entry}
use Rattle.sy_log.proofs.Telling.{one_entry}
use Rattle.sy_run.specs.Output as o
use Rattle.sy_run.specs.Output.{Goes, IsAnswered, IsOutput, IsReply, Reply, Says, Stops}

says_one : (deed : Deed) (number : ℕ) (line : List ℕ) (a b : Result Entry FaultName) → Says deed number line a → Says deed number line b → a ≡ b
says_one deed number line a b (o.too_many_lines many) (o.too_many_lines many') = refl
says_one deed number line a b (o.too_many_lines many) (o.too_long few long) = absurd (omega arith)
says_one deed number line a b (o.too_many_lines many) (o.says said few short e) = absurd (omega arith)
says_one deed number line a b (o.too_long few long) (o.too_many_lines many) = absurd (omega arith)
says_one deed number line a b (o.too_long few long) (o.too_long few' long') = refl
says_one deed number line a b (o.too_long few long) (o.says said few' short e) = absurd (omega arith)
says_one deed number line a b (o.says said few short e) (o.too_many_lines many) = absurd (omega arith)
says_one deed number line a b (o.says said few short e) (o.too_long few' long) = absurd (omega arith)
says_one deed number line a b (o.says said few short e) (o.says said' few' short' e') = one_entry deed line said said' e e'

module _ (deed : Deed) (noted : List Happening) (number : ℕ) where
  replies_one : (said : Result Entry FaultName) (a b : Reply) → IsReply deed noted number said a → IsReply deed noted number said b → a ≡ b
  replies_one said a b o.blank o.blank = refl
  replies_one said a b (o.known h there) (o.known h' there') = refl
  replies_one said a b (o.known h there) (o.new h' news few) = absurd (news there)
  replies_one said a b (o.known h there) (o.too_many h' news many) = absurd (news there)
  replies_one said a b (o.new h news few) (o.known h' there) = absurd (news there)
  replies_one said a b (o.new h news few) (o.new h' news' few') = refl
  replies_one said a b (o.new h news few) (o.too_many h' news' many) = absurd (omega arith)
  replies_one said a b (o.too_many h news many) (o.known h' there) = absurd (news there)
  replies_one said a b (o.too_many h news many) (o.new h' news' few) = absurd (omega arith)
  replies_one said a b (o.too_many h news many) (o.too_many h' news' many') = refl
  replies_one said a b (o.report date) (o.report date') = refl
  replies_one said a b (o.fault name) (o.fault name') = refl

  answers_one : (line : List ℕ) (a b : Reply) → IsAnswered deed noted number line a → IsAnswered deed noted number line b → a ≡ b
  answers_one line a b x y =
      let same = says_one deed number line x.0 y.0 x.1 y.1 in
      replies_one y.0 a b (subst (λ (said : Result Entry FaultName). IsReply deed noted number said a) same x.2) y.2

text_of : Reply → List ℕ
text_of (Goes text noted) = text
text_of (Stops text) = text

noted_by : List Happening → Reply → List Happening
noted_by noted (Goes text more) = more
noted_by noted (Stops text) = noted

-- two outputs are the same
abbrev pub Same : List ℕ → Bool → List ℕ → Bool → Type 0
Same t r t' r' = (t ≡ t') × (r ≡ r')

pub one_output : (deed : Deed) (noted : List Happening) (number : ℕ) (lines : List (List ℕ)) (t t' : List ℕ) (r r' : Bool)
    → IsOutput deed noted number lines t r → IsOutput deed noted number lines t' r' → Same t r t' r'
unfolding text_of noted_by
one_output deed noted number lines t t' r r' (o.ends _ _) (o.ends _ _) = (refl, refl)
one_output deed noted number lines t t' r r' (o.goes_on _ more _ line ls text later is a output) (o.goes_on _ more' _ line' ls' text' later' is' a' output') =
    let same = answers_one deed noted number line (Goes text more) (Goes text' more') a a' in
    let texts : text ≡ text' = ap text_of same in
    let mores : more ≡ more' = ap (noted_by noted) same in
    let rest = one_output deed more' (number + 1) ls later later' is is' (subst (λ (n : List Happening). IsOutput deed n (number + 1) ls later is) mores output) output' in
    (λ i. texts i ++ rest.0 i, rest.1)
one_output deed noted number lines t t' r r' (o.goes_on _ more _ line ls text later is a output) (o.stops _ _ line' ls' text' a') =
    let same = answers_one deed noted number line (Goes text more) (Stops text') a a' in absurd cc
one_output deed noted number lines t t' r r' (o.stops _ _ line ls text a) (o.goes_on _ more' _ line' ls' text' later' is' a' output') =
    let same = answers_one deed noted number line (Stops text) (Goes text' more') a a' in absurd cc
one_output deed noted number lines t t' r r' (o.stops _ _ line ls text a) (o.stops _ _ line' ls' text' a') =
    (ap text_of (answers_one deed noted number line (Stops text) (Stops text') a a'), refl)
