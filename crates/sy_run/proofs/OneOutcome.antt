-- Where the bytes are known of all that a command reads, it has one outcome.
use Rattle.std.proofs.Common.{◌≡◌, ◌⊎◌, inl, inr, ℕ, List, [], take, refl, sym, ap, subst, ◌∙◌, Some, Ok, Err, Result}
use Rattle.std.specs.declared.option.Option.{Option}
use Rattle.sy_base.specs.declared.refusal.FileKind.{FileKind}
use Rattle.sy_base.specs.declared.refusal.FileKind.TheVariants.{Spec, Bind}
use Rattle.sy_base.specs.declared.refusal.Refusal.{Refusal}
use Rattle.sy_base.specs.declared.refusal.Refused.TheVariants as R
use Rattle.sy_core.specs.declared.deed.Deed.{Deed}
use Rattle.sy_lex.specs.declared.token.Token.{Token}
use Rattle.sy_lex.specs.Lexemes.{Lexeme, lexemes_of}
use Rattle.sy_lex.specs.Tokens as text
use Rattle.sy_lex.specs.Tokens.{lex_fault}
use Rattle.sy_lex.proofs.Whole.{at_most_one}
use Rattle.sy_lex.proofs.Faults as lex
use Rattle.sy_reader.specs.Faults.{IsSyntaxFault}
use Rattle.sy_reader.proofs.PlacesFaults.{one_refusal}
use Rattle.sy_spec.specs.declared.contract.SpecTree.{SpecTree}
use Rattle.sy_spec.specs.Spelling.{SpellsSpec}
use Rattle.sy_spec.proofs.Agreeing.{one_spec, spec_or_fault}
use Rattle.sy_binding.specs.Spelling.{SpellsBinding}
use Rattle.sy_binding.proofs.Agreeing.{one_binding, binding_or_fault}
use Rattle.sy_outside.specs.Lines.{lines_of, whole_lines_of}
use Rattle.sy_run.specs.Commands.{Command, Compile, Monitor, Unknown}
use Rattle.sy_run.specs.Outcomes.{GivesDeed, GivesSpec, IsAskedByLines, IsAskedFor, IsMonitored, IsOutcome, Outcome, compiled, end_of, stopped, usage}
use Rattle.sy_run.specs.Output as o
use Rattle.sy_run.specs.Run.{KnowsFor}
use Rattle.sy_run.specs.Texts.{IsDeedIn, IsDeedOf, IsSoundSpecIn, IsTree, IsTreeOf, no_tokens, no_tree, one_tree, bound, bytes_in, checked}
use Rattle.sy_run.specs.World.{World}
use Rattle.sy_run.specs.declared.stop.Stop.{Stop}
use Rattle.sy_run.specs.declared.stop.Stop.TheVariants as stop
use Rattle.sy_run.proofs.OneOutput.{one_output}
use Rattle.sy_run.proofs.Outputs.{has_output}

-- a text gives one tree or one refusal
module _ {A : Type 0} (file : FileKind) (spells : A → List Lexeme → Type 0) where
  module _ (one : (t u : A) (lexemes : List Lexeme) → spells t lexemes → spells u lexemes → t ≡ u) where
    one_tree_of : (bytes : List ℕ) (x y : Result A Stop) → IsTree file spells bytes x → IsTree file spells bytes y → x ≡ y
    one_tree_of bytes x y (no_tokens _ r f) (no_tokens _ r' f') = ap (λ (w : Refusal). Err (stop.Refused w)) (lex.one_refusal bytes file r r' f f')
    one_tree_of bytes x y (no_tokens _ r f) (no_tree _ ts r' has f') = absurd (f.1.none ts has)
    one_tree_of bytes x y (no_tokens _ r f) (one_tree _ ts t has d) = absurd (f.1.none ts has)
    one_tree_of bytes x y (no_tree _ ts r has f) (no_tokens _ r' f') = absurd (f'.1.none ts has)
    one_tree_of bytes x y (no_tree _ ts r has f) (no_tree _ ts' r' has' f') =
        let there = subst (λ (us : List Token). IsSyntaxFault file spells bytes us (R.Refusal r)) (at_most_one ts ts' bytes has has') f in
        ap (λ (w : Refusal). Err (stop.Refused w)) (one_refusal file spells bytes ts' r r' there f')
    one_tree_of bytes x y (no_tree _ ts r has f) (one_tree _ ts' t has' d) =
        absurd (f.1.none t (subst (λ (us : List Token). spells t (lexemes_of bytes us)) (sym (at_most_one ts ts' bytes has has')) d))
    one_tree_of bytes x y (one_tree _ ts t has d) (no_tokens _ r f) = absurd (f.1.none ts has)
    one_tree_of bytes x y (one_tree _ ts t has d) (no_tree _ ts' r has' f) =
        absurd (f.1.none t (subst (λ (us : List Token). spells t (lexemes_of bytes us)) (at_most_one ts ts' bytes has has') d))
    one_tree_of bytes x y (one_tree _ ts t has d) (one_tree _ ts' t' has' d') =
        let there = subst (λ (us : List Token). spells t (lexemes_of bytes us)) (at_most_one ts ts' bytes has has') d in
        ap (λ (u : A). Ok u) (one t t' (lexemes_of bytes ts') there d')

    one_in : (bytes : Result (List ℕ) Stop) (x y : Result A Stop) → IsTreeOf file spells bytes x → IsTreeOf file spells bytes y → x ≡ y
    one_in (Ok bytes) x y p q = one_tree_of bytes x y p q
    one_in (Err why) x y p q = p ∙ sym q

  module _ (or_fault : (source : List ℕ) (tokens : List Token) → ((tree : A) × spells tree (lexemes_of source tokens)) ⊎ ((refusal : Refusal) × IsSyntaxFault file spells source tokens (R.Refusal refusal))) where
    some_tree : (bytes : List ℕ) → (x : Result A Stop) × IsTree file spells bytes x
    some_tree bytes = elim (lex.text_or_fault bytes) [
      | inl has ↦ elim (or_fault bytes has.0) [
        | inl tree ↦ (Ok tree.0, one_tree bytes has.0 tree.0 has.1 tree.1)
        | inr fault ↦ (Err (stop.Refused fault.0), no_tree bytes has.0 fault.0 has.1 fault.1)
      ]
      | inr fault ↦
          let refusal = lex_fault file (text.end_of (take fault.0 bytes)) in
          (Err (stop.Refused refusal), no_tokens bytes refusal (fault.0, fault.1, refl))
    ]

    some_in : (bytes : Result (List ℕ) Stop) → (x : Result A Stop) × IsTreeOf file spells bytes x
    some_in (Ok bytes) = some_tree bytes
    some_in (Err why) = (Err why, refl)

-- two files give one deed or one way to stop
one_sound_spec : (told : Option (List ℕ)) (x y : Result SpecTree Stop) → IsSoundSpecIn told x → IsSoundSpecIn told y → x ≡ y
one_sound_spec told x y p q = p.2 ∙ (ap checked (one_in Spec SpellsSpec one_spec (bytes_in Spec told) p.0 q.0 p.1 q.1) ∙ sym q.2)

some_sound_spec : (told : Option (List ℕ)) → (x : Result SpecTree Stop) × IsSoundSpecIn told x
some_sound_spec told =
    let there = some_in Spec SpellsSpec (spec_or_fault) (bytes_in Spec told) in
    (checked there.0, (there.0, there.1, refl))

one_deed_of : (spec : Result SpecTree Stop) (told : Option (List ℕ)) (x y : Result Deed Stop) → IsDeedOf spec told x → IsDeedOf spec told y → x ≡ y
one_deed_of (Ok spec) told x y p q = p.2 ∙ (ap (bound spec) (one_in Bind SpellsBinding one_binding (bytes_in Bind told) p.0 q.0 p.1 q.1) ∙ sym q.2)
one_deed_of (Err why) told x y p q = p ∙ sym q

some_deed_of : (spec : Result SpecTree Stop) (told : Option (List ℕ)) → (x : Result Deed Stop) × IsDeedOf spec told x
some_deed_of (Ok spec) told =
    let there = some_in Bind SpellsBinding (binding_or_fault) (bytes_in Bind told) in
    (bound spec there.0, (there.0, there.1, refl))
some_deed_of (Err why) told = (Err why, refl)

one_deed_in : (spec bind : Option (List ℕ)) (x y : Result Deed Stop) → IsDeedIn spec bind x → IsDeedIn spec bind y → x ≡ y
one_deed_in spec bind x y p q =
    let same = one_sound_spec spec p.0 q.0 p.1 q.1 in
    one_deed_of q.0 bind x y (subst (λ (s : Result SpecTree Stop). IsDeedOf s bind x) same p.2) q.2

some_deed_in : (spec bind : Option (List ℕ)) → (x : Result Deed Stop) × IsDeedIn spec bind x
some_deed_in spec bind =
    let tree = some_sound_spec spec in
    let deed = some_deed_of tree.0 bind in
    (deed.0, (tree.0, tree.1, deed.1))

-- what is known is one thing
one_known : {B : Type 0} (x : Option B) (a b : B) → x ≡ Some a → x ≡ Some b → a ≡ b
one_known x a b p q = cc

module _ (world : World) where
  one_given_spec : (spec : List ℕ) (x y : Result SpecTree Stop) → GivesSpec world spec x → GivesSpec world spec y → x ≡ y
  one_given_spec spec x y p q =
      let same = one_known (world.file spec) p.0 q.0 p.1 q.1 in
      one_sound_spec q.0 x y (subst (λ (t : Option (List ℕ)). IsSoundSpecIn t x) same p.2) q.2

  pub one_given_deed : (spec bind : List ℕ) (x y : Result Deed Stop) → GivesDeed world spec bind x → GivesDeed world spec bind y → x ≡ y
  one_given_deed spec bind x y p q =
      let specs = one_known (world.file spec) p.0 q.0 p.2 q.2 in
      let binds = one_known (world.file bind) p.1 q.1 p.3 q.3 in
      one_deed_in q.0 q.1 x y (subst (λ (t : Option (List ℕ)). IsDeedIn t q.1 x) specs (subst (λ (t : Option (List ℕ)). IsDeedIn p.0 t x) binds p.4)) q.4

-- a log has one outcome
one_monitored : (deed : Result Deed Stop) (log : List ℕ) (x y : Outcome) → IsMonitored deed log x → IsMonitored deed log y → x ≡ y
one_monitored (Ok deed) log x y p q =
    let same = one_output deed [] 1 (lines_of log) p.0 q.0 p.1 q.1 p.2 q.2 in
    p.3 ∙ ((λ i. record { text = same.0 i; end = end_of (same.1 i) }) ∙ sym q.3)
one_monitored (Err why) log x y p q = p ∙ sym q

some_monitored : (deed : Result Deed Stop) (log : List ℕ) → (x : Outcome) × IsMonitored deed log x
some_monitored (Ok deed) log =
    let there = has_output deed (lines_of log) [] 1 in
    (record { text = there.0; end = end_of there.1 }, (there.0, there.1, there.2, refl))
some_monitored (Err why) log = (stopped why, refl)

pub one_outcome : (command : Command) (world : World) (x y : Outcome) → IsOutcome command world x → IsOutcome command world y → x ≡ y
one_outcome (Compile spec) world x y p q = p.2 ∙ (ap compiled (one_given_spec world spec p.0 q.0 p.1 q.1) ∙ sym q.2)
one_outcome (Monitor spec bind) world x y p q =
    let deeds = one_given_deed world spec bind p.0 q.0 p.1 q.1 in
    let logs = one_known world.left p.2.0 q.2.0 p.2.1 q.2.1 in
    let there = subst (λ (d : Result Deed Stop). IsMonitored d p.2.0 x) deeds p.2.2 in
    one_monitored q.0 q.2.0 x y (subst (λ (log : List ℕ). IsMonitored q.0 log x) logs there) q.2.2
one_outcome Unknown world x y p q = p ∙ sym q

pub some_outcome : (command : Command) (world : World) → KnowsFor command world → (x : Outcome) × IsOutcome command world x
some_outcome (Compile spec) world knows =
    let tree = some_sound_spec knows.0 in
    (compiled tree.0, (tree.0, (knows.0, knows.1, tree.1), refl))
some_outcome (Monitor spec bind) world knows =
    let deed = some_deed_in knows.0.0 knows.1.0 in
    let outcome = some_monitored deed.0 knows.2.0 in
    (outcome.0, (deed.0, (knows.0.0, knows.1.0, knows.0.1, knows.1.1, deed.1), (knows.2.0, knows.2.1, outcome.1)))
some_outcome Unknown world knows = (usage, refl)

-- an outcome comes of what is known
pub knows_of : (command : Command) (world : World) (x : Outcome) → IsOutcome command world x → KnowsFor command world
knows_of (Compile spec) world x is = (is.1.0, is.1.1)
knows_of (Monitor spec bind) world x is = ((is.1.0, is.1.2), (is.1.1, is.1.3), (is.2.0, is.2.1))
knows_of Unknown world x is = tt

-- bytes ask for one text
one_asked_by : (deed : Result Deed Stop) (taken text other : List ℕ) → IsAskedByLines deed taken text → IsAskedByLines deed taken other → text ≡ other
one_asked_by (Ok deed) taken text other p q = (one_output deed [] 1 (whole_lines_of taken) text other p.0 q.0 p.1 q.1).0
one_asked_by (Err why) taken text other p q = p ∙ sym q

pub one_asked : (spec bind : List ℕ) (world : World) (taken text other : List ℕ)
    → IsAskedFor (Monitor spec bind) world taken text → IsAskedFor (Monitor spec bind) world taken other → text ≡ other
one_asked spec bind world taken text other p q =
    let deeds = one_given_deed world spec bind p.0 q.0 p.1 q.1 in
    one_asked_by q.0 taken text other (subst (λ (d : Result Deed Stop). IsAskedByLines d taken text) deeds p.2) q.2

-- no bytes ask for nothing
pub asks_nothing : (spec bind : List ℕ) (world : World) (text : List ℕ) → IsAskedFor (Monitor spec bind) world [] text → text ≡ []
asks_nothing spec bind world text asked = of asked.0 asked.2
  where
    of : (deed : Result Deed Stop) → IsAskedByLines deed [] text → text ≡ []
    of (Ok deed) p = (one_output deed [] 1 [] text [] p.0 _ p.1 (o.ends [] 1)).0
    of (Err why) p = p
