-- The state of one more position.
use Rattle.std.proofs.Common.{◌≡◌, ℕ, ◌+◌, ◌<◌, List, [], ◌∷◌, ◌++◌, length, drop, get_or, sym, ap, ◌∙◌, add-one, drop-cons, append_assoc}
use Rattle.sy_core.specs.declared.kind.Target.{Target}
use Rattle.sy_core.specs.declared.kind.Target.TheVariants as T
use Rattle.sy_core.specs.declared.position.Position.{Position}
use Rattle.sy_core.specs.declared.state.StateOf.{StateOf}
use Rattle.sy_core.specs.Tables.{states_of}

pub one_more : (state : Target → StateOf) (ps : List Position) (i number : ℕ) (p : Position) (s : StateOf) (old new whole : List StateOf)
    → i < length ps → s ≡ state (T.Position number) → new ≡ old ++ s ∷ []
    → old ++ states_of state number (drop i ps) ≡ whole → new ++ states_of state (number + 1) (drop (i + 1) ps) ≡ whole
one_more state ps i number p s old new whole lt is more so =
    let later = states_of state (number + 1) (drop (i + 1) ps) in
    let rest : drop i ps ≡ get_or ps i p ∷ drop (i + 1) ps = drop-cons ps i p lt ∙ ap (λ k. get_or ps i p ∷ drop k ps) (sym (add-one i)) in
    ap (λ l. l ++ later) more ∙ append_assoc old (s ∷ []) later ∙ ap (λ v. old ++ v ∷ later) is
    ∙ ap (λ l. old ++ states_of state number l) (sym rest) ∙ so
