-- The law of the rounds, for a deed with an order of its events.
use Rattle.std.proofs.Common.{◌≡◌, ℕ, ℤ, Bool, true, false, ◌==◌, List, [], ◌∷◌, ◌⊎◌, inl, inr, refl, ◌∙◌, ap, subst, rules}
use Rattle.std.proofs.lemmas.Bool.Decides.{Decides-eqb}
use denote.Enum.Bare.{sameb, same_true, same_false}
use Rattle.sy_words.specs.contracts.kind.Kind.{the_type}
use Rattle.sy_words.specs.declared.kind.Kind.{Kind}
use Rattle.sy_core.specs.declared.kind.Target.{Target}
use Rattle.sy_core.specs.declared.kind.Target.TheVariants as T
use Rattle.sy_core.specs.declared.state.StateOf.{StateOf}
use Rattle.sy_core.specs.declared.deed.Deed.{Deed}
use Rattle.sy_core.specs.declared.happening.What.{What}
use Rattle.std.specs.List.{Contains}
use Rattle.sy_core.specs.Rounds.{rounds, IsSettled}
use Rattle.sy_core.specs.Moments.{Moment}
use Rattle.sy_core.specs.Mentions.{InternalEvent}
use Rattle.sy_core.specs.Chronicle.{assuming, conditions, internal_events}
use Rattle.sy_core.specs.Dependence.{reads, IsOrderOf}
use Rattle.sy_core.proofs.Members.{Among, among, contained}
use Rattle.sy_core.proofs.OrderLaw.{IsInOrder, order_settles, only_order_settles}
use Rattle.sy_core.proofs.DependenceLaw.{agree_from, condition_same}

-- two events are one or not
kinds_decided : (k l : Kind) → (k ≡ l) ⊎ (k ≡ l → ⊥)
kinds_decided k l = at (sameb the_type k l) refl
  where
    at : (b : Bool) → sameb the_type k l ≡ b → (k ≡ l) ⊎ (k ≡ l → ⊥)
    at true e = inl (same_true the_type (search rules) k l e)
    at false e = inr (same_false the_type k l e)

numbers_decided : (i j : ℕ) → (i ≡ j) ⊎ (i ≡ j → ⊥)
numbers_decided i j = at (i == j) refl
  where
    at : (b : Bool) → (i == j) ≡ b → (i ≡ j) ⊎ (i ≡ j → ⊥)
    at true e = inl ((Decides-eqb i j).0 e)
    at false e = inr (λ h. let t = (Decides-eqb i j).1 h in cc)

targets_decided : (x y : Target) → (x ≡ y) ⊎ (x ≡ y → ⊥)
targets_decided T.Contract T.Contract = inl refl
targets_decided (T.Position i) (T.Position j) =
    elim (numbers_decided i j) [ inl e ↦ inl (ap T.Position e) | inr ne ↦ inr (λ h. ne (cc)) ]
targets_decided _ _ = inr (λ h. cc)

events_decided : (d e : InternalEvent) → (d ≡ e) ⊎ (d ≡ e → ⊥)
events_decided d e =
    elim (kinds_decided d.0 e.0) [
      | inl k ↦ elim (targets_decided d.1 e.1) [ inl x ↦ inl (λ j. (k j, x j)) | inr ne ↦ inr (λ h. ne (ap (λ p. p.1) h)) ]
      | inr ne ↦ inr (λ h. ne (ap (λ p. p.0) h))
    ]

pub among_decided : (order : List InternalEvent) (e : InternalEvent) → Among order e ⊎ (Among order e → ⊥)
among_decided [] e = inr (λ none. none)
among_decided (x ∷ xs) e =
    elim (events_decided x e) [
      | inl same ↦ inl (inl same)
      | inr ne ↦ elim (among_decided xs e) [ inl at ↦ inl (inr at) | inr out ↦ inr (λ h. elim h [ inl same ↦ ne same | inr at ↦ out at ]) ]
    ]

module _ (deed : Deed) (order : List InternalEvent) (ordered : IsOrderOf deed order) (point : ℤ) (happenings : List What) (state : Target → StateOf) (before : List Moment) where
  abbrev rows : (InternalEvent → Bool) → InternalEvent → Bool
  rows = conditions deed point happenings state before

  in_order : IsInOrder rows order
  in_order = record {
    depends = λ earlier later e is s t same. condition_same point happenings state before s t deed e.0 e.1 (agree_from s t (reads deed e.0 e.1) (λ d read. same d (placed earlier d (ordered.reads_before earlier later e is d (contained (reads deed e.0 e.1) d read)))));
    others = λ e out s. ordered.others e (λ c. out (among order e c)) (assuming point happenings state s) before;
  }
    where
      placed : (earlier : List InternalEvent) (d : InternalEvent) → Contains earlier d ⊎ (Contains order d → ⊥) → Among earlier d ⊎ (Among order d → ⊥)
      placed earlier d (inl c) = inl (among earlier d c)
      placed earlier d (inr out) = inr (λ a. out (contained order d a))

  pub rounds_settled : IsSettled rows (internal_events deed point happenings state before)
  rounds_settled = subst (λ n. IsSettled rows (rounds rows n)) ordered.long (order_settles rows order in_order (among_decided order))

  pub only_rounds_settled : (set : InternalEvent → Bool) → IsSettled rows set → (e : InternalEvent) → set e ≡ internal_events deed point happenings state before e
  only_rounds_settled set h e = only_order_settles rows order in_order (among_decided order) set h e ∙ ap (λ n. rounds rows n e) ordered.long
