-- An event that isn't one of the deed's never happens.
use Rattle.std.proofs.Common.{◌≡◌, ℕ, zero, suc, ◌+◌, Bool, false, ◌&&◌, List, [], ◌∷◌, inl, inr, Option, Some, None, slice_get, refl, ap, subst, arith}
use Rattle.std.specs.List.{flat_map, enumerate_from}
use Rattle.sy_words.specs.declared.kind.Kind.{Kind}
use Rattle.sy_words.specs.declared.kind.Kind.TheVariants.{Exerted, Triggered, Activated, Resumed, Suspended, Fulfilled, Violated, Expired, Discharged, Terminated, Completed}
use Rattle.sy_words.specs.declared.form.Form.{Form}
use Rattle.sy_words.specs.declared.form.Form.TheVariants.{Obligation, Surviving, Power}
use Rattle.sy_core.specs.declared.kind.Target.{Target}
use Rattle.sy_core.specs.declared.kind.Target.TheVariants as T
use Rattle.sy_core.specs.declared.position.Position.{Position}
use Rattle.sy_core.specs.declared.deed.Deed.{Deed}
use Rattle.sy_core.specs.Moments.{Moment}
use Rattle.sy_core.specs.States.{kinds_of, contract_kinds, obligation_kinds}
use Rattle.sy_core.specs.Mentions.{events_at}
use Rattle.sy_core.specs.Conditions.{is_power, is_obligation, numbered, contract_fires, position_fires, fires_of, fires, events_of_position, events_of}
use Rattle.sy_core.proofs.Members.{Among}
use Rattle.sy_core.proofs.Nodes.{among_left, among_right}
use Rattle.sy_core.proofs.EventsInOrder.{flat_in}

kind_there : (kinds : List Kind) (kind : Kind) (x : Target) → Among kinds kind → Among (events_at kinds x) (kind, x)
kind_there [] kind x m = absurd m
kind_there (k ∷ ks) kind x (inl e) = inl (ap (λ y. (y, x)) e)
kind_there (k ∷ ks) kind x (inr m) = inr (kind_there ks kind x m)

-- a position stands behind its number
pub number_there : {X : Type 0} (j : ℕ) (xs : List X) (i : ℕ) (x : X) → slice_get xs i ≡ Some x → Among (enumerate_from j xs) (j + i, x)
number_there j [] i x is = cc
number_there j (y ∷ xs) zero x is =
    let number : j ≡ j + 0 = omega arith in
    let same : y ≡ x = cc in
    inl (λ k. (number k, same k))
number_there j (y ∷ xs) (suc i) x is =
    let number : (j + 1) + i ≡ j + suc i = omega arith in
    inr (subst (λ k. Among (enumerate_from (j + 1) xs) (k, x)) number (number_there (j + 1) xs i x is))

-- rows that only powers have, or only obligations
power_row : (form : Form) → (Among (kinds_of form) Exerted → ⊥) → (a b c : Bool) → (((is_power form && a) && b) && c) ≡ false
power_row Power out a b c = absurd (out (inl refl))
power_row Obligation out a b c = refl
power_row Surviving out a b c = refl

obligation_row : (form : Form) (kind : Kind) → Among obligation_kinds kind → (Among (kinds_of form) kind → ⊥) → (a b : Bool) → ((is_obligation form && a) && b) ≡ false
obligation_row Power kind h out a b = refl
obligation_row Obligation kind h out a b = absurd (out h)
obligation_row Surviving kind h out a b = absurd (out h)

-- a kind that every form has
every_form : (form : Form) (kind : Kind) → Among (kinds_of Power) kind → Among obligation_kinds kind → Among (kinds_of form) kind
every_form Power kind a b = a
every_form Obligation kind a b = b
every_form Surviving kind a b = b

module _ (deed : Deed) (now : Moment) (before : List Moment) where
  position_never : (i : ℕ) (p : Position) (kind : Kind) → (Among (kinds_of p.form) kind → ⊥) → position_fires deed now before i p kind ≡ false
  position_never i p Exerted out = power_row p.form out _ _ _
  position_never i p Triggered out = absurd (out (every_form p.form Triggered (inr (inl refl)) (inl refl)))
  position_never i p Activated out = absurd (out (every_form p.form Activated (inr (inr (inl refl))) (inr (inl refl))))
  position_never i p Resumed out = absurd (out (every_form p.form Resumed (inr (inr (inr (inl refl)))) (inr (inr (inl refl)))))
  position_never i p Suspended out = absurd (out (every_form p.form Suspended (inr (inr (inr (inr (inl refl))))) (inr (inr (inr (inl refl))))))
  position_never i p Fulfilled out = obligation_row p.form Fulfilled (inr (inr (inr (inr (inl refl))))) out _ _
  position_never i p Violated out = obligation_row p.form Violated (inr (inr (inr (inr (inr (inl refl)))))) out _ _
  position_never i p Expired out = absurd (out (every_form p.form Expired (inr (inr (inr (inr (inr (inl refl)))))) (inr (inr (inr (inr (inr (inr (inl refl)))))))))
  position_never i p Discharged out = obligation_row p.form Discharged (inr (inr (inr (inr (inr (inr (inr (inl refl)))))))) out _ _
  position_never i p Terminated out = absurd (out (every_form p.form Terminated (inr (inr (inr (inr (inr (inr (inl refl))))))) (inr (inr (inr (inr (inr (inr (inr (inr (inl refl)))))))))))
  position_never i p Completed out = refl

  contract_never : (kind : Kind) → (Among contract_kinds kind → ⊥) → contract_fires deed now kind ≡ false
  contract_never Resumed out = absurd (out (inl refl))
  contract_never Suspended out = absurd (out (inr (inl refl)))
  contract_never Terminated out = absurd (out (inr (inr (inl refl))))
  contract_never Completed out = absurd (out (inr (inr (inr (inl refl)))))
  contract_never _ out = refl

  pub event_never : (kind : Kind) (x : Target) → (Among (events_of deed) (kind, x) → ⊥) → fires deed now before kind x ≡ false
  event_never kind T.Contract out =
      contract_never kind (λ m. out (among_right (flat_map events_of_position (numbered deed)) (events_at contract_kinds T.Contract) (kind, T.Contract) (kind_there contract_kinds kind T.Contract m)))
  event_never kind (T.Position i) out = at (slice_get deed.positions i) refl
    where
      at : (o : Option Position) → slice_get deed.positions i ≡ o → fires_of deed now before i o kind ≡ false
      at None is = refl
      at (Some p) is = position_never i p kind (λ m.
          let number : 0 + i ≡ i = omega arith in
          let there = subst (λ k. Among (numbered deed) (k, p)) number (number_there 0 deed.positions i p is) in
          out (among_left (flat_map events_of_position (numbered deed)) (events_at contract_kinds T.Contract) (kind, T.Position i) (flat_in events_of_position (numbered deed) (i, p) (kind, T.Position i) there (kind_there (kinds_of p.form) kind (T.Position i) m))))
