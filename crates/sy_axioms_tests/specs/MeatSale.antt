-- The deed of a meat sale: the goods are to be delivered, then paid, or else paid later with more. Points are days since 1970-01-01.
use Rattle.std.specs.Prelude.{ℕ, ℤ, pos, true, List, [], ◌∷◌, codes}
use Rattle.sy_base.specs.declared.time.TimeUnit.TheVariants.{Day}
use Rattle.sy_base.specs.declared.time.Measure.TheVariants.{Days}
use Rattle.sy_words.specs.declared.kind.Kind.TheVariants.{Violated, Suspended}
use Rattle.sy_core.specs.declared.kind.Target.{Target}
use Rattle.sy_core.specs.declared.kind.Target.TheVariants as T
use Rattle.sy_words.specs.declared.comparison.Cmp.TheVariants.{Ge}
use Rattle.sy_core.specs.declared.value.Value.TheVariants as V
use Rattle.sy_core.specs.declared.value.ValueKind.{ValueKind}
use Rattle.sy_core.specs.declared.value.ValueKind.TheVariants as K
use Rattle.sy_core.specs.declared.event.Ev.{Ev}
use Rattle.sy_core.specs.declared.event.Ev.TheVariants.{Outer, Inner}
use Rattle.sy_core.specs.declared.date_term.Base.TheVariants.{Fixed, First}
use Rattle.sy_core.specs.declared.date_term.DateTerm.{DateTerm}
use Rattle.sy_core.specs.declared.proposition.Prop.{Prop}
use Rattle.sy_core.specs.declared.proposition.Prop.TheVariants as Props
use Rattle.sy_words.specs.declared.form.Form.{Form}
use Rattle.sy_words.specs.declared.form.Form.TheVariants.{Obligation, Surviving, Power}
use Rattle.sy_words.specs.declared.verb.Verb.{Verb}
use Rattle.sy_words.specs.declared.verb.Verb.TheVariants.{Suspends, Resumes, Terminates}
use Rattle.sy_core.specs.declared.position.Goal.{Goal}
use Rattle.sy_core.specs.declared.position.Goal.TheVariants as G
use Rattle.sy_core.specs.declared.position.Position.{Position}
use Rattle.sy_core.specs.declared.deed.EventDecl.{EventDecl}
use Rattle.sy_core.specs.declared.deed.Deed.{Deed}

-- an event with one attribute
abbrev pub with_value : List ℕ → List ℕ → ValueKind → EventDecl
with_value name attr kind = record { name = name; attrs = record { name = attr; kind = kind } ∷ [] }

abbrev pub sale_events : List EventDecl
sale_events =
    with_value (codes "delivered") (codes "address") K.Text
    ∷ with_value (codes "paid") (codes "amount") K.Number
    ∷ with_value (codes "paidLate") (codes "amount") K.Number
    ∷ record { name = codes "disclosed"; attrs = [] }
    ∷ []

abbrev pub delivered : Ev
delivered = Outer 0 []

abbrev pub disclosed : Ev
disclosed = Outer 3 []

-- the violation of oPay
abbrev pub broken : Ev
broken = Inner Violated (T.Position 1)

-- the suspension of oPay
abbrev pub suspended : Ev
suspended = Inner Suspended (T.Position 1)

-- an event with a first value of at least so much
abbrev pub at_least : ℕ → ℤ → Ev
at_least event amount = Outer event (record { attr = 0; cmp = Ge; value = V.Number amount } ∷ [])

abbrev pub on : ℤ → DateTerm
on date = record { base = Fixed date; plus = [] }

-- so many days after the first point of the event
abbrev pub days_after : Ev → ℕ → DateTerm
days_after first count = record { base = First first; plus = record { count = count; measure = Days } ∷ [] }

-- a position that comes into effect once it is created
abbrev pub position : List ℕ → Form → List ℕ → List ℕ → Prop → Goal → Position
position name form first second trigger goal = record {
  name = name;
  form = form;
  first = first;
  second = second;
  trigger = trigger;
  antecedent = Props.Const true;
  goal = goal;
}

abbrev pub o_deliver : Position
o_deliver =
    position (codes "oDeliver") Obligation (codes "seller") (codes "buyer") (Props.Const true)
    (G.Duty (Props.Before delivered (on (pos 19793))))

abbrev pub o_pay : Position
o_pay =
    position (codes "oPay") Obligation (codes "buyer") (codes "seller") (Props.Happens delivered)
    (G.Duty (Props.Before (at_least 1 (pos 100)) (days_after delivered 10)))

abbrev pub o_late : Position
o_late =
    position (codes "oLate") Obligation (codes "buyer") (codes "seller") (Props.Happens broken)
    (G.Duty (Props.Before (at_least 2 (pos 110)) (days_after broken 30)))

abbrev pub o_secret : Position
o_secret =
    position (codes "oSecret") Surviving (codes "buyer") (codes "seller") (Props.Const true)
    (G.Duty (Props.Not (Props.Before disclosed (on (pos 20089)))))

-- a power of the buyer
abbrev pub power : List ℕ → Prop → Verb → Target → Position
power name trigger verb target = position name Power (codes "buyer") (codes "seller") trigger (G.Act (record { verb = verb; target = target }))

abbrev pub p_hold : Position
p_hold = power (codes "pHold") (Props.Happens delivered) Suspends (T.Position 1)

abbrev pub p_go : Position
p_go = power (codes "pGo") (Props.Happens suspended) Resumes (T.Position 1)

abbrev pub p_end : Position
p_end = power (codes "pEnd") (Props.Const true) Terminates T.Contract

abbrev pub sale_positions : List Position
sale_positions = o_deliver ∷ o_pay ∷ o_late ∷ o_secret ∷ p_hold ∷ p_go ∷ p_end ∷ []

-- the order in which the nodes of a point are evaluated, worked out by hand
abbrev pub sale_numbers : List ℕ
sale_numbers =
    0 ∷ 1 ∷ 3 ∷ 9 ∷ 10 ∷ 11 ∷ 12 ∷ 13 ∷ 14 ∷ 16 ∷ 4 ∷ 17 ∷ 18 ∷ 20 ∷ 2 ∷ 5 ∷ 6 ∷ 7 ∷ 8 ∷ 15 ∷ 19 ∷ 21 ∷ 22 ∷ 23 ∷ 24 ∷ []

abbrev pub meat_sale : Deed
meat_sale = record {
  unit = Day;
  start = pos 19783;
  events = sale_events;
  choices = [];
  positions = sale_positions;
  posts = Props.Happens delivered ∷ [];
  order = sale_numbers;
}
