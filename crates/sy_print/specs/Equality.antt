-- When two specifications are the same but for what their canonical text doesn't keep: places, first tokens, leading
-- zeros, and which of its two words a measure has.
use Rattle.std.specs.Prelude.{◌≡◌, [], map, Option, Some, None}
use Rattle.sy_base.specs.declared.refusal.Place.{Place}
use Rattle.sy_lex.specs.declared.written.Written.{Written}
use Rattle.sy_tree.specs.declared.term.RhsTree.{RhsTree}
use Rattle.sy_tree.specs.declared.term.RhsTree.TheVariants as Rhs
use Rattle.sy_tree.specs.declared.term.TermTree.{TermTree}
use Rattle.sy_tree.specs.declared.term.SumTree.{SumTree}
use Rattle.sy_tree.specs.declared.term.SumTree.TheVariants as Sum
use Rattle.sy_tree.specs.declared.term.FactorTree.{FactorTree}
use Rattle.sy_tree.specs.declared.term.SingleTree.{SingleTree}
use Rattle.sy_tree.specs.declared.term.SingleTree.TheVariants as Single
use Rattle.sy_tree.specs.declared.term.PathTree.{PathTree}
use Rattle.sy_tree.specs.declared.term.PathTree.TheVariants as Path
use Rattle.sy_tree.specs.declared.date.DateTree.{DateTree}
use Rattle.sy_tree.specs.declared.date.MomentTree.{MomentTree}
use Rattle.sy_tree.specs.declared.date.MomentTree.TheVariants as Moment
use Rattle.sy_tree.specs.declared.date.DurationTree.{DurationTree}
use Rattle.sy_tree.specs.declared.date.CountTree.{CountTree}
use Rattle.sy_tree.specs.declared.date.CountTree.TheVariants as Count
use Rattle.sy_tree.specs.declared.date.MeasureTree.{MeasureTree}
use Rattle.sy_tree.specs.declared.proposition.First.{First}
use Rattle.sy_tree.specs.declared.proposition.CmpTree.{CmpTree}
use Rattle.sy_tree.specs.declared.proposition.EventTree.{EventTree}
use Rattle.sy_tree.specs.declared.proposition.EventTree.TheVariants as Event
use Rattle.sy_tree.specs.declared.proposition.GuardTree.{GuardTree}
use Rattle.sy_tree.specs.declared.proposition.SituationTree.{SituationTree}
use Rattle.sy_tree.specs.declared.proposition.PropTree.{PropTree, PropTree-F, fold-PropTree}
use Rattle.sy_tree.specs.declared.proposition.PropTree.TheVariants as P
use Rattle.sy_tree.specs.declared.proposition.PropTree.TheOpen as L
use Rattle.sy_spec.specs.declared.domain.DomainTree.{DomainTree}
use Rattle.sy_spec.specs.declared.domain.TypeTree.{TypeTree}
use Rattle.sy_spec.specs.declared.domain.TypeTree.TheVariants as AType
use Rattle.sy_spec.specs.declared.domain.EnumTree.{EnumTree}
use Rattle.sy_spec.specs.declared.domain.BaseTree.{BaseTree}
use Rattle.sy_spec.specs.declared.domain.BaseTree.TheVariants as Base
use Rattle.sy_spec.specs.declared.domain.AttrTree.{AttrTree}
use Rattle.sy_spec.specs.declared.contract.SpecTree.{SpecTree}
use Rattle.sy_spec.specs.declared.contract.ContractTree.{ContractTree}
use Rattle.sy_spec.specs.declared.contract.UnitTree.{UnitTree}
use Rattle.sy_spec.specs.declared.contract.ParamTree.{ParamTree}
use Rattle.sy_spec.specs.declared.contract.DeclTree.{DeclTree}
use Rattle.sy_spec.specs.declared.contract.GiveTree.{GiveTree}
use Rattle.sy_spec.specs.declared.position.ObligTree.{ObligTree}
use Rattle.sy_spec.specs.declared.position.PowerTree.{PowerTree}
use Rattle.sy_spec.specs.declared.position.ActTree.{ActTree}
use Rattle.sy_spec.specs.declared.position.VerbTree.{VerbTree}
use Rattle.sy_tree.specs.declared.target.TargetTree.{TargetTree}
use Rattle.sy_tree.specs.declared.target.TargetTree.TheVariants as Target
use Rattle.sy_print.specs.CanonicalText.{stripped}

-- one place in the stead of all
abbrev pub here : Place
here = record { line = 0; column = 0 }

-- one token in the stead of all that aren't compared
abbrev pub nothing : Written
nothing = record { text = []; place = here }

abbrev pub plain : Written → Written
plain t = record { text = t.text; place = here }

abbrev pub plain_number : Written → Written
plain_number n = record { text = stripped n.text; place = here }

abbrev pub plain_path : PathTree → PathTree
plain_path (Path.Name name) = Path.Name (plain name)
plain_path (Path.Attribute name attribute) = Path.Attribute (plain name) (plain attribute)
plain_path (Path.Inner name attribute inner) = Path.Inner (plain name) (plain attribute) (plain inner)

abbrev pub plain_single : SingleTree → SingleTree
plain_single (Single.Number n) = Single.Number (plain_number n)
plain_single (Single.Negative place n) = Single.Negative here (plain_number n)
plain_single (Single.Str t) = Single.Str (plain t)
plain_single (Single.Date t) = Single.Date (plain t)
plain_single (Single.Path p) = Single.Path (plain_path p)

abbrev pub plain_factor : FactorTree → FactorTree
plain_factor f = record { first = plain_single f.first; others = map plain_single f.others }

abbrev pub plain_sum : SumTree → SumTree
plain_sum (Sum.Plus f) = Sum.Plus (plain_factor f)
plain_sum (Sum.Minus f) = Sum.Minus (plain_factor f)

abbrev pub plain_term : TermTree → TermTree
plain_term t = record { first = plain_factor t.first; others = map plain_sum t.others }

abbrev pub plain_rhs : RhsTree → RhsTree
plain_rhs (Rhs.Term t) = Rhs.Term (plain_term t)
plain_rhs (Rhs.Const value place) = Rhs.Const value here

abbrev pub plain_cmp : CmpTree → CmpTree
plain_cmp c = record { cmp = c.cmp; place = here }

abbrev pub plain_target : TargetTree → TargetTree
plain_target (Target.Named name) = Target.Named (plain name)
plain_target (Target.Contract place) = Target.Contract here

abbrev pub plain_guard : GuardTree → GuardTree
plain_guard g = record { name = plain g.name; cmp = plain_cmp g.cmp; value = plain_rhs g.value }

abbrev pub plain_event : EventTree → EventTree
plain_event (Event.Declared name guards) = Event.Declared (plain name) (map plain_guard guards)
plain_event (Event.Internal kind place target) = Event.Internal kind here (plain_target target)

abbrev pub plain_situation : SituationTree → SituationTree
plain_situation s = record { place = here; target = plain_target s.target; equal = s.equal; state = plain s.state }

abbrev pub plain_measure : MeasureTree → MeasureTree
plain_measure m = record { measure = m.measure; word = nothing }

abbrev pub plain_count : CountTree → CountTree
plain_count (Count.Number n) = Count.Number (plain_number n)
plain_count (Count.Path p) = Count.Path (plain_path p)

abbrev pub plain_duration : DurationTree → DurationTree
plain_duration d = record { count = plain_count d.count; measure = plain_measure d.measure }

abbrev pub plain_moment : MomentTree → MomentTree
plain_moment (Moment.Fixed t) = Moment.Fixed (plain t)
plain_moment (Moment.Path p) = Moment.Path (plain_path p)
plain_moment (Moment.Time place event) = Moment.Time here (plain_event event)

abbrev pub plain_date : DateTree → DateTree
plain_date d = record { moment = plain_moment d.moment; plus = map plain_duration d.plus }

abbrev pub no_first : First
no_first = record { token = nothing; bracket = None }

abbrev pub plain_prop_of : PropTree-F PropTree → PropTree
plain_prop_of (L.Const value first) = P.Const value no_first
plain_prop_of (L.Not part first) = P.Not part no_first
plain_prop_of (L.All parts first) = P.All parts no_first
plain_prop_of (L.Any parts first) = P.Any parts no_first
plain_prop_of (L.Compare left cmp right first) = P.Compare (plain_term left) (plain_cmp cmp) (plain_rhs right) no_first
plain_prop_of (L.Happens event first) = P.Happens (plain_event event) no_first
plain_prop_of (L.Before event date first) = P.Before (plain_event event) (plain_date date) no_first
plain_prop_of (L.After event date first) = P.After (plain_event event) (plain_date date) no_first
plain_prop_of (L.Within event from to first) =
    P.Within (plain_event event) (plain_date from) (plain_date to) no_first
plain_prop_of (L.Occurs situation from to first) =
    P.Occurs (plain_situation situation) (plain_date from) (plain_date to) no_first
plain_prop_of (L.Holds situation first) = P.Holds (plain_situation situation) no_first

abbrev pub plain_prop : PropTree → PropTree
plain_prop = fold-PropTree PropTree plain_prop_of

abbrev pub plain_enum : EnumTree → EnumTree
plain_enum e = record { constants = map plain e.constants }

abbrev pub plain_base : BaseTree → BaseTree
plain_base (Base.Role place) = Base.Role here
plain_base (Base.Asset place) = Base.Asset here
plain_base (Base.Event place) = Base.Event here
plain_base (Base.Named name) = Base.Named (plain name)

abbrev pub plain_env : Option Place → Option Place
plain_env (Some place) = Some here
plain_env None = None

abbrev pub plain_attr : AttrTree → AttrTree
plain_attr a = record { env = plain_env a.env; name = plain a.name; type_name = plain a.type_name }

abbrev pub plain_type : TypeTree → TypeTree
plain_type (AType.Enumeration name constants) = AType.Enumeration (plain name) (plain_enum constants)
plain_type (AType.Derived name base attributes) =
    AType.Derived (plain name) (plain_base base) (map plain_attr attributes)

abbrev pub plain_domain : DomainTree → DomainTree
plain_domain d = record { name = plain d.name; types = map plain_type d.types }

abbrev pub plain_unit : UnitTree → UnitTree
plain_unit u = record { unit = u.unit; place = here }

abbrev pub plain_param : ParamTree → ParamTree
plain_param p = record { name = plain p.name; type_name = plain p.type_name }

abbrev pub plain_give : GiveTree → GiveTree
plain_give g = record { name = plain g.name; value = plain_rhs g.value }

abbrev pub plain_decl : DeclTree → DeclTree
plain_decl d = record { name = plain d.name; type_name = plain d.type_name; gives = map plain_give d.gives }

abbrev pub plain_trigger : Option PropTree → Option PropTree
plain_trigger (Some p) = Some (plain_prop p)
plain_trigger None = None

abbrev pub plain_oblig : ObligTree → ObligTree
plain_oblig o =
    record {
      name = plain o.name;
      trigger = plain_trigger o.trigger;
      debtor = plain o.debtor;
      creditor = plain o.creditor;
      antecedent = plain_prop o.antecedent;
      consequent = plain_prop o.consequent;
    }

abbrev pub plain_verb : VerbTree → VerbTree
plain_verb v = record { verb = v.verb; place = here }

abbrev pub plain_act : ActTree → ActTree
plain_act a = record { verb = plain_verb a.verb; target = plain_target a.target }

abbrev pub plain_power : PowerTree → PowerTree
plain_power p =
    record {
      name = plain p.name;
      trigger = plain_trigger p.trigger;
      holder = plain p.holder;
      other_party = plain p.other_party;
      antecedent = plain_prop p.antecedent;
      act = plain_act p.act;
    }

abbrev pub plain_contract : ContractTree → ContractTree
plain_contract c =
    record {
      place = here;
      name = plain c.name;
      parameters = map plain_param c.parameters;
      unit = plain_unit c.unit;
      declarations = map plain_decl c.declarations;
      preconditions = map plain_prop c.preconditions;
      postconditions = map plain_prop c.postconditions;
      obligations = map plain_oblig c.obligations;
      surviving = map plain_oblig c.surviving;
      powers = map plain_power c.powers;
      constraints = map plain_prop c.constraints;
    }

abbrev pub plain_spec : SpecTree → SpecTree
plain_spec s = record { domain = plain_domain s.domain; contract = plain_contract s.contract }

-- two specifications are the same
abbrev pub SameSpec : SpecTree → SpecTree → Type 0
SameSpec s t = plain_spec s ≡ plain_spec t
