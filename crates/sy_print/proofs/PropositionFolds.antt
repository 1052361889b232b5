-- What the folds over propositions give for each kind of proposition, and that they don't see brackets.
use Rattle.std.proofs.Common.{◌≡◌, Bool, List, map, ap, sym, ◌∙◌}
use Rattle.sy_base.specs.declared.refusal.Place.{Place}
use Rattle.sy_tree.specs.declared.term.TermTree.{TermTree}
use Rattle.sy_tree.specs.declared.term.RhsTree.{RhsTree}
use Rattle.sy_tree.specs.declared.date.DateTree.{DateTree}
use Rattle.sy_tree.specs.declared.proposition.First.{First}
use Rattle.sy_tree.specs.declared.proposition.CmpTree.{CmpTree}
use Rattle.sy_tree.specs.declared.proposition.EventTree.{EventTree}
use Rattle.sy_tree.specs.declared.proposition.SituationTree.{SituationTree}
use Rattle.sy_tree.specs.declared.proposition.PropTree.{PropTree, PropTree-F}
use Rattle.sy_tree.specs.declared.proposition.PropTree.TheVariants as P
use Rattle.sy_tree.specs.declared.proposition.PropTree.TheVariants.{rolls-Const, rolls-Not, rolls-All, rolls-Any, rolls-Compare, rolls-Happens, rolls-Before, rolls-After, rolls-Within, rolls-Occurs, rolls-Holds}
use Rattle.sy_tree.specs.declared.proposition.PropTree.TheOpen as L
use Rattle.sy_tree.specs.declared.proposition.PropTree.TheViews.{out-PropTree}
use Rattle.sy_tree.specs.declared.proposition.PropTree.TheFolds.{fold-PropTree, fold-roll-PropTree, fold_out-PropTree, map-PropTree}
use Rattle.sy_tree.specs.Propositions.{in_brackets, in_brackets_of, bracketed}
use Rattle.sy_print.specs.CanonicalText.{Forms, forms, forms_of}
use Rattle.sy_print.specs.Equality.{plain_prop, plain_prop_of}

pub fold-const : {A : Type 0} (of : PropTree-F A → A) (value : Bool) (first : First)
    → fold-PropTree A of (P.Const value first) ≡ of (L.Const value first)
fold-const {A} of value first =
    ap (fold-PropTree A of) (sym (rolls-Const value first))
    ∙ fold-roll-PropTree A of (L.Const value first)

pub fold-not : {A : Type 0} (of : PropTree-F A → A) (part : PropTree) (first : First)
    → fold-PropTree A of (P.Not part first) ≡ of (L.Not (fold-PropTree A of part) first)
fold-not {A} of part first =
    ap (fold-PropTree A of) (sym (rolls-Not part first))
    ∙ fold-roll-PropTree A of (L.Not part first)

pub fold-all : {A : Type 0} (of : PropTree-F A → A) (parts : List PropTree) (first : First)
    → fold-PropTree A of (P.All parts first) ≡ of (L.All (map (fold-PropTree A of) parts) first)
fold-all {A} of parts first =
    ap (fold-PropTree A of) (sym (rolls-All parts first))
    ∙ fold-roll-PropTree A of (L.All parts first)

pub fold-any : {A : Type 0} (of : PropTree-F A → A) (parts : List PropTree) (first : First)
    → fold-PropTree A of (P.Any parts first) ≡ of (L.Any (map (fold-PropTree A of) parts) first)
fold-any {A} of parts first =
    ap (fold-PropTree A of) (sym (rolls-Any parts first))
    ∙ fold-roll-PropTree A of (L.Any parts first)

pub fold-compare : {A : Type 0} (of : PropTree-F A → A)
    (left : TermTree) (cmp : CmpTree) (right : RhsTree) (first : First)
    → fold-PropTree A of (P.Compare left cmp right first) ≡ of (L.Compare left cmp right first)
fold-compare {A} of left cmp right first =
    ap (fold-PropTree A of) (sym (rolls-Compare left cmp right first))
    ∙ fold-roll-PropTree A of (L.Compare left cmp right first)

pub fold-happens : {A : Type 0} (of : PropTree-F A → A) (event : EventTree) (first : First)
    → fold-PropTree A of (P.Happens event first) ≡ of (L.Happens event first)
fold-happens {A} of event first =
    ap (fold-PropTree A of) (sym (rolls-Happens event first))
    ∙ fold-roll-PropTree A of (L.Happens event first)

pub fold-before : {A : Type 0} (of : PropTree-F A → A) (event : EventTree) (date : DateTree) (first : First)
    → fold-PropTree A of (P.Before event date first) ≡ of (L.Before event date first)
fold-before {A} of event date first =
    ap (fold-PropTree A of) (sym (rolls-Before event date first))
    ∙ fold-roll-PropTree A of (L.Before event date first)

pub fold-after : {A : Type 0} (of : PropTree-F A → A) (event : EventTree) (date : DateTree) (first : First)
    → fold-PropTree A of (P.After event date first) ≡ of (L.After event date first)
fold-after {A} of event date first =
    ap (fold-PropTree A of) (sym (rolls-After event date first))
    ∙ fold-roll-PropTree A of (L.After event date first)

pub fold-within : {A : Type 0} (of : PropTree-F A → A)
    (event : EventTree) (from to : DateTree) (first : First)
    → fold-PropTree A of (P.Within event from to first) ≡ of (L.Within event from to first)
fold-within {A} of event from to first =
    ap (fold-PropTree A of) (sym (rolls-Within event from to first))
    ∙ fold-roll-PropTree A of (L.Within event from to first)

pub fold-occurs : {A : Type 0} (of : PropTree-F A → A)
    (situation : SituationTree) (from to : DateTree) (first : First)
    → fold-PropTree A of (P.Occurs situation from to first) ≡ of (L.Occurs situation from to first)
fold-occurs {A} of situation from to first =
    ap (fold-PropTree A of) (sym (rolls-Occurs situation from to first))
    ∙ fold-roll-PropTree A of (L.Occurs situation from to first)

pub fold-holds : {A : Type 0} (of : PropTree-F A → A) (situation : SituationTree) (first : First)
    → fold-PropTree A of (P.Holds situation first) ≡ of (L.Holds situation first)
fold-holds {A} of situation first =
    ap (fold-PropTree A of) (sym (rolls-Holds situation first))
    ∙ fold-roll-PropTree A of (L.Holds situation first)

pub forms-in_brackets : (place : Place) (x : PropTree) → forms (in_brackets place x) ≡ forms x
forms-in_brackets place x = go (out-PropTree x) ∙ sym (fold_out-PropTree Forms forms_of x)
  where
    go : (layer : PropTree-F PropTree) → forms (in_brackets_of place layer)
        ≡ forms_of (map-PropTree PropTree Forms forms layer)
    go (L.Const value first) = fold-const forms_of value (bracketed place first)
    go (L.Not part first) = fold-not forms_of part (bracketed place first)
    go (L.All parts first) = fold-all forms_of parts (bracketed place first)
    go (L.Any parts first) = fold-any forms_of parts (bracketed place first)
    go (L.Compare left cmp right first) = fold-compare forms_of left cmp right (bracketed place first)
    go (L.Happens event first) = fold-happens forms_of event (bracketed place first)
    go (L.Before event date first) = fold-before forms_of event date (bracketed place first)
    go (L.After event date first) = fold-after forms_of event date (bracketed place first)
    go (L.Within event from to first) = fold-within forms_of event from to (bracketed place first)
    go (L.Occurs situation from to first) = fold-occurs forms_of situation from to (bracketed place first)
    go (L.Holds situation first) = fold-holds forms_of situation (bracketed place first)

pub plain_prop-in_brackets : (place : Place) (x : PropTree) → plain_prop (in_brackets place x) ≡ plain_prop x
plain_prop-in_brackets place x = go (out-PropTree x) ∙ sym (fold_out-PropTree PropTree plain_prop_of x)
  where
    go : (layer : PropTree-F PropTree) → plain_prop (in_brackets_of place layer)
        ≡ plain_prop_of (map-PropTree PropTree PropTree plain_prop layer)
    go (L.Const value first) = fold-const plain_prop_of value (bracketed place first)
    go (L.Not part first) = fold-not plain_prop_of part (bracketed place first)
    go (L.All parts first) = fold-all plain_prop_of parts (bracketed place first)
    go (L.Any parts first) = fold-any plain_prop_of parts (bracketed place first)
    go (L.Compare left cmp right first) = fold-compare plain_prop_of left cmp right (bracketed place first)
    go (L.Happens event first) = fold-happens plain_prop_of event (bracketed place first)
    go (L.Before event date first) = fold-before plain_prop_of event date (bracketed place first)
    go (L.After event date first) = fold-after plain_prop_of event date (bracketed place first)
    go (L.Within event from to first) = fold-within plain_prop_of event from to (bracketed place first)
    go (L.Occurs situation from to first) = fold-occurs plain_prop_of situation from to (bracketed place first)
    go (L.Holds situation first) = fold-holds plain_prop_of situation (bracketed place first)
