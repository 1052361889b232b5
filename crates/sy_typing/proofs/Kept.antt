-- What a plan keeps is what its specification has.
use Rattle.std.proofs.Common.{◌≡◌, ℕ, List, None, ap, subst, ◌∙◌}
use Rattle.std.specs.List.{flat_map}
use Rattle.sy_core.specs.declared.deed.Deed.{Deed}
use Rattle.sy_spec.specs.declared.contract.SpecTree.{SpecTree}
use Rattle.sy_domain.specs.Ontologies.{Domain, domain_of}
use Rattle.sy_scope.specs.Scopes.{Things, things_of}
use Rattle.sy_typing.specs.Outlines.{outline}
use Rattle.sy_typing.specs.Plans.{node_texts, order_line, order_of_spec, order_text, spec_fault}

module _ (kept spec : SpecTree) (is : kept ≡ spec) where
  pub kept_things : (things : Things) → things ≡ things_of kept → things ≡ things_of spec
  kept_things things named = named ∙ ap things_of is

  pub kept_domain : (things : Things) (domain : Domain) → domain ≡ things.domain → things ≡ things_of kept → domain ≡ domain_of spec
  kept_domain things domain given named = given ∙ (ap (λ (t : Things). t.domain) named ∙ ap domain_of is)

  pub kept_order : (order given : List ℕ) → given ≡ order → order ≡ order_of_spec kept → given ≡ order_of_spec spec
  kept_order order given same ordered = same ∙ (ordered ∙ ap order_of_spec is)

  pub kept_outline : (deed : Deed) → deed ≡ outline kept → deed ≡ outline spec
  kept_outline deed outlined = outlined ∙ ap outline is

  pub kept_text : (deed : Deed) (order given text : List ℕ) → deed ≡ outline kept → given ≡ order → order ≡ order_of_spec kept
      → text ≡ flat_map order_line (node_texts deed given) → text ≡ order_text spec
  kept_text deed order given text outlined same ordered told =
      told
      ∙ (ap (λ (d : Deed). flat_map order_line (node_texts d given)) (kept_outline deed outlined)
      ∙ ap (λ (l : List ℕ). flat_map order_line (node_texts (outline spec) l)) (kept_order order given same ordered))

  pub kept_soundness : spec_fault kept ≡ None → spec_fault spec ≡ None
  kept_soundness sound = subst (λ (s : SpecTree). spec_fault s ≡ None) is sound
