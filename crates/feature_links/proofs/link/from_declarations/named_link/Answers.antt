use Rattle.std.proofs.Common.{◌≡◌, ◌∙◌, ◌<◌, ℕ, List, Some, length, ap, subst}
use Rattle.std.specs.Prelude.{slice_get}
use Rattle.std.proofs.lemmas.Result.{IfOk-weaker}
use Rattle.guppy_packages.specs.Rows.{Text}
use Rattle.guppy_packages.specs.Tables.{Tables}
use Rattle.feature_labels.specs.declared.link_declarations.LinkDeclarations.{LinkDeclarations}
use Rattle.feature_links.specs.Links.{by_name, includes, links_at, over}
use Rattle.feature_links.specs.NamedLinks.{link_numbers}
use Rattle.feature_links.proofs.LinkLemmas.{named_at}
use Rattle.feature_links.proofs.GroupedLinks.{numbers_below}
use Rattle.feature_links.proofs.link.from_declarations.named_link.Goals as goal

module _ (t : Tables) (p : ℕ) (name : Text) (numbers : List ℕ) (are : numbers ≡ link_numbers t p name) where
  below : (i k : ℕ) → slice_get numbers i ≡ Some k → k < length t.links
  below i k h = numbers_below t p name i k (subst (λ z. slice_get z i ≡ Some k) are h)

  by_numbers : (which : LinkDeclarations) → over which (λ x. includes which x) (links_at t numbers) ≡ by_name t p which name
  by_numbers which = ap (λ z. over which (λ x. includes which x) (links_at t z)) are ∙ ap (over which (λ x. includes which x)) (named_at t p name)

pub links_over-requires : goal.links_over-requires
links_over-requires c = below c.args.graph.now c.args.package_ix c.args.name.now c.numbers_of-links.result.now (c.numbers_of-links.ensures ∙ c.requires c.args.package_ix c.args.name.now)

pub returns : goal.returns
returns c = IfOk-weaker c.links_over.result _ _ (λ l holds. holds
    ∙ by_numbers c.args.graph.now c.args.package_ix c.args.name.now c.numbers_of-links.result.now (c.numbers_of-links.ensures ∙ c.requires c.args.package_ix c.args.name.now) c.args.which) c.links_over.ensures
