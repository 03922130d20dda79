use Rattle.std.proofs.Common.{◌≡◌, ℕ}
use Rattle.std.specs.Prelude.{filter}
use Rattle.guppy_packages.specs.Rows.{Text}
use Rattle.feature_links.specs.inner.LinkOrder.{AreByName}
use Rattle.feature_links.specs.NamedLinks.{is_link_under, link_numbers}
use Rattle.feature_links.proofs.links_by_name.named_links.Given as goal

abbrev pub invariant-loop-ix : goal.invariant-loop-ix
invariant-loop-ix l = AreByName l.graph l.ix l.links.items × ((p : ℕ) (name : Text) → filter (is_link_under l.graph p name) l.links.items ≡ link_numbers l.graph p name)
