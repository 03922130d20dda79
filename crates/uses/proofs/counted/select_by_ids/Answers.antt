use Rattle.std.proofs.Common.{◌≡◌, ◌+◌, ◌-◌, ◌^◌, Bool}
use Rattle.std.specs.Borrow.{MutBor}
use Rattle.std.specs.Prelude.{Contains, min}
use Rattle.std.proofs.lemmas.Result.{IfOk-weaker}
use Rattle.guppy_features.specs.Accepted.{AddsToBase}
use Rattle.guppy_features.specs.ListedFilters.{base_of_ids, listed_ids}
use Rattle.guppy_features.specs.guppy_packages.Rows.{Text}
use Rattle.guppy_features.specs.feature_labels.Names.{LabelName}
use Rattle.guppy_features.specs.feature_graph.Filters.{StandardAccepts}
use Rattle.guppy_features.specs.feature_graph.Lent.{lent_accept}
use Rattle.guppy_features.specs.feature_graph.Values.{Graph}
use Rattle.guppy_features.specs.feature_graph.Views.{graph_of}
use Rattle.guppy_features.specs.feature_graph.declared.query.standard.StandardFeatures.{StandardFeatures}
use Rattle.guppy_features.specs.declared.listed_filters.FeatureIdFilter.{FeatureIdFilter}
use Rattle.uses.specs.declared.counted.Counted.{Counted}
use Rattle.uses.proofs.Counting.{counts_workspace, keeps_name}
use Rattle.uses.proofs.counted.select_by_ids.Goals as goal

abbrev counts : Counted StandardFeatures → Graph → Text × LabelName → Bool → Counted StandardFeatures → Type 0
counts s g i r t = (t.asked ≡ min (s.asked + 1) (2 ^ 64 - 1)) × ((t.base ≡ s.base) × StandardAccepts s.base g.tables i r)

abbrev gives : FeatureIdFilter (MutBor (Counted StandardFeatures)) → Graph → Text × LabelName → Bool → FeatureIdFilter (MutBor (Counted StandardFeatures)) → Type 0
gives s g i r t = (listed_ids t ≡ listed_ids s) × AddsToBase (lent_accept counts) (base_of_ids s) g i r (base_of_ids t) (Contains (listed_ids s) i)

pub returns-clause-same_reference : goal.returns-clause-same_reference
returns-clause-same_reference c =
    keeps_name
    gives (λ s. (base_of_ids s).ghost_name) (λ s. (base_of_ids s).now.asked) (λ s g i r t given. (given.1.1.0, given.1.1.1.0))
    (λ query. query.initials) (graph_of c.args.graph) c.args.filter.now _ c.query_workspace.result c.query_workspace.ensures.initials c.query_workspace.ensures.untouched

pub returns-clause-counted : goal.returns-clause-counted
returns-clause-counted c =
    IfOk-weaker
    c.query_workspace.result _ _
    (λ query sel. counts_workspace
    gives (λ s. (base_of_ids s).ghost_name) (λ s. (base_of_ids s).now.asked) (λ s g i r t given. (given.1.1.0, given.1.1.1.0))
    (graph_of c.args.graph) c.args.filter.now _ query.initials sel)
    c.query_workspace.ensures.initials
