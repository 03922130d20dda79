use Rattle.std.proofs.Common.{refl, map}
use Rattle.std.proofs.lemmas.Result.{IfOk-weaker}
use Rattle.guppy_features.specs.ListedFilters.{listed_names}
use Rattle.guppy_features.specs.feature_graph.Views.{graph_of}
use Rattle.uses.proofs.Selected.{Gives, IsDefaultWith, answers_by_rule, selects}
use Rattle.uses.proofs.workspace.selected.Goals as goal

-- The filter keeps its base and its list, so each answer is by the rule.
pub returns-clause-initials : goal.returns-clause-initials
returns-clause-initials c =
    let g = graph_of c.args.graph in
    let filter = c.in_ok-filter.filter in
    let listed = listed_names filter in
    let names = map (λ name. name.now) c.args.names.now in
    IfOk-weaker
    c.query_workspace.result _ _
    (λ query sel. selects
    Gives g (IsDefaultWith listed) listed (answers_by_rule g listed)
    filter c.query_workspace.new.filter query.initials names (c.in_ok-filter.ensures.base, refl) c.in_ok-filter.ensures.names sel)
    c.query_workspace.ensures.initials
