use Rattle.std.proofs.Common.{◌∙◌, ap, length, map, sym}
use Rattle.std.proofs.lemmas.List.{length-map}
use Rattle.std.specs.String.{string_bytes}
use Rattle.cargo_workspaces.specs.Views.{texts}
use Rattle.feats_tree.specs.dots.Views.{node_text}
use Rattle.cargo_plans.specs.plan_units.UnitViews.{unit_text}
use Rattle.feats_tree.proofs.PackagesShown.{graph_of}
use Rattle.feats_tree.proofs.packages.dots.titled_dot.Goals as goal

pub returns : goal.returns
returns c =
    graph_of c.dot_text.result (texts c.args.names.now) (map unit_text c.args.units.now) (map string_bytes c.args.titles.now) c.args.links.now (length c.args.names.now) (texts c.deref.result.now) (map node_text c.deref-2.result.now)
    (ap texts c.deref.ensures.value ∙ c.in_ok-clusters.ensures) (ap (map node_text) c.deref-2.ensures.value ∙ c.in_ok-nodes.ensures) (sym (length-map c.args.names.now (λ t. t.now))) c.dot_text.ensures
