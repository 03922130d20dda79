use Rattle.std.proofs.Common.{◌≡◌, sym, subst, map, false}
use Rattle.std.specs.Prelude.{None}
use Rattle.std.specs.List.{find}
use Rattle.workspace_documents.specs.Dependencies.{is_other_name}
use Rattle.workspace_documents.specs.Views.{dependency_view}
use Rattle.workspace_documents.specs.declared.dependencies.Dependency.{Dependency}
use Rattle.workspace_documents.specs.inner.Aliases.{has_id}
use Rattle.workspace_documents.proofs.dependencies.check_names.Goals as goal

pub other_name_if_aliased-requires : goal.other_name_if_aliased-requires
other_name_if_aliased-requires c =
    subst (λ (d : Dependency). has_id c.in_ok-aliased.aliased d.target.now.id.now ≡ false → find (is_other_name (dependency_view d)) (map dependency_view c.args.dependencies.now) ≡ None) (sym c.one-item.is)
    (c.in_ok-aliased.ensures c.loop-one.one-index c.one-item.result c.loop-one-test.true)
