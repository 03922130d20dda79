-- Visitors for a platform as values.
use Rattle.std.specs.Prelude.{List, map}
use Rattle.guppy_packages.specs.Rows.{Text}
use Rattle.guppy_packages.specs.declared.row.DependencyKind.{DependencyKind}
use Rattle.guppy_features.specs.declared.platform_visitor.PlatformVisitor.{PlatformVisitor}

-- the dependency kinds of the visitor
abbrev pub kinds_of : PlatformVisitor → List DependencyKind
kinds_of v = v.kinds.now

abbrev pub specs_of : PlatformVisitor → List Text
specs_of v = map (λ s. s.now) v.specs.now
