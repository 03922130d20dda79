-- The words for the kinds of declarations.
use Rattle.std.specs.Prelude.{codes}
use Rattle.cargo_workspaces.specs.Workspaces.{Text}
use Rattle.cargo_workspaces.specs.declared.package.Kind.{Kind}
use Rattle.cargo_workspaces.specs.declared.package.Kind.TheVariants as kind

abbrev pub kind_word : Kind → Text
kind_word kind.Normal = codes "normal"
kind_word kind.Build = codes "build"
kind_word kind.Development = codes "dev"
