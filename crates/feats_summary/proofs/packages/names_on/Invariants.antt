use Rattle.std.proofs.Common.{◌≡◌, ◌++◌, List, drop, filter, map}
use Rattle.cargo_workspaces.specs.Views.{declaration_text, texts}
use Rattle.cargo_workspaces.specs.Workspaces.{DeclarationText, Text}
use Rattle.feats_summary.specs.Packages.{is_optional_on}
use Rattle.feats_summary.proofs.packages.names_on.Given as goal

abbrev pub invariant-loop-declaration : goal.invariant-loop-declaration
invariant-loop-declaration l =
    let names_of : List DeclarationText → List Text = λ ds. map (λ d. d.name) (filter (is_optional_on l.on l.side l.ix) ds) in
    names_of (map declaration_text l.declarations) ≡ texts l.names.items ++ names_of (map declaration_text (drop l.declaration-index l.declarations))
