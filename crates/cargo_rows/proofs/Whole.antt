-- The rows of a document, by its packages and its other fields.
use Rattle.std.proofs.Common.{◌≡◌, ◌∙◌, sym, ap, refl, map}
use Rattle.std.specs.Prelude.{Result, Ok, Err, IfOk, Option}
use Rattle.json.specs.Json.{Json}
use Rattle.cargo_json.specs.Faults.{Refusal, IfNotMemory}
use Rattle.cargo_json.specs.declared.fault.DocumentFault.{DocumentFault}
use Rattle.cargo_rows.specs.declared.metadata.Rows.{Rows}
use Rattle.workspace_documents.specs.Lists.{ById}
use Rattle.workspace_documents.specs.Packages.{PackageText, packages_at, packages_in}
use Rattle.workspace_documents.specs.Nodes.{ResolvedText, resolved_in}
use Rattle.cargo_rows.specs.Rows.{all_rows, rows_of}
use Rattle.cargo_rows.specs.Warnings.{libraries_of, all_warnings, warnings_of, warning_view}
use Rattle.cargo_json.specs.Parts.{Parts}
use Rattle.workspace_documents.proofs.Lists.{if_not_memory}
use Rattle.workspace_documents.proofs.Whole as whole

module _ (d : Json) (found : Option Json) (rest : Json) (parts : Parts d found rest) (packages : ById PackageText) (were : packages_at found ≡ Ok packages) where
  listed : packages_in d ≡ Ok packages
  listed = whole.listed d found rest parts packages were

  of_resolved : resolved_in packages d ≡ resolved_in packages rest
  of_resolved = whole.of_resolved d found rest parts packages were

  pub resolved_refused : (e : Refusal) → IfNotMemory e (resolved_in packages rest ≡ Err e) → IfNotMemory e (rows_of d ≡ Err e)
  unfolding rows_of
  resolved_refused e h = if_not_memory e (λ (q : resolved_in packages rest ≡ Err e). rw (listed, of_resolved, q) refl) h

  module _ (resolved : ResolvedText) (were_resolved : resolved_in packages rest ≡ Ok resolved) where
    pub rows_are : rows_of d ≡ all_rows resolved.members resolved.nodes packages
    unfolding rows_of
    rows_are = rw (listed, of_resolved, were_resolved) refl

    warnings_are : warnings_of d ≡ Ok (all_warnings (libraries_of (map (λ e. e.1) packages)) resolved.members resolved.nodes packages)
    unfolding warnings_of
    warnings_are = rw (listed, of_resolved, were_resolved) refl

    pub if_warnings : (result : Result Rows DocumentFault) → IfOk result (λ rows. map warning_view rows.warnings.items ≡ all_warnings (libraries_of (map (λ e. e.1) packages)) resolved.members resolved.nodes packages) → IfOk result (λ rows. warnings_of d ≡ Ok (map warning_view rows.warnings.items))
    if_warnings (Ok rows) e = warnings_are ∙ ap Ok (sym e)
    if_warnings (Err fault) e = tt
