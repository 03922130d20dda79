use Rattle.std.proofs.Common.{◌≡◌, ◌∙◌, ◌++◌, ◌∷◌, [], ap, sym}
use Rattle.std.specs.Prelude.{codes}
use Rattle.std.specs.String.{string_bytes}
use Rattle.std.proofs.lemmas.Result.{on_ok_weaker}
use Rattle.guppy_packages.specs.Metadata.{package_id_of, package_table_of}
use Rattle.guppy_packages.specs.Tables.{has_name}
use Rattle.feature_edges.specs.Warnings.{warnings_in, missing_feature}
use Rattle.feature_edges.proofs.WarningLemmas.{warned, unwarned}
use Rattle.feature_edges.proofs.warnings.push_lack_of_dependency.Goals as goal

pub returns-then-found : goal.returns-then-found
returns-then-found c =
    let d = c.args.name.now in
    unwarned (has_name d (package_table_of c.args.metadata).optional_names) (warnings_in c.args.warnings.now) (missing_feature (package_id_of c.args.metadata) (codes "dep:" ++ d)) (sym c.requires ∙ c.if-found.true)

pub returns : goal.returns
returns c =
    let d = c.args.name.now in
    let id = package_id_of c.args.metadata in
    let before = warnings_in c.args.warnings.now in
    let text : string_bytes c.push_str.new.self ≡ codes "dep:" ++ d = c.in_ok-push_str.ensures.bytes ∙ ap (λ z. z ++ d) c.in_ok-text.ensures.ok in
    on_ok_weaker c.push_missing.result
    (λ told. warned (has_name d (package_table_of c.args.metadata).optional_names) before (warnings_in c.push_missing.new.warnings) (missing_feature id (codes "dep:" ++ d)) (sym c.requires ∙ c.if-found.false)
    (told ∙ ap (λ z. before ++ missing_feature id z ∷ []) text))
    c.push_missing.ensures
