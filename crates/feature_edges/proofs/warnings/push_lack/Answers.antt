use Rattle.std.proofs.Common.{◌∙◌, ◌++◌, ◌∷◌, [], ap, sym}
use Rattle.std.proofs.lemmas.Result.{on_ok_weaker}
use Rattle.guppy_packages.specs.Metadata.{package_id_of, package_table_of}
use Rattle.guppy_packages.specs.Tables.{has_feature}
use Rattle.feature_edges.specs.Warnings.{warnings_in, missing_feature}
use Rattle.feature_edges.proofs.WarningLemmas.{warned, unwarned}
use Rattle.feature_edges.proofs.warnings.push_lack.Goals as goal

pub returns-then-found : goal.returns-then-found
returns-then-found c =
    let g = c.args.name.now in
    unwarned (has_feature g (package_table_of c.args.metadata).features) (warnings_in c.args.warnings.now) (missing_feature (package_id_of c.args.metadata) g) (sym c.requires ∙ c.if-found.true)

pub returns : goal.returns
returns c =
    let g = c.args.name.now in
    let id = package_id_of c.args.metadata in
    let before = warnings_in c.args.warnings.now in
    on_ok_weaker c.push_missing.result
    (λ told. warned (has_feature g (package_table_of c.args.metadata).features) before (warnings_in c.push_missing.new.warnings) (missing_feature id g) (sym c.requires ∙ c.if-found.false)
    (told ∙ ap (λ z. before ++ missing_feature id z ∷ []) c.in_ok-from_str.ensures.ok))
    c.push_missing.ensures
