use Rattle.std.proofs.Common.{ℕ, Bool, ◌∙◌, ap}
use Rattle.std.proofs.lemmas.Result.{IfOk-weaker}
use Rattle.cargo_workspaces.specs.Views.{package_text}
use Rattle.feature_labels.specs.Names.{LabelName}
use Rattle.plan_rows.specs.declared.side.Side.{Side}
use Rattle.feats_answers.specs.ListTexts.{feature_text}
use Rattle.feats_answers.proofs.list_texts.package_features.Goals as goal

pub returns : goal.returns
returns c =
    IfOk-weaker c.features_by.result _ _ (λ text is.
    is ∙ ap (λ (built : Side → ℕ → LabelName → Bool). feature_text c.args.format built c.args.ix (package_text c.args.«package».now)) c.in_ok-parts.ensures.built)
    c.features_by.ensures
