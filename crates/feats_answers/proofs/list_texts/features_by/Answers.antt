use Rattle.std.proofs.Common.{ℕ, ◌∙◌, ap, sym}
use Rattle.std.specs.Global.{Vec}
use Rattle.cargo_plans.specs.built_parts.BuiltViews.{is_built_in}
use Rattle.cargo_workspaces.specs.Views.{package_text}
use Rattle.feats_words.specs.declared.command_arguments.Format.{Format}
use Rattle.feats_answers.specs.ListTexts.{feature_text}
use Rattle.feats_answers.proofs.list_texts.features_by.Goals as goal

pub returns-in_ok-feature_lines-in-Text : goal.returns-in_ok-feature_lines-in-Text
returns-in_ok-feature_lines-in-Text c =
    ap (λ (v : Vec ℕ). v.items) c.into_bytes.ensures.value ∙ c.in_ok-feature_lines-in-Text.ensures
    ∙ ap (λ (f : Format). feature_text f (is_built_in c.args.parts.now) c.args.ix (package_text c.args.«package».now)) (sym c.in-Text.is)
