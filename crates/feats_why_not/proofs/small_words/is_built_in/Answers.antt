use Rattle.std.proofs.Common.{◌∙◌, ap, ℕ}
use Rattle.cargo_plans.specs.declared.built_parts.state.PartState.{PartState}
use Rattle.feature_labels.specs.Names.{LabelName}
use Rattle.plan_rows.specs.declared.side.Side.{Side}
use Rattle.feats_why_not.specs.PartView.{part_text}
use Rattle.feats_why_not.specs.Standings.{standing_in}
use Rattle.feats_why_not.specs.Typed.{is_built_standing}
use Rattle.feats_why_not.proofs.small_words.is_built_in.Goals as goal

pub returns : goal.returns
returns c =
    c.is_built.ensures
    ∙ ap is_built_standing (c.standing_of.ensures ∙ ap (λ (states : Side → ℕ → LabelName → PartState). standing_in states (part_text c.args.part)) c.in_ok-built.ensures.parts)
