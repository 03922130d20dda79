use Rattle.std.proofs.Common.{◌∙◌, ap, map}
use Rattle.std.specs.String.{string_bytes}
use Rattle.feats.specs.comparisons.differences.Views.{build_text}
use Rattle.feats.proofs.WhyLists.{last_lines, ok_with}
use Rattle.plan_whys.specs.StepViews.{last_text}
use Rattle.feats_why.specs.Views.{steps_text}
use Rattle.feats.proofs.comparisons.differences.whys.lines_of.Goals as goal

pub returns : goal.returns
returns c =
    ok_with _ _ c.without_feeds.result c.without_feeds.ensures (λ whys shown.
    last_lines (build_text c.args.build.now) _ (map last_text c.args.lasts.now) (map steps_text c.deref.result.now) (map string_bytes c.deref-2.result.now) (map string_bytes whys.items)
    c.settings_of-settings.ensures (ap (map steps_text) c.deref.ensures.value ∙ c.in_ok-lists.ensures) (ap (map string_bytes) c.deref-2.ensures.value ∙ c.in_ok-lines.ensures) shown)
