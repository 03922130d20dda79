use Rattle.std.proofs.Common.{map, rules}
use Rattle.std.proofs.lemmas.Result.{IfOk-weaker}
use Rattle.cargo_plans.specs.WordsView.{words_text}
use Rattle.cargo_workspaces.specs.WorkspaceView.{workspace_text}
use Rattle.plan_rows.specs.platforms.HeldSpecs.{holds_on}
use Rattle.feats_why_not.specs.PartView.{part_text}
use Rattle.feats_why_not.specs.inner.Lists.{texts_of}
use Rattle.feats_why_not.proofs.FoundLemmas.{unplanned}
use Rattle.feats_why_not.proofs.widened_sections.widened_sections.Goals as goal

pub returns-else-is_memory : goal.returns-else-is_memory
returns-else-is_memory c =
    IfOk-weaker c.unplanned_sections.result _ _ (λ sections shown.
    unplanned c.args.form c.args.base.alone (workspace_text c.args.base.workspace.now) (words_text holds_on c.args.base.words.now) (words_text holds_on c.args.words.now) c.args.widening c.in-Err.fault (map part_text c.args.parts.now) (texts_of sections.items)
    c.in-Err.ensures.fault (search rules) shown)
    c.unplanned_sections.ensures
