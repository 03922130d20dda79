use Rattle.std.proofs.Common.{◌≡◌, ◌++◌, drop, map}
use Rattle.cargo_plans.specs.WordsView.{words_text}
use Rattle.cargo_workspaces.specs.WorkspaceView.{workspace_text}
use Rattle.plan_rows.specs.platforms.HeldSpecs.{holds_on}
use Rattle.feats_why_not.specs.PartView.{part_text}
use Rattle.feats_why_not.specs.inner.Lists.{answer_text, same_sections, texts_of}
use Rattle.feats_why_not.proofs.widened_sections.same_sections.Given as goal

abbrev pub invariant-loop-part : goal.invariant-loop-part
invariant-loop-part l =
    let sections = same_sections l.form (workspace_text l.workspace).packages (words_text holds_on l.words) l.widening (answer_text l.answer) in
    sections (map part_text l.parts) ≡ texts_of l.sections.items ++ sections (map part_text (drop l.part-index l.parts))
