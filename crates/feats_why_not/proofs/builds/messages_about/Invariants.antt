use Rattle.std.proofs.Common.{◌≡◌, ◌++◌, drop, map}
use Rattle.cargo_plans.specs.built_parts.BuiltViews.{script_in, state_in}
use Rattle.cargo_workspaces.specs.WorkspaceView.{workspace_text}
use Rattle.feats_why_not.specs.PartView.{part_text}
use Rattle.feats_why_not.specs.inner.Lists.{message_about, optional_texts}
use Rattle.feats_why_not.proofs.builds.messages_about.Given as goal

abbrev pub invariant-loop-part : goal.invariant-loop-part
invariant-loop-part l =
    let message = message_about (workspace_text l.workspace).packages l.builds.split (script_in l.builds.scripts) (state_in l.builds.parts) in
    map message (map part_text l.parts) ≡ optional_texts l.messages.items ++ map message (map part_text (drop l.part-index l.parts))
