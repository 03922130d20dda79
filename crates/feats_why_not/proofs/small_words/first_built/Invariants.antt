use Rattle.std.proofs.Common.{Option, drop, map}
use Rattle.cargo_plans.specs.WordsView.{words_text}
use Rattle.cargo_workspaces.specs.WorkspaceView.{workspace_text}
use Rattle.plan_rows.specs.platforms.HeldSpecs.{holds_on}
use Rattle.feats_why_not.specs.PartView.{part_text}
use Rattle.feats_why_not.specs.Tries.{TypedText}
use Rattle.feats_why_not.specs.Typed.{IsFirst}
use Rattle.feats_why_not.specs.inner.Lists.{typed_value}
use Rattle.feats_why_not.proofs.small_words.first_built.Given as goal

abbrev pub invariant-loop-typed : goal.invariant-loop-typed
invariant-loop-typed l =
    let First = IsFirst (workspace_text l.workspace) (words_text holds_on l.words) (part_text l.part) in
    (typed : Option TypedText) → First (map typed_value (drop l.typed-index l.tries)) typed → First (map typed_value l.tries) typed
