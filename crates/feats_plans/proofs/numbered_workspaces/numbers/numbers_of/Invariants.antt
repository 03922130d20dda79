use Rattle.std.proofs.Common.{◌≡◌, map, take}
use Rattle.workspace_documents.specs.Views.{text_view}
use Rattle.feats_plans.specs.numbered_workspaces.Numbers.{number_of}
use Rattle.feats_plans.proofs.numbered_workspaces.numbers.numbers_of.Given as goal

abbrev pub invariant-loop-id : goal.invariant-loop-id
invariant-loop-id l = l.numbers.items ≡ map (number_of (map text_view l.ids)) (map text_view (take l.id-index l.named))
