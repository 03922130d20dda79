use Rattle.std.proofs.Common.{map}
use Rattle.cargo_workspaces.specs.Views.{package_text}
use Rattle.feats_unused.specs.Views.{shown_text}
use Rattle.feats_unused.proofs.Lists.{kept_if, pushed_if}
use Rattle.feats_unused.proofs.dead.push_item.Goals as goal

pub returns-in_ok-push : goal.returns-in_ok-push
returns-in_ok-push c = pushed_if shown_text c.args.shown.now.items c.push.new.self.items _ _ c.in_ok-push.ensures.items (c.if-is_dead.ensures (package_text c.args.«package».now) c.requires)

pub returns-else-is_dead : goal.returns-else-is_dead
returns-else-is_dead c = kept_if (map shown_text c.args.shown.now.items) _ _ (c.if-is_dead.ensures (package_text c.args.«package».now) c.requires)
