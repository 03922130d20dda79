use Rattle.std.proofs.Common.{◌≤◌, ◌∙◌, ◌++◌, ℕ, List, ap, length, map, subst, sym}
use Rattle.cargo_workspaces.specs.Views.{texts}
use Rattle.cargo_workspaces.specs.WorkspaceView.{workspace_text}
use Rattle.feats_unused.specs.Shown.{AreLinesAbout}
use Rattle.feats_unused.specs.Views.{shown_text}
use Rattle.feats_unused.specs.declared.shown.Shown.{Shown}
use Rattle.feats_unused.proofs.UnusedLemmas.{lines_at, lines_end, member_below}
use Rattle.feats_unused.proofs.shown_lines.lines_by.Goals as goal

pub loop-member-init : goal.loop-member-init
loop-member-init c = λ requests has others h.
    let w = workspace_text c.args.workspace.now in
    subst (λ (z : List Shown). AreLinesAbout w.packages requests w.members (map shown_text z ++ others)) (sym c.new-shown.ensures.items) h

pub package_at-package-requires : goal.package_at-package-requires
package_at-package-requires c = member_below _ _ _ _ _ c.facts.ensures.2 c.members-member-items.ensures c.loop-member-test.true

pub loop-member-preserved : goal.loop-member-preserved
loop-member-preserved c = λ requests has others h.
    let w = workspace_text c.args.workspace.now in
    let pushed = c.in_ok-push_package.ensures in
    lines_at w.packages requests w.members c.members-member-items.result.now c.members-member-items.ensures c.loop-member.member-index _ _ (texts c.group_of.result.now)
    (map shown_text c.loop-member.shown.items) (map shown_text c.push_package.new.shown.items) pushed.0 others c.loop-member-test.true c.package_at-package.ensures.at
    (ap texts c.group_of.ensures ∙ has _) pushed.2 pushed.1 (c.loop-member.invariant requests has) h

pub returns : goal.returns
returns c = λ requests has.
    let w = workspace_text c.args.workspace.now in
    lines_end w.packages requests w.members c.loop-member.member-index (map shown_text c.loop-member.shown.items)
    (subst (λ (z : List ℕ). length z ≤ c.loop-member.member-index) c.members-member-items.ensures c.loop-member-test.false) (c.loop-member.invariant requests has)
