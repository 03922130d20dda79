use Rattle.std.proofs.Common.{◌∙◌, sym}
use Rattle.cargo_rows.proofs.WarningLists.{no_member, one_member}
use Rattle.cargo_rows.proofs.warnings.warnings_of_packages.Goals as goal

pub loop-id-preserved-in-Continue-branch-2 : goal.loop-id-preserved-in-Continue-branch-2
loop-id-preserved-in-Continue-branch-2 c = λ texts held.
    let member = sym (held c.in-Some.id.now) ∙ sym c.contains.ensures ∙ c.if-contains.true in
    rw (c.in_ok-push_warnings.ensures _ c.in_ok-libraries.ensures) (one_member _ _ _ _ _ _ _ _ _ c.in-Some.ensures.steps (c.loop-id.invariant texts held) _ c.node_at-node.ensures member)

pub loop-id-preserved : goal.loop-id-preserved
loop-id-preserved c = λ texts held.
    no_member _ _ _ _ _ _ _ _ _ c.in-Some.ensures.steps (c.loop-id.invariant texts held) (sym (held c.in-Some.id.now) ∙ sym c.contains.ensures ∙ c.if-contains.false)
