use Rattle.std.proofs.Common.{◌∙◌, ◌++◌, ap, codes, append_assoc}
use Rattle.std.specs.String.{string_bytes}
use Rattle.cargo_workspaces.specs.Views.{package_text}
use Rattle.feats_lines.specs.Lines.{label_of}
use Rattle.feats_duplicate_lines.specs.Lines.{label_more}
use Rattle.feats_duplicate_lines.specs.declared.shown.Dependent.{Dependent}
use Rattle.feats_duplicate_lines.proofs.Lists.{flat_more}
use Rattle.feats_duplicate_lines.proofs.asked.push_more.Goals as goal

pub loop-dependent-preserved : goal.loop-dependent-preserved
loop-dependent-preserved c = λ names has.
    let label = label_of names (package_text c.dependent-item.result.«package».now) in
    flat_more (λ (d : Dependent). package_text d.«package».now) (label_more names) c.args.dependents.now c.loop-dependent.dependent-index c.dependent-item.result _ _ _
    c.loop-dependent-test.true c.dependent-item.is (c.loop-dependent.invariant names has)
    (c.in_ok-push_label.ensures names has ∙ ap (λ t. t ++ label) c.in_ok-push_str.ensures.bytes ∙ append_assoc (string_bytes c.loop-dependent.text) (codes ", ") label)
