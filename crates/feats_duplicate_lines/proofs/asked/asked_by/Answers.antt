use Rattle.std.proofs.Common.{◌≡◌, List, ap, arith, subst, sym}
use Rattle.std.specs.Prelude.{IfOk, string_bytes}
use Rattle.cargo_workspaces.specs.Workspaces.{PackageText}
use Rattle.feats_duplicate_lines.specs.Lines as spec
use Rattle.feats_duplicate_lines.specs.Views.{dependents_text}
use Rattle.feats_duplicate_lines.proofs.Lists.{cut_first}
use Rattle.feats_duplicate_lines.proofs.asked.asked_by.Goals as goal

pub returns-in-len1-up : goal.returns-in-len1-up
returns-in-len1-up c = λ names has.
    let parted = ap dependents_text (cut_first c.args.dependents.now c.first-item.result (omega (arith, c.in-len1-up.len_at_least)) c.first-item.is) in
    subst (λ (ps : List PackageText). IfOk c.asked_by_some.result (λ text. string_bytes text ≡ spec.asked_by names ps)) (sym parted) (c.asked_by_some.ensures names has)
