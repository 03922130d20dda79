use Rattle.std.proofs.Common.{List, subst, sym}
use Rattle.std.specs.Prelude.{◌≡◌, IfOk, string_bytes}
use Rattle.feats_duplicate_lines.specs.Lines as spec
use Rattle.feats_duplicate_lines.specs.Views.{dependents_text, shown_text}
use Rattle.feats_duplicate_lines.specs.declared.shown.Dependent.{Dependent}
use Rattle.feats_duplicate_lines.specs.declared.shown.Shown.{Shown}
use Rattle.feats_duplicate_lines.proofs.rows.detail_of.Goals as goal

pub returns-in-Version : goal.returns-in-Version
returns-in-Version c = λ names has.
    subst (λ (s : Shown). IfOk c.asked_by.result (λ text. string_bytes text ≡ spec.detail_of names (shown_text s))) (sym c.in-Version.is)
    (subst (λ (ds : List Dependent). IfOk c.asked_by.result (λ text. string_bytes text ≡ spec.asked_by names (dependents_text ds))) c.deref.ensures.value (c.asked_by.ensures names has))

pub returns-in-Alone : goal.returns-in-Alone
returns-in-Alone c = λ names has.
    subst (λ (s : Shown). IfOk c.alone_detail.result (λ text. string_bytes text ≡ spec.detail_of names (shown_text s))) (sym c.in-Alone.is) (c.alone_detail.ensures names has)
