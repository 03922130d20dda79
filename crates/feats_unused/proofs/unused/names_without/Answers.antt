use Rattle.std.proofs.Common.{◌++◌, List, refl, subst, sym}
use Rattle.std.specs.Borrow.{Bor}
use Rattle.cargo_workspaces.specs.Views.{feature_text, package_text, texts}
use Rattle.cargo_workspaces.specs.Workspaces.{Text}
use Rattle.feats_unused.specs.Unused.{AreUnused}
use Rattle.feats_unused.proofs.UnusedLemmas.{names_end, names_more}
use Rattle.feats_unused.proofs.unused.names_without.Goals as goal

pub loop-number-init : goal.loop-number-init
loop-number-init c = λ asked are rest h.
    let features = (package_text c.args.«package».now).features in
    subst (λ (z : List (Bor Text)). AreUnused asked features features (texts z ++ rest)) (sym c.new-names.ensures.items) h

pub loop-number-preserved : goal.loop-number-preserved
loop-number-preserved c = λ asked are rest h.
    let same = c.deref-feature-items.ensures.value in
    let within = rw same at c.loop-number-test.true in
    let at = rw same at c.feature-item.is in
    names_more feature_text c.args.«package».now.features.items asked (package_text c.args.«package».now).features c.loop-number.number c.feature-item.result c.args.used.now c.flag_at.result
    (texts c.loop-number.names.items) (texts c.push_unless.new.names.items) rest refl within at c.flag_at.ensures are c.in_ok-push_unless.ensures (c.loop-number.invariant asked are) h

pub returns : goal.returns
returns c = λ asked are.
    let past = rw c.deref-feature-items.ensures.value at c.loop-number-test.false in
    names_end feature_text c.args.«package».now.features.items asked (package_text c.args.«package».now).features c.loop-number.number (texts c.loop-number.names.items) past (c.loop-number.invariant asked are)
