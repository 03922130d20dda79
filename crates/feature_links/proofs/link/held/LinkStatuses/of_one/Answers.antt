use Rattle.std.proofs.Common.{◌∙◌, ap, sym}
use Rattle.guppy_packages.specs.Platform.{always_status, impl_status, platform_specs}
use Rattle.guppy_packages.specs.Stored.{declared}
use Rattle.std.proofs.lemmas.Result.{IfOk-weaker}
use Rattle.feature_links.specs.Values.{held_status, statuses_of}
use Rattle.feature_links.specs.inner.Shared.{kind_over}
use Rattle.feature_links.proofs.StatusLemmas.{none_always, one_over, one_status}
use Rattle.feature_links.proofs.link.held.LinkStatuses.of_one.Goals as goal

pub returns-in-Always : goal.returns-in-Always
returns-in-Always c = IfOk-weaker c.always.result _ _ (λ s is.
    let d = declared c.args.declaration.now in
    is
    ∙ ap (λ z. kind_over c.args.which z always_status) c.kind-kind.ensures
    ∙ one_over c.args.which d always_status (none_always d.platform (sym (ap platform_specs c.in-Always.is) ∙ c.platform.ensures))) c.always.ensures

pub returns : goal.returns
returns c =
    let d = declared c.args.declaration.now in
    let platform = c.in_ok-shared_platform.field-0.value in
    ap statuses_of c.in_ok-new.ensures.ok
    ∙ c.of_kind-statuses.ensures
    ∙ ap (λ z. kind_over c.args.which z (held_status c.new-only.result)) c.kind-kind.ensures
    ∙ ap (kind_over c.args.which d.kind) c.new-only.ensures
    ∙ one_over c.args.which d (impl_status platform) (one_status platform d.platform c.in_ok-shared_platform.ensures)
