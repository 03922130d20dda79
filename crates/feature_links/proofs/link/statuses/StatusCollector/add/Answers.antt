use Rattle.std.proofs.Common.{◌≡◌, ◌∙◌, ap, sym, refl, map, Some}
use Rattle.guppy_packages.specs.Platform.{platform_specs, spec_text}
use Rattle.guppy_packages.specs.Stored.{declared}
use Rattle.std.proofs.lemmas.Result.{on_ok_weaker}
use Rattle.feature_links.proofs.StatusLemmas.{always_added, on_all, spec_added}
use Rattle.feature_links.proofs.link.statuses.StatusCollector.add.Goals as goal

pub returns-in_ok-shared_platform-in-Always : goal.returns-in_ok-shared_platform-in-Always
returns-in_ok-shared_platform-in-Always c before h =
    let platform = (declared c.args.declaration.now).platform in
    let none = sym (ap platform_specs c.in-Always.is) ∙ c.platform.ensures in
    always_added c.args.self.now c.new.result platform before none (c.new.ensures ∙ on_all _ platform c.in_ok-shared_platform-in-Always.ensures none) h

pub returns-in-Specs : goal.returns-in-Specs
returns-in-Specs c = on_ok_weaker c.insert_all.result (λ holds before h.
    let texts : platform_specs c.platform.result.now ≡ Some (map spec_text c.as_slice.result.now) = ap platform_specs c.in-Specs.is ∙ ap (λ z. Some (map spec_text z)) (sym c.as_slice.ensures.value) in
    spec_added c.args.self.now (record { always = c.args.self.now.always; specs = c.insert_all.new.set }) (map spec_text c.as_slice.result.now) (declared c.args.declaration.now).platform before (sym texts ∙ c.platform.ensures) refl holds h) c.insert_all.ensures
