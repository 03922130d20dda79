use Rattle.std.proofs.Common.{sym, ◌∙◌, ap}
use Rattle.std.specs.Str.{bytes_eq}
use Rattle.guppy_features.specs.guppy_packages.Platform.{spec_text, status_of}
use Rattle.uses.specs.Answers.{holds_on}
use Rattle.uses.proofs.Tests.{any_of_made}
use Rattle.uses.proofs.one_platform.OnePlatform.meets.Goals as goal

pub returns-in-PlatformDependent : goal.returns-in-PlatformDependent
returns-in-PlatformDependent c =
    let spec = c.args.self.now.spec.now in
    c.is_among.ensures
    ∙ sym (any_of_made spec_text (λ s. bytes_eq s spec) c.in-PlatformDependent.specs.now)
    ∙ ap (λ s. holds_on spec (status_of s)) (sym c.in-PlatformDependent.is)
