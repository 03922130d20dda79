use Rattle.std.proofs.Common.{◌∙◌, map, sym, ap}
use Rattle.std.specs.List.{list_any}
use Rattle.std.specs.Str.{bytes_eq}
use Rattle.guppy_packages.specs.Platform.{spec_text, status_of}
use Rattle.guppy_features.specs.Platforms.{holds_where}
use Rattle.guppy_features.proofs.PlatformLemmas.{any_of_made, any_same}
use Rattle.guppy_features.proofs.platform_visitor.holds.Goals as goal

pub returns-in-PlatformDependent : goal.returns-in-PlatformDependent
returns-in-PlatformDependent c =
    let specs = c.args.specs.now in
    let listed = c.in-PlatformDependent.listed.now in
    c.are_met.ensures
    ∙ any_same _ _ listed (λ l. sym (any_of_made (λ s. s.now) (bytes_eq (spec_text l)) specs))
    ∙ sym (any_of_made spec_text (λ s. list_any (bytes_eq s) (map (λ t. t.now) specs)) listed)
    ∙ ap (λ s. holds_where (map (λ t. t.now) specs) (status_of s)) (sym c.in-PlatformDependent.is)
