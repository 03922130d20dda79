-- The values that Rust's types contain.
use Rattle.std.specs.Prelude.{Bool}
use Rattle.cargo_workspaces.specs.Workspaces.{Text}
use Rattle.feats_list.specs.platforms.Lists.{PlaceText}
use Rattle.feats_list.specs.declared.platforms.places.NamedPlatform.{NamedPlatform}

-- `holds` is what a platform's value means.
abbrev pub place_text : {P : Type 0} → (P → Text → Bool) → NamedPlatform P → PlaceText
place_text holds p = record { name = p.name.now; holds = holds p.platform.now }
