-- The features with the optional dependency before each item that waits for one: its text is a gate.
use Rattle.std.specs.Prelude.{◌≡◌, List, map, flat_map, Option}
use Rattle.std.specs.String.{string_bytes}
use Rattle.guppy_packages.specs.Items.{item_of}
use Rattle.cargo_workspaces.specs.Views.{texts}
use Rattle.cargo_workspaces.specs.Workspaces.{Text, FeatureText, PackageText}
use Rattle.plan_rows.specs.Steps.{command_list, gate_of, gated_feature}
use Rattle.plan_rows.specs.declared.gates.Gates.{Gates}
use Rattle.plan_rows.specs.declared.gated_features.GatedFeature.{GatedFeature}
use Rattle.plan_rows.specs.declared.gated_features.GatedFeatures.{GatedFeatures}
use Rattle.plan_rows.specs.declared.gated_features.Items.{Items}
use Rattle.plan_rows.specs.declared.gated_features.Items.TheVariants as kept

-- The gates of a feature's items, in their order.
abbrev pub gates_of : FeatureText → List Text
gates_of f = flat_map (λ item. gate_of (item_of item)) f.items

-- The gates of the features of each package, and of each command feature.
abbrev pub AreGates : List PackageText → List (Option FeatureText) → Gates → Type 0
AreGates packages commands g =
    (map (λ p. map (λ f. map string_bytes f.items) p.items) g.packages.items ≡ map (λ p. map gates_of p.features) packages)
    × (map (λ p. map (λ f. map string_bytes f.items) p.items) g.commands.items ≡ map (λ c. map gates_of (command_list c)) commands)

abbrev pub item_texts : Items → List Text
item_texts (kept.Own items) = texts items.now
item_texts (kept.Gated items) = texts items.items

abbrev pub gated_text : GatedFeature → FeatureText
gated_text f = record { name = f.name.now; items = item_texts f.items }

-- The features of each package and each command feature, with gates.
abbrev pub AreGated : List PackageText → List (Option FeatureText) → GatedFeatures → Type 0
AreGated packages commands g =
    (map (λ p. map gated_text p.items) g.packages.items ≡ map (λ p. map gated_feature p.features) packages)
    × (map (λ c. map gated_text c.items) g.commands.items ≡ map (λ c. map gated_feature (command_list c)) commands)
