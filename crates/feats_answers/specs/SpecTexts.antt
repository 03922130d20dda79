-- The text about the platform specs of a workspace.
use Rattle.std.specs.Prelude.{List, [], ◌∷◌, Bool, map, codes}
use Rattle.std.specs.List.{zip}
use Rattle.cargo_workspaces.specs.Workspaces.{Text}
use Rattle.plan_rows.specs.platforms.DeclaredSpecs.{DeclaredText}
use Rattle.feats_list.specs.platforms.Lines.{IsSpecLines}
use Rattle.feats_list.specs.platforms.Lists.{PlaceText}
use Rattle.feats_list.specs.platforms.Objects.{IsSpecObjects}
use Rattle.feats_files.specs.Files.{FileText}
use Rattle.feats_words.specs.declared.command_arguments.Format.{Format}
use Rattle.feats_words.specs.declared.command_arguments.Format.TheVariants as format
use Rattle.feats_answers.specs.PlanTexts.{target_names}

abbrev pub place_of : Text × (Text → Bool) → PlaceText
place_of p = record { name = p.0; holds = p.1 }

abbrev pub named_places : List Text → List (Text → Bool) → List PlaceText
named_places names platforms = map place_of (zip names platforms)

-- The target platforms that are shown: without files of their own there is none, besides the host.
abbrev pub shown_targets : List FileText → List (Text → Bool) → List PlaceText
shown_targets [] targets = []
shown_targets (f ∷ fs) targets = named_places (target_names (f ∷ fs)) targets

-- The places of a build: the host, and then the target platforms of these files.
abbrev pub places : List FileText → (Text → Bool) → List (Text → Bool) → List PlaceText
places files host targets = place_of (codes "host", host) ∷ shown_targets files targets

abbrev pub IsSpecText : Format → List DeclaredText → List PlaceText → Text → Type 0
IsSpecText format.Text declared shown text = IsSpecLines declared shown text
IsSpecText format.Json declared shown text = IsSpecObjects declared shown text
