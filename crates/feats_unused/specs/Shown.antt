-- The lines about unused features and dead items.
use Rattle.std.specs.Prelude.{◌≡◌, ℕ, List, [], ◌∷◌, ◌++◌, Some, codes, flat_map, if◌then◌else◌, slice_get}
use Rattle.std.specs.Str.{bytes_eq}
use Rattle.guppy_packages.specs.Items.{item_of}
use Rattle.cargo_workspaces.specs.Workspaces.{FeatureText, PackageText, Text, WorkspaceText}
use Rattle.feats_unused.specs.Dead.{is_dead}
use Rattle.feats_unused.specs.Requests.{RequestText, all_requests, asked_of}
use Rattle.feats_unused.specs.Unused.{AreUnused}

-- A line: a feature of a package that nobody uses; a dead item of a feature.
pub data ShownText : Type 0 where
  unused : PackageText → Text → ShownText
  dead : PackageText → Text → Text → ShownText

-- `default` has no line: it is on whenever its package is selected, unless the command line turns it off.
abbrev pub unused_line : PackageText → Text → List ShownText
unused_line x name = if bytes_eq name (codes "default") then [] else unused x name ∷ []

abbrev pub dead_line : PackageText → FeatureText → Text → List ShownText
dead_line x f item = if is_dead x (item_of item) then dead x f.name item ∷ [] else []

abbrev pub dead_lines_of : PackageText → FeatureText → List ShownText
dead_lines_of x f = flat_map (dead_line x f) f.items

abbrev pub dead_lines : PackageText → List ShownText
dead_lines x = flat_map (dead_lines_of x) x.features

-- The lines about package `x`, of which others ask for these features: its unused features, then its dead items.
pub record AreLinesOf (asked : List Text) (x : PackageText) (lines : List ShownText) : Type 0 where
  pub names : List Text
  pub are_unused : AreUnused asked x.features x.features names
  pub are_lines : lines ≡ flat_map (unused_line x) names ++ dead_lines x

-- The lines about the packages with these numbers, one after the other.
pub data AreLinesAbout (packages : List PackageText) (requests : List RequestText) : List ℕ → List ShownText → Type 0 where
  none : AreLinesAbout packages requests [] []
  one : (m : ℕ) (ms : List ℕ) (x : PackageText) (own others : List ShownText) → slice_get packages m ≡ Some x → AreLinesOf (asked_of requests m) x own
      → AreLinesAbout packages requests ms others → AreLinesAbout packages requests (m ∷ ms) (own ++ others)

-- ALL LINES of a workspace: those about its members.
abbrev pub AreLines : WorkspaceText → List ShownText → Type 0
AreLines w lines = AreLinesAbout w.packages (all_requests w) w.members lines
