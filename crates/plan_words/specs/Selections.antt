-- What a command line says, with texts in place of references.
use Rattle.std.specs.Prelude.{List, Bool}
use Rattle.cargo_workspaces.specs.Workspaces.{Text}
use Rattle.cargo_workspaces.specs.Views.{texts}
use Rattle.plan_words.specs.declared.selection.PackageChoice.{PackageChoice}
use Rattle.plan_words.specs.declared.selection.PackageChoice.TheVariants as choice
use Rattle.plan_words.specs.declared.selection.Selection.{Selection}

pub data ChoiceText : Type 0 where
  default_members : ChoiceText
  all_members : ChoiceText
  named : List Text → ChoiceText
  all_but : List Text → ChoiceText

pub record SelectionText : Type 0 where
  pub packages : ChoiceText
  pub features : List Text
  pub all_features : Bool
  pub no_default_features : Bool
  pub split : Bool

abbrev pub choice_text : PackageChoice → ChoiceText
choice_text choice.Default = default_members
choice_text choice.Workspace = all_members
choice_text (choice.Named words) = named (texts words.now)
choice_text (choice.AllBut words) = all_but (texts words.now)

abbrev pub selection_text : Selection → SelectionText
selection_text s = record { packages = choice_text s.packages; features = texts s.features.now; all_features = s.all_features; no_default_features = s.no_default_features; split = s.split }
