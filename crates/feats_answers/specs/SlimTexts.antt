-- The text about the edits by which a build is smaller, by the bytes of the manifests.
use Rattle.std.specs.Prelude.{◌≡◌, List, [], ◌∷◌, codes}
use Rattle.cargo_workspaces.specs.Workspaces.{Text, WorkspaceText}
use Rattle.cargo_plans.specs.Plans.{WordsText}
use Rattle.cargo_plans.specs.plan_units.Units.{UnitText}
use Rattle.toml.specs.Data.{Data}
use Rattle.cargo_manifests.specs.inherited.Manifests.{AreManifests, IsNoManifests}
use Rattle.feats_files.specs.Messages.{joined}
use Rattle.feats_words.specs.declared.command_arguments.Format.{Format}
use Rattle.feats_slim.specs.answers.Texts.{IsSlimText}

-- The text about these units, by the manifests in the bytes. Without bytes nothing is inherited.
pub record IsSlimBy (form : Format) (bytes : Text) (w : WorkspaceText) (words : WordsText) (units : List UnitText) (text : Text) : Type 0 where
  pub manifests : List Data
  pub are_manifests : AreManifests bytes manifests
  pub is_text : IsSlimText form w manifests words units text

abbrev pub manifests_message : Text
manifests_message = joined (codes "a manifest of the members isn't a TOML document: end each with a NUL byte" ∷ [])

-- The message why there is none: a manifest is no TOML document.
pub record IsNoSlim (bytes message : Text) : Type 0 where
  pub are_none : IsNoManifests bytes
  pub is_message : message ≡ manifests_message
