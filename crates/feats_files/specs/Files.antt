-- The files that a command line names.
use Rattle.std.specs.Prelude.{◌≡◌, ℕ, List, [], ◌∷◌, ◌⊎◌, Bool, true, false, IsFalse, Ok, Err, codes, IsUtf8, ⊤}
use Rattle.std.specs.Fmt.{decimal}
use Rattle.cargo_workspaces.specs.Workspaces.{Text}
use Rattle.platform_specs.specs.Expressions.{Target}
use Rattle.platform_specs.specs.Faults.{IsCfgFault}
use Rattle.platform_specs.specs.Grammar.{IsTarget}
use Rattle.platform_specs.specs.declared.fault.CfgFault.TheVariants as cfg
use Rattle.cargo_manifests.specs.resolvers.Resolvers.{IsResolverOf, key_text}
use Rattle.cargo_manifests.specs.declared.resolvers.fault.KeyFault.TheVariants.{Unknown, Missing}
use Rattle.cargo_manifests.specs.declared.resolvers.fault.ManifestFault.{ManifestFault}
use Rattle.cargo_manifests.specs.declared.resolvers.fault.ManifestFault.TheVariants as manifest
use Rattle.cargo_manifests.specs.declared.resolvers.resolver.Resolver.{Resolver}
use Rattle.feats_files.specs.Messages.{joined}
use Rattle.feats_words.specs.Arguments.{SourceText, version_given, manifest_at}

abbrev pub manifest_message : ManifestFault → Text
manifest_message manifest.NotText = joined (codes "the manifest isn't UTF-8: pass the root Cargo.toml" ∷ [])
manifest_message manifest.NotToml = joined (codes "the manifest isn't a TOML document: pass the root Cargo.toml" ∷ [])
manifest_message (manifest.Key (Unknown key)) = joined (codes "the manifest's `" ∷ key_text key ∷ codes "` is none that Cargo knows: give the version by --resolver" ∷ [])
manifest_message (manifest.Key (Missing key)) = joined (codes "the manifest has no `" ∷ key_text key ∷ codes "`, which a package inherits: give the version by --resolver" ∷ [])
manifest_message manifest.Memory = codes "out of memory"

-- The version of the resolver is the given one, or the one that the manifest with these bytes chooses.
abbrev pub IsVersion : SourceText → Text → Resolver → Type 0
IsVersion (version_given version) bytes resolver = resolver ≡ version
IsVersion (manifest_at path) bytes resolver = IsResolverOf bytes (Ok resolver)

-- Whether the fault is out of memory. `IsResolverOf` holds for that fault always, so a message may not rest on it.
abbrev pub is_memory : ManifestFault → Bool
is_memory manifest.Memory = true
is_memory _ = false

-- The message is about the manifest with these bytes.
abbrev pub IsManifestRefusal : Text → Text → Type 0
IsManifestRefusal bytes message = (fault : ManifestFault) × IsResolverOf bytes (Err fault) × IsFalse (is_memory fault) × (message ≡ manifest_message fault)

-- The same, if a manifest is to choose the version.
abbrev pub IsVersionRefusal : SourceText → Text → Text → Type 0
IsVersionRefusal (version_given version) bytes message = ⊥
IsVersionRefusal (manifest_at path) bytes message = IsManifestRefusal bytes message

abbrev pub line_message : Text → ℕ → Text
line_message triple line = joined (codes "line " ∷ decimal line ∷ codes " of the cfg text of " ∷ triple ∷ codes " is no fact: make it by `rustc --print cfg --target " ∷ triple ∷ codes " --crate-type proc-macro` without the line `proc_macro`" ∷ [])

abbrev pub text_message : Text → Text
text_message triple = joined (codes "the cfg text of " ∷ triple ∷ codes " isn't UTF-8: make it by `rustc --print cfg --target " ∷ triple ∷ codes " --crate-type proc-macro` without the line `proc_macro`" ∷ [])

-- The bytes are the cfg text of the target with this triple.
abbrev pub IsTargetOf : Text → Text → Target → Type 0
IsTargetOf triple bytes target = IsUtf8 bytes × IsTarget triple bytes target

-- The message is about the bytes of a cfg text: they aren't UTF-8, or a line is malformed.
abbrev pub IsCfgRefusal : Text → Text → Text → Type 0
IsCfgRefusal triple bytes message =
    ((IsUtf8 bytes → ⊥) × (message ≡ text_message triple))
    ⊎ (IsUtf8 bytes × (line : ℕ) × IsCfgFault bytes (cfg.Malformed line) × (message ≡ line_message triple line))

-- A platform, and the bytes of its cfg text.
pub record FileText : Type 0 where
  pub triple : Text
  pub content : Text

abbrev pub AreTargetsOf : List FileText → List Target → Type 0
AreTargetsOf [] [] = ⊤
AreTargetsOf (f ∷ fs) (t ∷ ts) = IsTargetOf f.triple f.content t × AreTargetsOf fs ts
AreTargetsOf [] (t ∷ ts) = ⊥
AreTargetsOf (f ∷ fs) [] = ⊥

-- The message is about the first file that is no cfg text.
abbrev pub IsFirstCfgRefusal : List FileText → Text → Type 0
IsFirstCfgRefusal [] message = ⊥
IsFirstCfgRefusal (f ∷ fs) message = IsCfgRefusal f.triple f.content message ⊎ ((t : Target) × IsTargetOf f.triple f.content t × IsFirstCfgRefusal fs message)

-- The files of the target platforms: that of the host alone, if there are no others.
abbrev pub target_files : FileText → List FileText → List FileText
target_files host [] = host ∷ []
target_files host (f ∷ fs) = f ∷ fs
