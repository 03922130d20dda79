-- The version of the resolver and the platforms of a plan.
use Rattle.std.specs.Prelude.{List}
use Rattle.cargo_workspaces.specs.Workspaces.{Text}
use Rattle.platform_specs.specs.Expressions.{Target}
use Rattle.cargo_manifests.specs.declared.resolvers.resolver.Resolver.{Resolver}
use Rattle.feats_files.specs.Files.{AreTargetsOf, IsCfgRefusal, IsFirstCfgRefusal, IsTargetOf, IsVersion, IsVersionRefusal, target_files}
use Rattle.feats_plans.specs.Inputs.{InputsText}

pub record BasisText : Type 0 where
  pub version : Resolver
  pub host : Target
  pub targets : List Target

-- The basis of a plan: the version of the resolver, the host, and the target platforms.
pub record IsBasis (inputs : InputsText) (basis : BasisText) : Type 0 where
  pub version : IsVersion inputs.arguments.resolver inputs.manifest basis.version
  pub host : IsTargetOf inputs.host.triple inputs.host.content basis.host
  pub targets : AreTargetsOf (target_files inputs.host inputs.targets) basis.targets

-- The message is about the first of these files that is at fault: the manifest, the host's, and those of the targets.
pub data IsBasisRefusal (inputs : InputsText) (message : Text) : Type 0 where
  of_manifest : IsVersionRefusal inputs.arguments.resolver inputs.manifest message → IsBasisRefusal inputs message
  of_host : (version : Resolver) → IsVersion inputs.arguments.resolver inputs.manifest version → IsCfgRefusal inputs.host.triple inputs.host.content message → IsBasisRefusal inputs message
  of_targets :
      (version : Resolver) → IsVersion inputs.arguments.resolver inputs.manifest version
      → (host : Target) → IsTargetOf inputs.host.triple inputs.host.content host
      → IsFirstCfgRefusal (target_files inputs.host inputs.targets) message → IsBasisRefusal inputs message
