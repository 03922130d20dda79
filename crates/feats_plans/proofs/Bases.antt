-- Why there is no basis of a plan.
use Rattle.std.proofs.Common.{◌≡◌, List, subst}
use Rattle.cargo_workspaces.specs.Workspaces.{Text}
use Rattle.platform_specs.specs.Expressions.{Target}
use Rattle.cargo_manifests.specs.declared.resolvers.resolver.Resolver.{Resolver}
use Rattle.feats_files.specs.Files.{FileText, IsCfgRefusal, IsFirstCfgRefusal, IsTargetOf, IsVersion, target_files}
use Rattle.feats_plans.specs.Bases.{IsBasisRefusal, of_host, of_targets}
use Rattle.feats_plans.specs.Inputs.{InputsText}

-- with the version and the bytes of the host's file, under other names
module _ (inputs : InputsText) (version : Resolver) (manifest : Text) (are : manifest ≡ inputs.manifest) (chosen : IsVersion inputs.arguments.resolver manifest version) (bytes : Text) (same : bytes ≡ inputs.host.content) where
  by_manifest : IsVersion inputs.arguments.resolver inputs.manifest version
  by_manifest = subst (λ m. IsVersion inputs.arguments.resolver m version) are chosen

  pub host_refused : (m : Text) → IsCfgRefusal inputs.host.triple bytes m → IsBasisRefusal inputs m
  host_refused m h = of_host version by_manifest (subst (λ b. IsCfgRefusal inputs.host.triple b m) same h)

  pub targets_refused : (host : Target) → IsTargetOf inputs.host.triple bytes host → (files : List FileText) → files ≡ inputs.targets → (m : Text) → IsFirstCfgRefusal (target_files inputs.host files) m → IsBasisRefusal inputs m
  targets_refused host is files all m h =
      of_targets version by_manifest host (subst (λ b. IsTargetOf inputs.host.triple b host) same is) (subst (λ fs. IsFirstCfgRefusal (target_files inputs.host fs) m) all h)
