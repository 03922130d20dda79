use Rattle.std.proofs.Common.{refl, rules, sym, subst}
use Rattle.feats_words.specs.Views.{source_text}
use Rattle.feats_words.specs.declared.command_arguments.ResolverSource.{ResolverSource}
use Rattle.feats_files.specs.Files.{IsVersionRefusal, manifest_message}
use Rattle.feats_files.proofs.Says.{says_of}
use Rattle.feats_files.proofs.files.resolver.Goals as goal

pub returns-in-Err-clause-fault : goal.returns-in-Err-clause-fault
returns-in-Err-clause-fault c =
    let by_source : IsVersionRefusal (source_text c.args.source) c.args.manifest.now (manifest_message c.in-Err.fault) =
    subst (λ (s : ResolverSource). IsVersionRefusal (source_text s) c.args.manifest.now (manifest_message c.in-Err.fault)) (sym c.in-Manifest.is) (c.in-Err.fault, c.in-Err.ensures, search rules, refl) in
    says_of c.manifest_refused.result (manifest_message c.in-Err.fault) (IsVersionRefusal (source_text c.args.source) c.args.manifest.now) c.manifest_refused.ensures by_source
