use Rattle.std.proofs.Common.{ap, map}
use Rattle.std.proofs.lemmas.Result.{err_from_is_err_and}
use Rattle.feats_files.specs.Files.{IsCfgRefusal, IsFirstCfgRefusal, target_files}
use Rattle.feats_files.specs.FileViews.{file_text}
use Rattle.feats_plans.specs.Bases.{IsBasisRefusal}
use Rattle.feats_plans.specs.Inputs.{inputs_text}
use Rattle.feats_plans.proofs.Bases.{host_refused, targets_refused}
use Rattle.feats_plans.proofs.Says.{says_more}
use Rattle.feats_plans.proofs.basis.basis_of.Goals as goal

pub returns-in_err-host-clause-fault : goal.returns-in_err-host-clause-fault
returns-in_err-host-clause-fault c =
    let p = err_from_is_err_and c.from_residual-in_err-host.result c.from_residual-in_err-host.ensures.1 in
    let inputs = inputs_text c.args.arguments.now c.args.files.now in
    rw (p.1, p.2) (says_more c.in_err-host.field-0.0 (IsCfgRefusal inputs.host.triple c.deref-2.result.now) (IsBasisRefusal inputs)
    (host_refused inputs c.in_ok-version.version c.deref.result.now c.deref.ensures.value c.in_ok-version.ensures.version c.deref-2.result.now c.deref-2.ensures.value)
    c.in_err-host.ensures.fault)

pub returns-in_err-targets-clause-fault : goal.returns-in_err-targets-clause-fault
returns-in_err-targets-clause-fault c =
    let p = err_from_is_err_and c.from_residual-in_err-targets.result c.from_residual-in_err-targets.ensures.1 in
    let inputs = inputs_text c.args.arguments.now c.args.files.now in
    let files = map file_text c.deref-3.result.now in
    rw (p.1, p.2) (says_more c.in_err-targets.field-0.0 (IsFirstCfgRefusal (target_files inputs.host files)) (IsBasisRefusal inputs)
    (targets_refused inputs c.in_ok-version.version c.deref.result.now c.deref.ensures.value c.in_ok-version.ensures.version c.deref-2.result.now c.deref-2.ensures.value
    c.in_ok-host.host c.in_ok-host.ensures.target files (ap (map file_text) c.deref-3.ensures.value))
    c.in_err-targets.ensures.fault)
