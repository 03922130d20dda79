use Rattle.std.proofs.Common.{map}
use Rattle.feats_files.specs.FileViews.{file_text}
use Rattle.feats_files.specs.Files.{IsCfgRefusal, IsFirstCfgRefusal}
use Rattle.feats_files.proofs.Says.{says_more}
use Rattle.feats_files.proofs.Targets.{targets_more, targets_refused}
use Rattle.feats_files.proofs.files.targets_of.Goals as goal

pub loop-file-preserved : goal.loop-file-preserved
loop-file-preserved c =
    let one = c.in-Ok.ensures.target in
    targets_more c.args.files.now c.loop-file.file-index c.file-item.result c.loop-file.targets.items _ one.0 c.loop-file-test.true c.file-item.is c.loop-file.invariant one.1 one.2

pub returns-in-Err-clause-fault : goal.returns-in-Err-clause-fault
returns-in-Err-clause-fault c =
    says_more c.in-Err.fault (IsCfgRefusal c.file-item.result.triple.now c.file-item.result.bytes.items) (IsFirstCfgRefusal (map file_text c.args.files.now))
    (λ m h. targets_refused c.args.files.now c.loop-file.file-index c.file-item.result c.loop-file.targets.items m c.loop-file-test.true c.file-item.is c.loop-file.invariant h)
    c.in-Err.ensures.fault
