use Rattle.std.proofs.Common.{map, take}
use Rattle.feats_files.specs.FileViews.{file_text}
use Rattle.feats_files.specs.Files.{AreTargetsOf}
use Rattle.feats_files.proofs.files.targets_of.Given as goal

abbrev pub invariant-loop-file : goal.invariant-loop-file
invariant-loop-file l = AreTargetsOf (map file_text (take l.file-index l.files)) l.targets.items
