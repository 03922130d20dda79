use Rattle.std.proofs.Common.{◌≡◌, ◌++◌, map, drop}
use Rattle.cargo_workspaces.specs.Views.{texts}
use Rattle.feats_files.specs.Files.{FileText}
use Rattle.feats_files.specs.FileViews.{file_text}
use Rattle.feats.proofs.comparisons.builds.triples_of.Given as goal

abbrev pub invariant-loop-file : goal.invariant-loop-file
invariant-loop-file l =
    let triple = λ (f : FileText). f.triple in
    map triple (map file_text l.files) ≡ texts l.names.items ++ map triple (map file_text (drop l.file-index l.files))
