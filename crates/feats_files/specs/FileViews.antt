-- The values that files contain.
use Rattle.feats_files.specs.Files.{FileText}
use Rattle.feats_files.specs.declared.files.PlatformFile.{PlatformFile}

abbrev pub file_text : PlatformFile → FileText
file_text f = record { triple = f.triple.now; content = f.bytes.items }
