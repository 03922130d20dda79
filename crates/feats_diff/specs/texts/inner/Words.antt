-- Words with marks.
use Rattle.std.specs.Prelude.{◌++◌}
use Rattle.cargo_workspaces.specs.Workspaces.{Text}
use Rattle.feats_diff.specs.declared.texts.columns.Word.{Word}

abbrev pub word_text : Word → Text
word_text w = w.mark.now ++ w.name.now
