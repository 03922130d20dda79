-- The value that a listed label contains.
use Rattle.cargo_workspaces.specs.Views.{texts}
use Rattle.feature_labels.specs.Names.{label_of}
use Rattle.feats_list.specs.features.Lists.{ListedText}
use Rattle.feats_list.specs.declared.features.listed.Listed.{Listed}

abbrev pub listed_text : Listed → ListedText
listed_text l = record { label = label_of l.label; target = l.target; host = l.host; items = texts l.items.now }
