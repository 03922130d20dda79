-- The value that a listed spec contains.
use Rattle.cargo_workspaces.specs.Views.{texts}
use Rattle.feats_list.specs.platforms.Lists.{ListedText}
use Rattle.feats_list.specs.declared.platforms.listed.Listed.{Listed}

abbrev pub listed_text : Listed → ListedText
listed_text l = record { spec = l.spec.now; count = l.count; holds = texts l.holds.items; fails = texts l.fails.items }
