-- The value that a line contains.
use Rattle.cargo_workspaces.specs.Views.{texts}
use Rattle.feats_duplicates.specs.Joined.{JoinText}
use Rattle.feats_duplicates.specs.declared.joins.Join.{Join}

abbrev pub join_text : Join → JoinText
join_text j = record { number = j.«package»; name = j.name.now; kind = j.kind; features = texts j.features.items; members = j.members.items }
