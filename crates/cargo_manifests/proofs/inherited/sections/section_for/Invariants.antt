use Rattle.std.proofs.Common.{◌≡◌}
use Rattle.toml.specs.View.{members_view, table_view}
use Rattle.cargo_manifests.specs.inherited.Entries.{section_for}
use Rattle.cargo_manifests.proofs.inherited.sections.section_for.Given as goal

abbrev pub invariant-loop-key : goal.invariant-loop-key
invariant-loop-key l = section_for l.platform (table_view l.sections) ≡ section_for l.platform (members_view l.key-iterator)
