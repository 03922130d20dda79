use Rattle.std.proofs.Common.{◌∙◌, ap, if◌then◌else◌}
use Rattle.std.specs.Prelude.{◌&&◌}
use Rattle.guppy_packages.specs.Metadata.{link_table_of}
use Rattle.feature_edges.specs.declared.candidate.CandidateKind.TheVariants.{SlashFull, SlashWeak}
use Rattle.feature_edges.proofs.GateLemmas.{optional_test}
use Rattle.feature_edges.proofs.collect.features.kind_over.Goals as goal

pub returns : goal.returns
returns c = c.slash_kind.ensures ∙ ap (λ b. if c.args.weak && b then SlashWeak else SlashFull) (optional_test c.declarations.result.now (link_table_of c.args.link) c.is_any_included.result c.declarations.ensures c.is_any_included.ensures)
