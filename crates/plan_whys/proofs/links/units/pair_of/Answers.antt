use Rattle.std.proofs.Common.{◌∙◌}
use Rattle.guppy_packages.specs.Metadata.{link_table_of}
use Rattle.plan_whys.proofs.UnitLemmas.{pair_found}
use Rattle.plan_whys.proofs.links.units.pair_of.Goals as goal

pub returns : goal.returns
returns c =
    pair_found c.args.packages.now.links c.args.number (link_table_of c.link-link.result) c.package_ix.result c.package_ix-2.result
    c.link-link.ensures.link (c.package_ix.ensures.number ∙ c.from.ensures.number) (c.package_ix-2.ensures.number ∙ c.to.ensures.number)
