-- The values that Rust's types contain.
use Rattle.feats_report.specs.Objects.{MemberText}
use Rattle.feats_report.specs.Reports.{PartsText}
use Rattle.feats_report.specs.declared.objects.Member.{Member}
use Rattle.feats_report.specs.declared.report.Parts.{Parts}

abbrev pub member_text : Member → MemberText
member_text m = record { name = m.name.now; value = m.value.now }

abbrev pub parts_text : Parts → PartsText
parts_text p = record { units = p.units.now; roots = p.roots.now; links = p.links.now; declarations = p.declarations.now; steps = p.steps.now; features = p.features.now; specs = p.specs.now }
