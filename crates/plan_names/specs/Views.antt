-- The values that Rust's types contain.
use Rattle.plan_names.specs.Names.{NamedText, PartText, dependency, feature, whole}
use Rattle.plan_names.specs.declared.named.Named.{Named}
use Rattle.plan_names.specs.declared.named.Part.{Part}
use Rattle.plan_names.specs.declared.named.Part.TheVariants as part

abbrev pub part_text : Part → PartText
part_text part.Package = whole
part_text (part.Feature name) = feature name.now
part_text (part.Dependency name) = dependency name.now

abbrev pub named_text : Named → NamedText
named_text n = record { owner = n.«package»; part = part_text n.part }
