-- The value that Rust's type contains.
use Rattle.feats_why_not.specs.Standings as spec
use Rattle.feats_why_not.specs.Standings.{StandingText}
use Rattle.feats_why_not.specs.declared.standings.Standing.{Standing}
use Rattle.feats_why_not.specs.declared.standings.Standing.TheVariants as standing

abbrev pub standing_text : Standing → StandingText
standing_text (standing.BuiltOn side) = spec.built_on side
standing_text (standing.UnbuiltOn side) = spec.unbuilt_on side
standing_text standing.Off = spec.off
