-- The value that a basis contains.
use Rattle.feats_plans.specs.Bases.{BasisText}
use Rattle.feats_plans.specs.declared.basis.Basis.{Basis}

abbrev pub basis_text : Basis → BasisText
basis_text b = record { version = b.version; host = b.host; targets = b.targets.items }
