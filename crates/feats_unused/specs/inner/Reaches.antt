-- The names of declarations that items can reach, as sets.
use Rattle.cargo_workspaces.specs.Workspaces.{PackageText}
use Rattle.feats_unused.specs.Dead.{reached, reached_weakly}
use Rattle.feats_unused.specs.declared.dead.Reach.{Reach}
use Rattle.feats_unused.specs.inner.Groups.{HasTexts}

-- The sets are those of the package.
abbrev pub HasReach : Reach → PackageText → Type 0
HasReach r x = HasTexts r.all (reached x) × HasTexts r.weakly (reached_weakly x)
