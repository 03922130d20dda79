-- The declarations of a link, as a list.
use Rattle.std.specs.Prelude.{List, [], ◌∷◌}
use Rattle.guppy_packages.specs.declared.declaration.Declaration.{Declaration}
use Rattle.guppy_packages.specs.declared.declarations.Declarations.{Declarations}
use Rattle.guppy_packages.specs.declared.declarations.Declarations.TheVariants.{One, More}

abbrev pub held_declarations : Declarations → List Declaration
held_declarations (One d) = d ∷ []
held_declarations (More v) = v.items
