use Rattle.guppy_features.proofs.Held.{held_from, held_into}
use Rattle.guppy_features.proofs.graph_platforms.laws.held_exactly.Goals as goal

pub returns : goal.returns
returns c = λ target texts held are text. (λ h. held_from target texts held are text h, λ h. held_into target texts held are text h.0 h.1)
