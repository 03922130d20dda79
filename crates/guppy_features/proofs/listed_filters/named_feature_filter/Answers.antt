use Rattle.std.proofs.Common.{rules, Bor, List, ℕ}
use Rattle.guppy_features.proofs.ListedLemmas.{same_elements}
use Rattle.guppy_features.proofs.listed_filters.named_feature_filter.Goals as goal

pub returns-clause-names : goal.returns-clause-names
returns-clause-names g c = same_elements (λ (name : Bor (List ℕ)). name.now) _ c.in_ok-names.names.keys c.args.names.now c.in_ok-names.ensures (λ x y. search rules)
