use Rattle.std.proofs.Common.{◌↔◌, IsTrue, sym, subst, Bor, List, ℕ}
use Rattle.std.specs.Str.{bytes_eq}
use Rattle.std.specs.Cmp.Lexicographic.{bytes_decides}
use Rattle.feature_labels.specs.Names.{label_of}
use Rattle.guppy_features.specs.Accepted.{ListsLabel}
use Rattle.guppy_features.specs.ListedFilters.{listed_names}
use Rattle.guppy_features.proofs.ListedLemmas.{listed}
use Rattle.guppy_features.proofs.listed_filters.NamedFeatureFilter.lists.Goals as goal

pub returns-in-Named : goal.returns-in-Named
returns-in-Named g c =
    let bytes = c.in-Named.name.now in
    let found = listed (λ (name : Bor (List ℕ)). name.now) (λ name. bytes_eq bytes name.now) bytes c.args.self.now.names.keys
    (λ name. ((λ e. sym ((bytes_decides bytes name.now).0 e)), (λ e. (bytes_decides bytes name.now).1 (sym e)))) in
    subst (λ label. IsTrue c.contains.result ↔ ListsLabel (listed_names c.args.self.now) (label_of label)) (sym c.in-Named.is) (rw c.contains.ensures found)
