use Rattle.std.proofs.Common.{◌≡◌, true, false, not, map, ap, sym, ◌∙◌}
use Rattle.std.specs.List.{list_any}
use Rattle.std.specs.Str.{bytes_eq}
use Rattle.std.proofs.lemmas.List.{map-append}
use Rattle.guppy_packages.specs.NamedFeature.{feature_table, name_text, table_of_texts}
use Rattle.guppy_packages.specs.Tables.{has_feature}
use Rattle.guppy_packages.proofs.Lists.{list_any-map, was_there}
use Rattle.guppy_packages.proofs.first_pass.push_feature.Goals as goal

pub returns-then-not-added : goal.returns-then-not-added
returns-then-not-added c =
    let keys = c.args.features.now in
    let named : name_text c.new.result ≡ (table_of_texts c.args.texts).name = ap (λ t. t.name) c.new.ensures in
    let there : list_any (λ k. bytes_eq (name_text c.new.result) (name_text k)) keys ≡ true = was_there _ _ c.in_ok-added.ensures.added ∙ ap not c.if-not-added.true in
    let known : has_feature (table_of_texts c.args.texts).name (map feature_table keys) ≡ true = list_any-map feature_table (λ f. bytes_eq (table_of_texts c.args.texts).name f.name) keys ∙ ap (λ n. list_any (λ k. bytes_eq n (name_text k)) keys) (sym named) ∙ there in
    rw known

pub returns : goal.returns
returns c =
    let keys = c.args.features.now in
    let named : name_text c.new.result ≡ (table_of_texts c.args.texts).name = ap (λ t. t.name) c.new.ensures in
    let absent : list_any (λ k. bytes_eq (name_text c.new.result) (name_text k)) keys ≡ false = was_there _ _ c.in_ok-added.ensures.added ∙ ap not c.if-not-added.false in
    let fresh : has_feature (table_of_texts c.args.texts).name (map feature_table keys) ≡ false = list_any-map feature_table (λ f. bytes_eq (table_of_texts c.args.texts).name f.name) keys ∙ ap (λ n. list_any (λ k. bytes_eq n (name_text k)) keys) (sym named) ∙ absent in
    rw (fresh, c.in_ok-added.ensures.items, absent, map-append feature_table keys _, c.new.ensures)
