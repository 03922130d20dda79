use Rattle.std.proofs.Common.{◌≡◌, true, false, ap, not, sym, ◌∙◌}
use Rattle.std.proofs.lemmas.List.{map-append}
use Rattle.std.specs.Str.{bytes_eq}
use Rattle.std.specs.List.{list_any}
use Rattle.guppy_packages.specs.Stored.{package_table, package_tables}
use Rattle.guppy_packages.proofs.Lists.{list_any-map, was_there}
use Rattle.guppy_packages.proofs.first_pass.push_package.Goals as goal

pub returns-then-not-added : goal.returns-then-not-added
returns-then-not-added c =
    let m = c.args.packages.now in
    let named : c.in_ok-new.field-0 ≡ c.args.id.now = c.in_ok-new.ensures in
    let there : list_any (λ e. bytes_eq c.in_ok-new.field-0 e.0) m ≡ true = was_there _ _ c.in_ok-added.ensures.added ∙ ap not c.if-not-added.true in
    let known : list_any (λ p. bytes_eq c.args.id.now p.id) (package_tables m) ≡ true = list_any-map package_table (λ p. bytes_eq c.args.id.now p.id) m ∙ ap (λ n. list_any (λ e. bytes_eq n e.0) m) (sym named) ∙ there in
    rw known

pub returns : goal.returns
returns c =
    let m = c.args.packages.now in
    let named : c.in_ok-new.field-0 ≡ c.args.id.now = c.in_ok-new.ensures in
    let absent : list_any (λ e. bytes_eq c.in_ok-new.field-0 e.0) m ≡ false = was_there _ _ c.in_ok-added.ensures.added ∙ ap not c.if-not-added.false in
    let fresh : list_any (λ p. bytes_eq c.args.id.now p.id) (package_tables m) ≡ false = list_any-map package_table (λ p. bytes_eq c.args.id.now p.id) m ∙ ap (λ n. list_any (λ e. bytes_eq n e.0) m) (sym named) ∙ absent in
    rw (fresh, c.in_ok-added.ensures.packages, c.if-not-added.false, map-append package_table m _, named, c.in_ok-data.ensures)
