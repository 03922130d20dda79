use Rattle.std.proofs.Common.{◌∙◌, ℕ, List, map, ap, subst}
use Rattle.std.specs.Borrow.{Bor}
use Rattle.guppy_packages.specs.Rows.{Text}
use Rattle.feature_core.specs.Built.{IsBuilt}
use Rattle.feature_graph.specs.Values.{Graph}
use Rattle.guppy_features.specs.PlatformViews.{kinds_of, specs_of}
use Rattle.guppy_features.specs.graph_platforms.DeclaredSpecs.{spec_texts}
use Rattle.guppy_features.specs.graph_platforms.HeldSpecs.{AreHeld}
use Rattle.guppy_features.proofs.Offers.{on_for}
use Rattle.guppy_features.proofs.graph_platforms.resolving.resolve_for.Goals as goal

abbrev texts_of : List (Bor (List ℕ)) → List Text
texts_of items = map (λ t. t.now) items

pub returns-in-Ok-clause-least : goal.returns-in-Ok-clause-least
returns-in-Ok-clause-least c =
    let held : List Text = texts_of c.in_ok-held.held.items in
    let target = c.args.target.now in
    let same = c.graph.ensures in
    on_for c.args.kinds.now (kinds_of c.new.result) target held (specs_of c.new.result) c.args.query c.in-Ok.explained
    c.new.ensures.kinds
    (c.new.ensures.specs ∙ ap texts_of c.as_slice.ensures.value)
    (subst (λ (g : Graph). IsBuilt g.tables g.built) same c.graph.result.now.is_built)
    (subst (λ t. AreHeld target (spec_texts t) held) (c.package_graph.ensures ∙ ap (λ (g : Graph). g.tables) same) c.in_ok-held.ensures.held)
    c.in-Ok.ensures.least
    c.in-Ok.ensures.explanation
