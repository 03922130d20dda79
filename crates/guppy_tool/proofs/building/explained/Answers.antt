use Rattle.std.proofs.Common.{◌≡◌, ◌∙◌, ap, subst, map, List}
use Rattle.guppy_packages.specs.Rows.{Text, texts}
use Rattle.guppy_packages.specs.Tables.{Tables}
use Rattle.guppy_packages.specs.declared.direction.DependencyDirection.TheVariants.{Forward}
use Rattle.feature_labels.specs.Names.{LabelName}
use Rattle.feature_core.specs.Built.{Built}
use Rattle.feature_graph.specs.Names.{AreKnown, HoldsExactly}
use Rattle.guppy_features.specs.PlatformViews.{kinds_of, specs_of}
use Rattle.feature_graph.specs.Told.{step_name}
use Rattle.feature_graph.specs.Views.{tables_of_graph}
use Rattle.guppy_tool.specs.Words.{given_of}
use Rattle.guppy_tool.proofs.OneBuild.{tells_query, tells_too}
use Rattle.guppy_tool.proofs.building.explained.Goals as goal

pub returns : goal.returns
returns c =
    let t : Tables = c.args.graph.now in
    let ids : List (Text × LabelName) = map given_of c.args.given.now in
    let built : Built = c.args.built.now in
    let query = c.in_ok-query.query in
    let asked = c.in_ok-query.ensures in
    let found = c.in-Ok.found in
    let resolved = c.in-Ok.ensures in
    let told = map step_name c.steps.result.now in
    let tables : tables_of_graph c.feature_graph.result ≡ t = ap (λ g. g.tables) c.feature_graph.ensures in
    let tells = tells_query (record { tables = t; built = built }) query found.graph c.args.kinds.now (kinds_of c.new.result) (texts c.args.specs.now) (specs_of c.new.result) found.members found.steps told
    asked.direction (asked.graph ∙ c.feature_graph.ensures) c.new.ensures.kinds c.new.ensures.specs resolved.graph c.steps.ensures.told resolved.explanation resolved.least resolved.listed in
    record {
      known = subst (λ z. AreKnown z ids) tables asked.known;
      initials = query.initials;
      given = subst (λ z. HoldsExactly z query.initials ids) tables asked.initials;
      told = told;
      lines = c.in_ok-lines_of.ensures;
      built = built;
      is_built = c.requires;
      every = λ b is. tells_too t built b
          (λ k x at. c.edges_say.ensures.says built k x c.requires at)
          (λ k x e at edge. c.edges_say.ensures.same b k x e is at edge)
          (c.one_content.ensures built b Forward c.requires is)
          c.args.kinds.now (texts c.args.specs.now) query.initials told tells;
    }
