use Rattle.std.proofs.Common.{◌≡◌, ◌∙◌, ap, subst, map, ℕ, List}
use Rattle.std.specs.Prelude.{◌↔◌, IsTrue}
use Rattle.digraphs.specs.Bits.{has}
use Rattle.guppy_packages.specs.Rows.{Text}
use Rattle.guppy_packages.specs.Tables.{Tables}
use Rattle.feature_labels.specs.Names.{LabelName}
use Rattle.feature_core.specs.Nodes.{nodes}
use Rattle.feature_core.specs.Pairs.{Reach}
use Rattle.feature_graph.specs.Names.{AreKnown, HoldsExactly, at_places}
use Rattle.feature_graph.specs.Views.{tables_of_graph}
use Rattle.guppy_tool.specs.Answers.{listing}
use Rattle.guppy_tool.specs.Words.{given_of}
use Rattle.guppy_tool.proofs.resolving.resolved.Goals as goal

pub returns : goal.returns
returns c =
    let t : Tables = c.args.graph.now in
    let ids : List (Text × LabelName) = map given_of c.args.given.now in
    let query = c.in_ok-query.query in
    let asked = c.in_ok-query.ensures in
    let set = c.in-Ok.set in
    let tables : tables_of_graph c.feature_graph.result ≡ t = ap (λ g. g.tables) c.feature_graph.ensures in
    let own : query.graph.tables ≡ t = ap (λ g. g.tables) asked.graph ∙ tables in
    let own_set : set.graph.tables ≡ t = ap (λ g. g.tables) c.in-Ok.ensures.graph ∙ own in
    let reached : (n : ℕ) → IsTrue (has set.members n) ↔ Reach t c.args.direction (has query.initials) n = λ n. subst (λ z. IsTrue (has set.members n) ↔ Reach t z (has query.initials) n) asked.direction (subst (λ z. IsTrue (has set.members n) ↔ Reach z query.direction (has query.initials) n) own (c.in-Ok.ensures.reach n)) in
    record {
      known = subst (λ z. AreKnown z ids) tables asked.known;
      initials = query.initials;
      given = subst (λ z. HoldsExactly z query.initials ids) tables asked.initials;
      members = set.members;
      reached = reached;
      lines = subst (λ z. c.in_ok-list.field-0.items ≡ listing (at_places (has set.members) (nodes z))) own_set c.in_ok-list.ensures;
    }
