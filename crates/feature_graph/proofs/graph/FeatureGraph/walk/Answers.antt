use Rattle.std.proofs.Common.{◌≡◌, ◌∙◌, refl, sym, length, ℕ, IsTrue}
use Rattle.std.specs.Prelude.{◌↔◌}
use Rattle.digraphs.specs.Bits.{has}
use Rattle.guppy_packages.specs.Tables.{Tables}
use Rattle.feature_core.specs.Built.{IsBuilt}
use Rattle.feature_core.specs.Nodes.{nodes}
use Rattle.feature_core.specs.Pairs.{Reach}
use Rattle.feature_graph.proofs.BuiltLemmas.{built_count}
use Rattle.feature_graph.proofs.SetLemmas.{ok_map}
use Rattle.feature_graph.proofs.graph.FeatureGraph.walk.Goals as goal

pub walk_all-requires : goal.walk_all-requires
walk_all-requires c = c.requires ∙ sym (built_count c.args.self.now.graph.now c.args.self.now.built.now c.args.self.now.is_built)

pub returns-clause-size : goal.returns-clause-size
returns-clause-size c =
    let graph = c.args.self.now in
    ok_map
    (λ set. length set ≡ length graph.built.now.packages)
    (λ set. length set ≡ length (nodes graph.graph.now))
    c.walk_all.result c.walk_all.ensures.size
    (λ set e. e ∙ built_count graph.graph.now graph.built.now graph.is_built)

pub returns-clause-reach : goal.returns-clause-reach
returns-clause-reach c =
    let graph = c.args.self.now in
    ok_map
    (λ set. (t : Tables) → IsBuilt t graph.built.now → (n : ℕ) → IsTrue (has set n) ↔ Reach t c.args.direction (has c.args.initials.now) n)
    (λ set. (n : ℕ) → IsTrue (has set n) ↔ Reach graph.graph.now c.args.direction (has c.args.initials.now) n)
    c.walk_all.result (c.walk_all.ensures.all refl)
    (λ set h. h graph.graph.now graph.is_built)
