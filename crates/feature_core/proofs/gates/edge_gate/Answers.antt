use Rattle.std.proofs.Common.{◌≡◌, ℕ, List, Some, None, true, ap, option_map, refl, sym, ◌∙◌}
use Rattle.feature_edges.specs.Choices.{is_chosen}
use Rattle.feature_edges.specs.feature_links.Facts.{EdgeFacts, base_edge, feature_edge, colon_edge, strong_edge, weak_edge, section_edge}
use Rattle.feature_edges.specs.feature_links.declared.edge.EdgeChoice.TheVariants.{FeatureToBaseAndNamed}
use Rattle.feature_core.specs.Ways.{gate_of}
use Rattle.feature_core.proofs.gates.edge_gate.Goals as goal

-- an unconditional edge has no gate
no_gate : (weak : List (ℕ × ℕ)) (f : EdgeFacts) → Some true ≡ option_map (is_chosen FeatureToBaseAndNamed) (Some f) → gate_of weak f ≡ None
no_gate weak base_edge h = refl
no_gate weak feature_edge h = refl
no_gate weak (colon_edge l) h = cc
no_gate weak (strong_edge l) h = cc
no_gate weak (weak_edge l halves) h = cc
no_gate weak (section_edge l) h = cc

pub returns-then-is_unconditional : goal.returns-then-is_unconditional
returns-then-is_unconditional c = λ f at. sym (no_gate c.args.weak.now.entries f (ap Some (sym c.if-is_unconditional.true) ∙ c.is_unconditional.ensures ∙ ap (option_map (is_chosen FeatureToBaseAndNamed)) at))
