use Rattle.std.proofs.Common.{◌≡◌, ◌∙◌, ◌++◌, ◌∷◌, [], ap, length, List, map, refl, rules, Some, sym, true, ℕ}
use Rattle.std.specs.Borrow.{Bor}
use Rattle.std.specs.Prelude.{slice_get}
use Rattle.std.specs.String.{string_bytes}
use Rattle.std.proofs.lemmas.List.{map-append}
use Rattle.std.proofs.lemmas.Option.{slice_get_read}
use Rattle.guppy_packages.proofs.Lists.{slice_get-map}
use Rattle.cargo_workspaces.specs.Views.{texts}
use Rattle.plan_rows.proofs.GateLemmas.{taken-next}
use Rattle.plan_rows.proofs.gated_features.push_gate.Goals as goal

pub returns-in_ok-push-in-Some : goal.returns-in_ok-push-in-Some
returns-in_ok-push-in-Some c =
    let gates = c.args.gates.now in
    let gate = c.in-Some.gate.now in
    let old = texts c.args.items.now.items in
    let waits : c.args.waiting ≡ true = search rules in
    let got : slice_get gates c.args.next ≡ Some gate = slice_get_read gates (length gates) c.args.next gate refl c.in-Some.ensures.lookup.3.0 c.in-Some.ensures.lookup.1 in
    let pushed : texts c.push.new.self.items ≡ old ++ c.as_str.result.now ∷ [] = ap texts c.in_ok-push-in-Some.ensures.items ∙ map-append (λ (t : Bor (List ℕ)). t.now) c.args.items.now.items (c.as_str.result ∷ []) in
    let next = taken-next c.args.waiting (map string_bytes gates) c.args.next (string_bytes gate) waits (slice_get-map string_bytes gates c.args.next gate got) in
    pushed ∙ ap (λ z. old ++ z ∷ []) c.as_str.ensures.value ∙ ap (λ z. old ++ z) (sym next)
