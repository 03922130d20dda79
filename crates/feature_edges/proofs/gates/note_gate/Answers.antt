use Rattle.std.proofs.Common.{◌≡◌, ◌∙◌, Bool, true, false, [], map, ap, sym, subst}
use Rattle.std.specs.Prelude.{Contains}
use Rattle.std.proofs.lemmas.List.{append-nil}
use Rattle.feature_edges.specs.inner.Weak.{AreGates}
use Rattle.feature_edges.proofs.WeakLemmas.{links_next, links_same, gates_inserted, keys_grown, key_there, weak_is_optional}
use Rattle.feature_edges.proofs.gates.note_gate.Goals as goal

clash : (b : Bool) → b ≡ true → b ≡ false → ⊥
clash b h i = cc

pub returns-then-not-is_weak-clause-links : goal.returns-then-not-is_weak-clause-links
returns-then-not-is_weak-clause-links c done h = links_same done c.args.key (map (λ e. e.0) c.args.table.now.entries) (λ e. clash c.is_weak.result (c.is_weak.ensures.1 e) c.if-not-is_weak.true) h

pub gate_at-gate-requires-clause-link : goal.gate_at-gate-requires-clause-link
gate_at-gate-requires-clause-link c = weak_is_optional c.args.numbers.graph.now c.args.key (c.is_weak.ensures.0 c.if-not-is_weak.false) c.requires.of_tables

pub returns-clause-links : goal.returns-clause-links
returns-clause-links c done h =
    ap (map (λ e. e.0)) c.in_ok-insert.ensures.entries
    ∙ links_next done c.gate_at-gate.result c.args.key c.args.table.now.entries (c.is_weak.ensures.0 c.if-not-is_weak.false) h

pub returns-then-not-is_weak-clause-grown : goal.returns-then-not-is_weak-clause-grown
returns-then-not-is_weak-clause-grown c = ([], sym (append-nil (map (λ e. e.0) c.args.table.now.entries)))

pub returns-then-not-is_weak-clause-noted : goal.returns-then-not-is_weak-clause-noted
returns-then-not-is_weak-clause-noted c weak = absurd (clash c.is_weak.result (c.is_weak.ensures.1 weak) c.if-not-is_weak.true)

pub returns-clause-grown : goal.returns-clause-grown
returns-clause-grown c =
    let r = keys_grown c.args.key.source c.gate_at-gate.result c.args.table.now.entries in
    (r.0, ap (map (λ e. e.0)) c.in_ok-insert.ensures.entries ∙ r.1)

pub returns-clause-noted : goal.returns-clause-noted
returns-clause-noted c weak = subst (λ z. Contains (map (λ e. e.0) z) c.args.key.source) (sym c.in_ok-insert.ensures.entries) (key_there c.args.key.source c.gate_at-gate.result c.args.table.now.entries)

pub returns-clause-gates : goal.returns-clause-gates
returns-clause-gates c old =
    let t = c.args.numbers.graph.now in
    subst (λ z. AreGates t z) (sym c.in_ok-insert.ensures.entries) (gates_inserted t c.args.key.source c.gate_at-gate.result c.args.table.now.entries old c.gate_at-gate.ensures)
