use Rattle.std.proofs.Common.{◌≡◌, ◌∙◌, ◌-◌, [], ℕ, Bool, List, ap, append-nil, arith, false, length, replicate, subst, sym, take, vec_len}
use Rattle.cargo_workspaces.specs.Views.{feature_text, package_text, texts}
use Rattle.std.proofs.lemmas.List.{length-map, length-replicate}
use Rattle.feats_unused.specs.inner.Marks.{HasName, Marks}
use Rattle.feats_unused.proofs.MarkLemmas.{IsWalked, are_used, fewer_left, walk_begun, walked_on}
use Rattle.feats_unused.proofs.used.used_features.Goals as goal

pub mark_names-requires : goal.mark_names-requires
mark_names-requires c =
    let features = c.args.«package».now.features in
    let long : vec_len features ≡ length features.items = omega (arith, features.ok.0) in
    record {
      sorted = c.requires;
      size = ap length c.in_ok-used.ensures ∙ length-replicate c.len.result false ∙ c.len.ensures ∙ long ∙ sym (length-map features.items feature_text);
    }

pub mark_names-requires-in-Some : goal.mark_names-requires-in-Some
mark_names-requires-in-Some c = record { sorted = c.requires; size = c.loop-number.invariant.size }

pub loop-number-init : goal.loop-number-init
loop-number-init c =
    let features = c.args.«package».now.features in
    let long : vec_len features ≡ length features.items = omega (arith, features.ok.0) in
    let named = HasName (package_text c.args.«package».now).features (texts c.args.asked.now) in
    walk_begun (texts c.args.asked.now) (package_text c.args.«package».now).features c.len.result c.mark_names.new.used.items c.mark_names.new.waiting.items
    (c.len.ensures ∙ long ∙ sym (length-map features.items feature_text))
    (subst (λ (z : List ℕ). Marks named (replicate c.len.result false) c.mark_names.new.used.items z c.mark_names.new.waiting.items) c.new-waiting.ensures.items
    (subst (λ (z : List Bool). Marks named z c.mark_names.new.used.items c.new-waiting.result.items c.mark_names.new.waiting.items) c.in_ok-used.ensures c.in_ok-mark_names.ensures.marks))
    c.in_ok-mark_names.ensures.marked

pub loop-number-preserved : goal.loop-number-preserved
loop-number-preserved c =
    walked_on (texts c.args.asked.now) (package_text c.args.«package».now).features (texts c.deref.result.now) c.in-Some.number c.loop-number.used.items c.mark_names-in-Some.new.used.items
    c.loop-number.waiting.items c.pop.new.self.items c.mark_names-in-Some.new.waiting.items c.in-Some.ensures.items (ap texts c.deref.ensures.value ∙ c.in_ok-names.ensures)
    c.loop-number.invariant c.in_ok-mark_names-2.ensures.marks c.in_ok-mark_names-2.ensures.marked

pub loop-number-smaller : goal.loop-number-smaller
loop-number-smaller c =
    fewer_left _ c.loop-number.used.items c.mark_names-in-Some.new.used.items c.loop-number.waiting.items c.pop.new.self.items c.mark_names-in-Some.new.waiting.items c.in-Some.number
    c.in-Some.ensures.items c.in_ok-mark_names-2.ensures.marks

pub returns : goal.returns
returns c =
    let none : c.loop-number.waiting.items ≡ [] = c.in_default.ensures.items ∙ append-nil c.pop.new.self.items ∙ c.in_default.ensures.rest ∙ ap (λ n. take (n - 1) c.loop-number.waiting.items) c.in_default.ensures.cases.0 in
    are_used (texts c.args.asked.now) (package_text c.args.«package».now).features c.loop-number.used.items
    (subst (IsWalked (texts c.args.asked.now) (package_text c.args.«package».now).features c.loop-number.used.items) none c.loop-number.invariant)
