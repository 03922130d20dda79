use Rattle.std.proofs.Common.{◌≡◌, ◌∙◌, ℕ, List, [], ◌∷◌, Bool, true, false, ap, arith, length, map, refl, sym}
use Rattle.std.specs.Borrow.{Bor}
use Rattle.std.proofs.lemmas.Result.{IfOk-weaker}
use Rattle.guppy_packages.specs.Platform.{impl_status, spec_text}
use Rattle.feature_links.proofs.StatusLemmas.{joined_always, joined_specs}
use Rattle.feature_links.proofs.link.statuses.StatusCollector.status.Goals as goal

no_texts : (keys : List (Bor (List ℕ))) → length keys ≡ 0 → [] ≡ map (λ t. t.now) keys
no_texts [] h = refl
no_texts (k ∷ keys) h = absurd (omega (arith, h))

both : (b : Bool) → b ≡ true → b ≡ false → ⊥
both true h i = cc
both false h i = cc

pub returns-then-is_always : goal.returns-then-is_always
returns-then-is_always c = IfOk-weaker c.try_clone.result _ _ (λ s is platforms h.
    is ∙ joined_always c.args.self.now platforms h (sym c.get.ensures ∙ c.is_always.ensures.0 c.if-is_always.true)) c.try_clone.ensures

pub returns-then-is_empty : goal.returns-then-is_empty
returns-then-is_empty c platforms h =
    joined_specs c.args.self.now platforms h c.never.result []
    (λ e. both c.is_always.result (c.is_always.ensures.1 (c.get.ensures ∙ e)) c.if-is_always.false)
    (no_texts c.args.self.now.specs.keys (c.is_empty.ensures.0 c.if-is_empty.true))
    c.never.ensures

pub returns : goal.returns
returns c platforms h =
    joined_specs c.args.self.now platforms h c.new-2.result (map spec_text c.in_ok-specs.specs.items)
    (λ e. both c.is_always.result (c.is_always.ensures.1 (c.get.ensures ∙ e)) c.if-is_always.false)
    c.in_ok-specs.ensures
    (c.new-2.ensures ∙ ap impl_status c.in_ok-joined.ensures.ok)
