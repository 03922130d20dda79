-- The parts that the word of a rule means, if it has a slash.
use Rattle.std.proofs.Common.{◌≡◌, ℕ, List, Some, cond, ap, sym, ◌∙◌}
use Rattle.std.specs.Prelude.{Result, Ok, Err, IfOk}
use Rattle.std.specs.List.{after_last, before_last}
use Rattle.cargo_workspaces.specs.Workspaces.{PackageText, Text}
use Rattle.plan_words.specs.FeatureWords.{is_slash}
use Rattle.plan_names.specs.Matches.{matching_by_name, packages_matching}
use Rattle.plan_names.specs.Names.{NamedText, or_else, parts_among, parts_anywhere}
use Rattle.plan_names.specs.inner.Cuts.{CutText, cut_of}
use Rattle.plan_names.proofs.Cuts.{cut_is}

pub by_cut : {V E : Type 0} (r : Result V E) (items : V → List NamedText) (packages : List PackageText) (selected : List ℕ) (word : Text) (x : CutText) → Some x ≡ cut_of word
    → IfOk r (λ v. items v ≡ parts_among packages (packages_matching packages x.front) x.name) → IfOk r (λ v. items v ≡ matching_by_name packages selected word)
by_cut (Ok v) items packages selected word x e h =
    let facts = cut_is word x e in
    h ∙ ap (λ (t : Text). parts_among packages (packages_matching packages t) x.name) facts.1
    ∙ ap (λ (t : Text). parts_among packages (packages_matching packages (before_last is_slash word)) t) facts.2
    ∙ sym (ap (λ b. cond b (parts_among packages (packages_matching packages (before_last is_slash word)) (after_last is_slash word)) (or_else (parts_among packages selected word) (parts_anywhere packages word))) facts.0)
by_cut (Err d) items packages selected word x e h = tt
