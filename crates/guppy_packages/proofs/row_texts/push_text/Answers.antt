use Rattle.std.proofs.Common.{◌≡◌, ◌∙◌, ◌∷◌, [], ◌++◌, ap, length}
use Rattle.std.specs.String.{string_bytes}
use Rattle.std.proofs.lemmas.Str.{IsUtf8-string_bytes}
use Rattle.guppy_packages.proofs.PartLemmas.{pushed_more}
use Rattle.guppy_packages.proofs.row_texts.push_text.Goals as goal

pub returns : goal.returns
returns c =
    let new = string_bytes c.push_str.new.self in
    let ends : c.push_to.new.items.items ≡ c.args.ends.now.items ++ length new ∷ [] = c.in_ok-push_to.ensures ∙ ap (λ n. c.args.ends.now.items ++ n ∷ []) (ap length c.as_str.ensures.value) in
    λ before p. rw ends (pushed_more before (string_bytes c.args.text.now) c.args.ends.now.items c.args.added.now new p c.in_ok-push_str.ensures.bytes (IsUtf8-string_bytes c.args.text.now) (IsUtf8-string_bytes c.push_str.new.self))
