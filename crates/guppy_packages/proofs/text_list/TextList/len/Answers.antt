use Rattle.std.proofs.Common.{◌≡◌, ◌∙◌, ap, length, rules, sym, vec_len}
use Rattle.std.specs.String.{string_bytes}
use Rattle.guppy_packages.proofs.PartLemmas.{length-parts}
use Rattle.guppy_packages.proofs.text_list.TextList.len.Goals as goal

pub returns : goal.returns
returns c =
    let ends = c.self.inside.ends in
    let count : vec_len ends ≡ length ends.items = search rules in
    c.len.ensures ∙ count ∙ sym (length-parts 0 ends.items (string_bytes c.self.inside.text)) ∙ ap length c.self.view_is
