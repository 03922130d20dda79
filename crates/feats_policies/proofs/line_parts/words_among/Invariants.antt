use Rattle.std.proofs.Common.{◌≡◌, ◌++◌, filter, flat_map, drop}
use Rattle.std.specs.List.{slice_split}
use Rattle.feats_policies.specs.Lines.{is_tab, is_text}
use Rattle.feats_policies.specs.Views.{texts}
use Rattle.feats_policies.proofs.line_parts.words_among.Given as goal

abbrev pub invariant-loop-part : goal.invariant-loop-part
invariant-loop-part l =
    filter is_text (flat_map (slice_split is_tab) (texts l.parts)) ≡ texts l.words.items ++ filter is_text (flat_map (slice_split is_tab) (texts (drop l.part-index l.parts)))
