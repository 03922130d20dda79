use Rattle.std.proofs.Common.{◌∙◌, refl}
use Rattle.guppy_packages.proofs.row_texts.trimmed.Goals as goal

pub new-requires : goal.new-requires
new-requires c = rw (c.shrink_to_fit.ensures.bytes, c.shrink_to_fit-2.ensures.items) c.requires

pub returns : goal.returns
returns c = c.new.ensures ∙ rw (c.shrink_to_fit.ensures.bytes, c.shrink_to_fit-2.ensures.items) refl
