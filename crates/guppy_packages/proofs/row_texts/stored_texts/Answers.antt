use Rattle.std.proofs.Common.{◌∙◌}
use Rattle.guppy_packages.proofs.PartLemmas.{pushed_parts}
use Rattle.guppy_packages.proofs.row_texts.stored_texts.Goals as goal

pub trimmed-requires : goal.trimmed-requires
trimmed-requires g c = (pushed_parts _ _ _ c.in_ok-push_rows.ensures).0

pub returns : goal.returns
returns g c = c.in_ok-new.ensures.ok ∙ c.trimmed.ensures ∙ (pushed_parts _ _ _ c.in_ok-push_rows.ensures).1
