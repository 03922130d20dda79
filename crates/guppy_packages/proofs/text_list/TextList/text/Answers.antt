use Rattle.std.proofs.Common.{◌∙◌, ap, ap₂, length, arith, sym}
use Rattle.std.specs.Prelude.{slice_get}
use Rattle.std.specs.String.{string_bytes}
use Rattle.guppy_packages.specs.Parts.{parts}
use Rattle.guppy_packages.proofs.PartLemmas.{length-parts}
use Rattle.guppy_packages.proofs.text_list.TextList.text.Goals as goal

pub part-requires-clause-within : goal.part-requires-clause-within
part-requires-clause-within c = omega (arith, c.requires, length-parts 0 c.self.inside.ends.items (string_bytes c.self.inside.text), ap length c.self.view_is, ap length c.as_slice.ensures.value)

pub part-requires-clause-cut : goal.part-requires-clause-cut
part-requires-clause-cut c = rw (c.as_slice.ensures.value, c.as_str.ensures.value) c.self.invariant

pub returns : goal.returns
returns c =
    ap (λ ts. slice_get ts c.args.at) (sym c.self.view_is)
    ∙ ap₂ (λ es t. slice_get (parts 0 es t) c.args.at) (sym c.as_slice.ensures.value) (sym c.as_str.ensures.value)
    ∙ c.part.ensures
