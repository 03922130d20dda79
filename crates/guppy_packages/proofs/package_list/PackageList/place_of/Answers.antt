use Rattle.std.proofs.Common.{◌∙◌, ap}
use Rattle.std.specs.Prelude.{position}
use Rattle.std.specs.Str.{bytes_eq}
use Rattle.guppy_packages.proofs.PairLemmas.{position-firsts}
use Rattle.guppy_packages.proofs.package_list.PackageList.place_of.Goals as goal

pub returns : goal.returns
returns c =
    c.get_index_of.ensures.index
    ∙ position-firsts (bytes_eq c.args.id.now) c.self.inside.ids.keys c.self.inside.contents.items c.self.invariant
    ∙ ap (position (λ e. bytes_eq c.args.id.now e.0)) c.self.view_is
