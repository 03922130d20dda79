use Rattle.std.proofs.Common.{◌≡◌, ◌∙◌, ◌<◌, Some, ap, length, arith, refl, rules, subst, sym, true≢false, vec_len}
use Rattle.std.specs.Prelude.{IsSome, slice_get, option_copied}
use Rattle.std.proofs.lemmas.Option.{slice_get_read}
use Rattle.guppy_packages.proofs.PairLemmas.{zip_at, zip_long}
use Rattle.guppy_packages.proofs.package_list.PackageList.get.Goals as goal

pub unreachable-requires : goal.unreachable-requires
unreachable-requires c =
    let keys = c.self.inside.ids.keys in
    let contents = c.self.inside.contents.items in
    let within : c.args.ix < length keys = omega (arith, c.requires, c.self.invariant, zip_long keys contents c.self.invariant, ap length c.self.view_is) in
    true≢false (sym (subst IsSome c.in_default.is (c.get_index.ensures.found.1 within)))

pub index-requires : goal.index-requires
index-requires c =
    let contents = c.self.inside.contents in
    let count : vec_len contents ≡ length contents.items = search rules in
    omega (arith, c.requires, count, zip_long c.self.inside.ids.keys contents.items c.self.invariant, ap length c.self.view_is)

pub returns : goal.returns
returns c =
    let keys = c.self.inside.ids.keys in
    let contents = c.self.inside.contents.items in
    let within : c.args.ix < length contents = omega (arith, c.requires, zip_long keys contents c.self.invariant, ap length c.self.view_is) in
    let at = slice_get_read contents (length contents) c.args.ix c.index.result.now refl within c.index.ensures in
    let key : slice_get keys c.args.ix ≡ Some c.in-Some.id.now = sym c.get_index.ensures.key ∙ ap option_copied c.in-Some.is in
    ap (λ es. slice_get es c.args.ix) (sym c.self.view_is) ∙ zip_at keys contents c.args.ix c.in-Some.id.now c.index.result.now key at
