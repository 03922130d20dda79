use Rattle.std.proofs.Common.{◌≡◌, ◌∙◌, ap, sym}
use Rattle.std.specs.Prelude.{position}
use Rattle.std.specs.Str.{bytes_eq}
use Rattle.guppy_packages.proofs.StoredLemmas.{place_of_key}
use Rattle.guppy_packages.proofs.second_pass.place_of.Goals as goal

pub returns : goal.returns
returns c =
    let found : c.place_of.result ≡ position (λ e. bytes_eq c.set.new.self e.0) c.args.packages.now = c.place_of.ensures in
    found ∙ ap (λ n. position (λ e. bytes_eq n e.0) c.args.packages.now) c.in_ok-set.ensures ∙ sym (place_of_key c.args.id.now c.args.packages.now)
