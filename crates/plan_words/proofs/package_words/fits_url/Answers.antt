use Rattle.std.proofs.Common.{lit<}
use Rattle.cargo_workspaces.specs.Views.{package_text}
use Rattle.plan_words.specs.PackageWords.{is_hash}
use Rattle.plan_words.proofs.Texts.{list_any-absent, plain_url}
use Rattle.plan_words.proofs.package_words.fits_url.Goals as goal

pub returns-then-is_place-2 : goal.returns-then-is_place-2
returns-then-is_place-2 c =
    let word = c.args.word.now in
    plain_url word (package_text c.args.«package».now) c.is_last_part.result c.is_place-in-None.result c.is_last_part.ensures c.if-is_place-2.true c.is_place-in-None.ensures
    (list_any-absent is_hash word (c.in-None.ensures.byte (lit< tt) (λ w o h. h)))
