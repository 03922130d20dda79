use Rattle.std.proofs.Common.{◌≡◌, ◌∙◌, ◌||◌, ap, sym, lit<}
use Rattle.std.specs.List.{list_any}
use Rattle.std.proofs.lemmas.Str.Pattern.{contains_char}
use Rattle.plan_words.specs.PackageWords.{is_hash}
use Rattle.plan_words.specs.inner.Urls.{is_slash}
use Rattle.plan_words.proofs.Texts.{contains_is}
use Rattle.plan_words.proofs.package_words.may_be_url.Goals as goal

pub returns-else-contains : goal.returns-else-contains
returns-else-contains c =
    let word = c.args.word.now in
    let hash : c.contains.result ≡ list_any is_hash word = contains_is 35 word c.contains.result (contains_char 35 word c.contains.result c.contains.ensures.cases (lit< tt)) in
    let second = c.contains-else-contains in
    let slash : second.result ≡ list_any is_slash word = contains_is 47 word second.result (contains_char 47 word second.result second.ensures.cases (lit< tt)) in
    slash ∙ ap (λ b. b || list_any is_slash word) (sym c.if-contains.false ∙ hash)
