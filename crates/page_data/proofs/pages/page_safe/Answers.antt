use Rattle.std.proofs.Common.{◌≡◌, false, subst, sym}
use Rattle.std.specs.List.{list_any}
use Rattle.std.proofs.lemmas.Result.{IfOk-weaker}
use Rattle.page_data.specs.Pages.{is_markup}
use Rattle.page_data.proofs.PageLemmas.{page_clean}
use Rattle.page_data.proofs.pages.page_safe.Goals as goal

pub returns-clause-safe : goal.returns-clause-safe
returns-clause-safe c = IfOk-weaker c.escaped.result _ _ (λ text h. subst (λ t. list_any is_markup t ≡ false) (sym h) (page_clean c.args.json.now)) c.escaped.ensures
