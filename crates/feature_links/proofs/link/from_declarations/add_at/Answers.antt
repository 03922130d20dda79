use Rattle.std.proofs.Common.{◌∙◌, ap, sym, ◌++◌, [], subst, arith}
use Rattle.std.specs.Prelude.{is_some}
use Rattle.std.specs.List.{cons_option}
use Rattle.std.proofs.lemmas.List.{append-nil}
use Rattle.guppy_packages.specs.Stored.{declared}
use Rattle.feature_links.specs.inner.Collected.{HasKinds}
use Rattle.feature_links.proofs.LinkLemmas.{nothing_past}
use Rattle.feature_links.proofs.link.from_declarations.add_at.Goals as goal

pub returns-clause-kinds : goal.returns-clause-kinds
returns-clause-kinds c before h =
    let none = nothing_past declared c.args.declarations.now c.args.place (omega arith) in
    subst (HasKinds c.args.statuses.now) (sym (ap (λ o. before ++ cons_option o []) none ∙ append-nil before)) h

pub returns-clause-added : goal.returns-clause-added
returns-clause-added c = sym (ap is_some (nothing_past declared c.args.declarations.now c.args.place (omega arith)))
