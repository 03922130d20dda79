-- Options that are added to a command, one after the other.
use Rattle.std.proofs.Common.{◌≡◌, ◌∙◌, ap, ap₂, List, ◌∷◌, [], ◌++◌, append_assoc, false}
use Rattle.std.specs.Prelude.{◌||◌, IfOk, Result}
use Rattle.std.proofs.lemmas.Result.{IfOk-weaker}
use Rattle.clap.specs.Words.{AddsArg, AddsSubcommand, App, Rule, Shape, app_of, rule_of, with_rule, with_subcommand}
use Rattle.clap.specs.declared.builder.arg.Arg.{Arg}
use Rattle.clap.specs.declared.builder.command.Command.{Command}
use Rattle.feats_words.specs.inner.Building.{IsMade, alone, with_rules}

-- one more option
pub with_one : (old new : Command) (a : Arg) (app : App) (rule : Rule) → rule_of a ≡ rule → IsMade old app → AddsArg old a new → a.global ≡ false → IsMade new (with_rules app (rule ∷ []))
with_one old new a app rule is_rule made adds is = record {
  app = adds.shape is ∙ ap₂ with_rule made.app is_rule;
  local = adds.globals ∙ ap₂ (λ a b. a || b) made.local is;
}

-- more options, after others
pub joined : {E : Type 0} (r : Result Command E) (app : App) (rules others : List Rule) → IfOk r (λ c. IsMade c (with_rules (with_rules app rules) others)) → IfOk r (λ c. IsMade c (with_rules app (rules ++ others)))
joined r app rules others = IfOk-weaker r _ _ (λ c made. record {
  app = made.app ∙ ap (λ rs. record app { top = record app.top { rules = rs } }) (append_assoc app.top.rules rules others);
  local = made.local;
})

-- one more command
pub with_command : (old sub new : Command) (app : App) (shape : Shape) → app_of old ≡ app → IsMade sub (alone shape) → AddsSubcommand old sub new → app_of new ≡ with_subcommand app shape
with_command old sub new app shape is made adds = adds.shape made.local ∙ ap₂ with_subcommand is (ap (λ (a : App). a.top) made.app)
