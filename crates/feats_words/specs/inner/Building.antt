-- How commands are made.
use Rattle.std.specs.Prelude.{◌≡◌, List, [], ◌++◌, false}
use Rattle.clap.specs.Words.{App, Rule, Shape, app_of}
use Rattle.clap.specs.declared.builder.command.Command.TheViews.{out-Command}
use Rattle.clap.specs.declared.builder.command.Command.{Command}

-- An app with more rules.
abbrev pub with_rules : App → List Rule → App
with_rules a rules = record a { top = record a.top { rules = a.top.rules ++ rules } }

-- A command without commands of its own.
abbrev pub alone : Shape → App
alone shape = record { top = shape; subs = [] }

-- A command that reads words as an app does, and has no global option.
pub record IsMade (c : Command) (a : App) : Type 0 where
  pub app : app_of c ≡ a
  pub local : (out-Command c).has_globals ≡ false
