-- The first rule whose word names nothing.
use Rattle.std.specs.Prelude.{◌≡◌, List, [], Bool, true, Some, map, slice_get}
use Rattle.cargo_workspaces.specs.Workspaces.{Text}
use Rattle.feats_policies.specs.Rules.{RuleText}
use Rattle.feats_check.specs.texts.Messages.{unmatched_message}

-- There is none, if each word must name something.
abbrev pub IsNone : Bool → List RuleText → Type 0
IsNone strict rules = strict ≡ true → rules ≡ []

-- The message about the first.
pub record IsFirst (file : Text) (strict : Bool) (rules : List RuleText) (message : Text) : Type 0 where
  pub is_strict : strict ≡ true
  pub is_first : slice_get (map (unmatched_message file) rules) 0 ≡ Some message
