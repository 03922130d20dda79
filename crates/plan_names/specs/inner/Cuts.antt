-- Words cut at their last slash.
use Rattle.std.specs.Prelude.{Option, Some, None, if◌then◌else◌}
use Rattle.std.specs.List.{after_last, before_last, list_any}
use Rattle.cargo_workspaces.specs.Workspaces.{Text}
use Rattle.plan_words.specs.FeatureWords.{is_slash}
use Rattle.plan_names.specs.declared.word_cuts.Cut.{Cut}

pub record CutText : Type 0 where
  pub front : Text
  pub name : Text

abbrev pub cut_text : Cut → CutText
cut_text c = record { front = c.front.now; name = c.name.now }

abbrev pub cut_of : Text → Option CutText
cut_of word = if list_any is_slash word then Some (record { front = before_last is_slash word; name = after_last is_slash word }) else None
