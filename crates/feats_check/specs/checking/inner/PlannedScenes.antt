-- Scenes that are those of plans.
use Rattle.std.specs.Prelude.{IfSome}
use Rattle.feats_check.specs.checking.Scenes.{IsScene, ScenesText, WideText}

-- The plans of the scenes are those of their words.
pub record AreWide (s : WideText) : Type 0 where
  pub all : IsScene s.all
  pub widest : IsScene s.widest

pub record AreScenes (s : ScenesText) : Type 0 where
  pub here : IsScene s.here
  pub wide : IfSome s.wide AreWide
