-- What is shown of nodes.
use Rattle.std.specs.Prelude.{ℕ, List, [], Option, option_map, slice_get}
use Rattle.std.specs.Option.{option_map_or}
use Rattle.feats_tree.specs.declared.trees.titles.At.{At}
use Rattle.feats_tree.specs.declared.trees.titles.At.TheVariants as variant
use Rattle.feats_tree.specs.declared.trees.titles.Detail.{Detail}
use Rattle.feats_tree.specs.declared.trees.titles.Title.{Title}

abbrev pub Text : Type 0
Text = List ℕ

-- Where a node is: the name of a place; or a feature or an optional dependency, if the node is one, and the side.
pub data AtText : Type 0 where
  placed : Text → AtText
  part : Option Text → Option Text → Text → AtText

-- What an object shows of a node: the id, the name and the version of its package, and where it is.
pub record DetailText : Type 0 where
  pub id : Text
  pub name : Text
  pub version : Text
  pub at : AtText

-- The title of a node, and the members of its object.
pub record TitleText : Type 0 where
  pub title : Text
  pub detail : DetailText

abbrev pub at_text : At → AtText
at_text (variant.Place name) = placed name.now
at_text (variant.Part feature dependency side) = part (option_map (λ t. t.now) feature) (option_map (λ t. t.now) dependency) side.now

abbrev pub detail_text : Detail → DetailText
detail_text d = record { id = d.id.now; name = d.name.now; version = d.version.now; at = at_text d.at }

abbrev pub title_text : Title → TitleText
title_text t = record { title = t.title.now; detail = detail_text t.detail }

-- The title of a node; nothing, if it has none.
abbrev pub title_at : List TitleText → ℕ → Text
title_at titles node = option_map_or (λ t. t.title) (slice_get titles node) []
