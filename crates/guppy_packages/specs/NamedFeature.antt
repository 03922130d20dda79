-- The name and the items of a named feature.
use Rattle.std.specs.Prelude.{List, drop}
use Rattle.guppy_packages.specs.Parts.{first_text}
use Rattle.guppy_packages.specs.Rows.{Text}
use Rattle.guppy_packages.specs.Tables.{FeatureTable}
use Rattle.guppy_packages.specs.declared.named_feature.NamedFeature.{NamedFeature}

-- A feature with these texts: its name, followed by its items.
abbrev pub table_of_texts : List Text → FeatureTable
table_of_texts texts = record { name = first_text texts; items = drop 1 texts }

abbrev pub feature_table : NamedFeature → FeatureTable
feature_table f = table_of_texts f.texts

abbrev pub name_text : NamedFeature → Text
name_text f = first_text f.texts
