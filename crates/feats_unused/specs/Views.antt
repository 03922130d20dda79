-- The values that Rust's types contain.
use Rattle.cargo_workspaces.specs.Views.{package_text}
use Rattle.feats_unused.specs.Requests.{RequestText}
use Rattle.feats_unused.specs.Shown.{ShownText, dead, unused}
use Rattle.feats_unused.specs.declared.requests.Request.{Request}
use Rattle.feats_unused.specs.declared.shown.Shown.{Shown}
use Rattle.feats_unused.specs.declared.shown.Shown.TheVariants as shown

abbrev pub request_text : Request → RequestText
request_text r = record { to = r.to; feature = r.feature.now }

abbrev pub shown_text : Shown → ShownText
shown_text (shown.Unused p feature) = unused (package_text p.now) feature.now
shown_text (shown.Dead p feature item) = dead (package_text p.now) feature.now item.now
