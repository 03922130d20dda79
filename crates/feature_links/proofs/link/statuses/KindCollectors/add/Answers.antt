use Rattle.std.proofs.Common.{◌≡◌, ◌∙◌, sym, ap}
use Rattle.guppy_packages.specs.Stored.{declared}
use Rattle.guppy_packages.specs.declared.row.DependencyKind.TheVariants.{Normal, Build, Development}
use Rattle.feature_links.specs.Links.{is_kind, platforms_of}
use Rattle.std.proofs.lemmas.Result.{on_ok_weaker}
use Rattle.feature_links.proofs.StatusLemmas.{kind_kept, kind_grown}
use Rattle.feature_links.proofs.link.statuses.KindCollectors.add.Goals as goal

pub returns-in-Normal : goal.returns-in-Normal
returns-in-Normal c = on_ok_weaker c.add.result (λ holds before h.
    let d = declared c.args.declaration.now in
    let kind : d.kind ≡ Normal = sym c.kind.ensures ∙ c.in-Normal.is in
    record {
      normal = kind_grown Normal d c.add.new.self before (ap (is_kind Normal) kind) (holds (platforms_of Normal before) h.normal);
      build = kind_kept Build d c.args.self.now.build before (ap (is_kind Build) kind) h.build;
      dev = kind_kept Development d c.args.self.now.dev before (ap (is_kind Development) kind) h.dev;
    }) c.add.ensures

pub returns-in-Build : goal.returns-in-Build
returns-in-Build c = on_ok_weaker c.add-in-Build.result (λ holds before h.
    let d = declared c.args.declaration.now in
    let kind : d.kind ≡ Build = sym c.kind.ensures ∙ c.in-Build.is in
    record {
      normal = kind_kept Normal d c.args.self.now.normal before (ap (is_kind Normal) kind) h.normal;
      build = kind_grown Build d c.add-in-Build.new.self before (ap (is_kind Build) kind) (holds (platforms_of Build before) h.build);
      dev = kind_kept Development d c.args.self.now.dev before (ap (is_kind Development) kind) h.dev;
    }) c.add-in-Build.ensures

pub returns-in-Development : goal.returns-in-Development
returns-in-Development c = on_ok_weaker c.add-in-Development.result (λ holds before h.
    let d = declared c.args.declaration.now in
    let kind : d.kind ≡ Development = sym c.kind.ensures ∙ c.in-Development.is in
    record {
      normal = kind_kept Normal d c.args.self.now.normal before (ap (is_kind Normal) kind) h.normal;
      build = kind_kept Build d c.args.self.now.build before (ap (is_kind Build) kind) h.build;
      dev = kind_grown Development d c.add-in-Development.new.self before (ap (is_kind Development) kind) (holds (platforms_of Development before) h.dev);
    }) c.add-in-Development.ensures
