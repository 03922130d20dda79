use Rattle.feats.specs.comparisons.differences.Views.{build_text}
use Rattle.cargo_plans.specs.plan_units.UnitViews.{unit_text}
use Rattle.feats.proofs.PartLists.{no_part, one_part}
use Rattle.feats.proofs.comparisons.differences.parts.push_part.Goals as goal

pub returns-in_ok-push-in-Some : goal.returns-in_ok-push-in-Some
returns-in_ok-push-in-Some c =
    one_part (build_text c.args.build.now).targets (build_text c.args.build.now).workspace.packages c.args.number (unit_text c.args.unit.now) c.package_of.result c.package_of.ensures
    c.in-Some.package c.part_at-part.result c.args.parts.now.items c.push.new.self.items c.in-Some.is c.part_at-part.ensures c.in_ok-push-in-Some.ensures.items

pub returns-in-None : goal.returns-in-None
returns-in-None c =
    no_part (build_text c.args.build.now).targets (build_text c.args.build.now).workspace.packages c.args.number (unit_text c.args.unit.now) c.package_of.result c.package_of.ensures c.args.parts.now.items c.in-None.is
