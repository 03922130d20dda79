use Rattle.std.proofs.Common.{◌≡◌, true, false, cond, Some, None, refl, ap, length}
use Rattle.std.specs.Str.Iter.{chars_rest}
use Rattle.platform_specs.specs.Grammar.{is_in_platform}
use Rattle.platform_specs.specs.inner.Positions.{platform_step}
use Rattle.platform_specs.proofs.Places.{at_start, at_next, at_stop, at_end, stopped_within}
use Rattle.platform_specs.proofs.expression_text.unread_name.Goals as goal

pub text-init : goal.text-init
text-init c = at_start platform_step tt c.args.text.now _ _ tt c.utf8.text c.chars-rest.ensures.rest refl refl

pub returns-then-not-is_in_platform-clause-read : goal.returns-then-not-is_in_platform-clause-read
returns-then-not-is_in_platform-clause-read c =
    let f : is_in_platform c.in-Some.c ≡ false = cc in
    at_stop platform_step tt c.args.text.now (chars_rest c.text.rest) (chars_rest c.next.new.self) c.text.left c.in-Some.c tt c.text.invariant c.in-Some.ensures.steps.0 (ap (λ b. cond b (Some tt) None) f)

pub returns-then-not-is_in_platform-clause-within : goal.returns-then-not-is_in_platform-clause-within
returns-then-not-is_in_platform-clause-within c =
    let f : is_in_platform c.in-Some.c ≡ false = cc in
    stopped_within platform_step tt c.args.text.now c.text.left c.utf8.text
    (at_stop platform_step tt c.args.text.now (chars_rest c.text.rest) (chars_rest c.next.new.self) c.text.left c.in-Some.c tt c.text.invariant c.in-Some.ensures.steps.0 (ap (λ b. cond b (Some tt) None) f))

pub text-preserved : goal.text-preserved
text-preserved c =
    let f : is_in_platform c.in-Some.c ≡ true = cc in
    at_next platform_step tt c.args.text.now (chars_rest c.text.rest) (chars_rest c.next.new.self) c.text.left (length c.as_str-left.result.now) c.in-Some.c tt tt c.text.invariant c.in-Some.ensures.steps.0
    (ap length c.as_str-left.ensures) (ap (λ b. cond b (Some tt) None) f)

pub returns-clause-read : goal.returns-clause-read
returns-clause-read c = at_end platform_step tt c.args.text.now (chars_rest c.text.rest) c.text.left tt c.text.invariant c.in_default.ensures.steps.0.0
