use Rattle.std.proofs.Common.{◌≡◌, ◌∙◌, ap, subst, refl, true}
use Rattle.std.proofs.lemmas.Result.{IfOk-weaker}
use Rattle.clap.specs.Words.{App, FailsBy, app_of, fault_of, is_simple, is_simple_and_free, subcommand_of}
use Rattle.clap.proofs.OnLiterals.{clap_on_literals}
use Rattle.feats_words.specs.Commands.{feats_app}
use Rattle.feats_words.specs.Requests.{texts}
use Rattle.feats_words.proofs.request.matches_of.Goals as goal

simple : is_simple feats_app ≡ true
unfolding clap_on_literals
simple = refl

free : is_simple_and_free feats_app ≡ true
unfolding clap_on_literals
free = refl

pub returns : goal.returns
returns c =
    let parse = c.try_get_matches_from in
    let is : app_of c.in_ok-command.command ≡ feats_app = c.in_ok-command.ensures in
    record {
      command = IfOk-weaker parse.result _ _ (λ m h. (h (ap is_simple is ∙ simple)).1 ∙ ap (λ (a : App). subcommand_of a (texts c.args.words.now)) is) parse.ensures.matches;
      fault = subst (λ (a : App). FailsBy (fault_of a (texts c.args.words.now)) parse.result) is (parse.ensures.kinds (ap is_simple_and_free is ∙ free));
    }
