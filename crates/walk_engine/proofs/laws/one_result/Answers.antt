use Rattle.walk_engine.proofs.Runs.{one_result_lem}
use Rattle.walk_engine.proofs.laws.one_result.Goals as goal

pub returns : goal.returns
returns c cc' I A run other l k l' k' a a' n = (one_result_lem cc' I A run other l k' a a' n, one_result_lem cc' I A other run l' k a' a n)
