use Rattle.digraphs.proofs.EqualLemmas.{sets_are_their_members}
use Rattle.digraphs.proofs.laws.sets_are_their_members.Goals as goal

pub returns : goal.returns
returns c = sets_are_their_members
