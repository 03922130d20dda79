use Rattle.std.proofs.Common.{◌∙◌, ap, false, codes, Option, List, ℕ}
use Rattle.std.specs.Option.{option_map_or}
use Rattle.std.specs.Str.{bytes_eq}
use Rattle.clap.proofs.WalkLemmas.{first_value-rows}
use Rattle.clap.specs.Words.{found_of}
use Rattle.feats_words.proofs.values.is_given.Goals as goal

pub returns-in-Some : goal.returns-in-Some
returns-in-Some c = c.eq.ensures ∙ ap (λ (o : Option (List ℕ)). option_map_or (λ value. bytes_eq value (codes "true")) o false) (c.in-Some.ensures ∙ first_value-rows (found_of c.args.matches.now) c.args.name.now)

pub returns-in-None : goal.returns-in-None
returns-in-None c = ap (λ (o : Option (List ℕ)). option_map_or (λ value. bytes_eq value (codes "true")) o false) (c.in-None.ensures ∙ first_value-rows (found_of c.args.matches.now) c.args.name.now)
