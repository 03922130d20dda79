use Rattle.std.proofs.Common.{◌≡◌, ◌∙◌, [], List, Option, None, ap, length, map, option_map, sym}
use Rattle.std.specs.Option.{option_map_or}
use Rattle.std.specs.Prelude.{slice_get}
use Rattle.std.proofs.lemmas.Bool.{ltb-false}
use Rattle.std.proofs.lemmas.Option.{slice_get-map, slice_get_past}
use Rattle.json.specs.Token.{Token}
use Rattle.feats_tree.specs.trees.Objects.{detail_members, node_members}
use Rattle.feats_tree.specs.trees.Titles.{TitleText, title_text}
use Rattle.feats_tree.proofs.Tokens.{nothing}
use Rattle.feats_tree.proofs.trees.objects.write_node.Goals as goal

pub returns-in-None : goal.returns-in-None
returns-in-None c =
    let titles = c.args.titles.now in
    let n = c.args.number in
    let past : slice_get (map title_text titles) n ≡ None =
    slice_get-map title_text titles n ∙ ap (option_map title_text) (slice_get_past titles n (ltb-false n (length titles) (sym c.in-None.ensures.lookup.0))) in
    nothing c.args.writer.now (node_members (map title_text titles) n)
    (ap (λ (o : Option TitleText). option_map_or {U = List Token} (λ t. detail_members t.detail) o []) (sym past))
