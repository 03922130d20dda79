-- Messages about the words of a command line.
use Rattle.std.specs.Prelude.{[], ◌∷◌, codes}
use Rattle.cargo_workspaces.specs.Workspaces.{Text}
use Rattle.feats_words.specs.Refusals.{Refusal, bad_platform, bad_resolver, two_resolvers, bad_format, graph_format, summary_format, routes_of_all, list_of_nothing, unused_of_one, packages_of_every_choice, exclude_alone, bad_command, bad_depth, bad_edges, out_of_memory}
use Rattle.feats_files.specs.Messages.{joined}

abbrev pub words_message : Refusal → Text
words_message (bad_platform word) = joined (codes "`" ∷ word ∷ codes "` isn't TRIPLE=CFGFILE: write the triple, `=` and the file, as x86_64-unknown-linux-gnu=host.cfg" ∷ [])
words_message (bad_resolver word) = joined (codes "`" ∷ word ∷ codes "` isn't a version of the resolver: write 1, 2 or 3" ∷ [])
words_message two_resolvers = joined (codes "--resolver and a manifest are both given: leave one out" ∷ [])
words_message (bad_format word) = joined (codes "`" ∷ word ∷ codes "` isn't a format: write text or json" ∷ [])
words_message graph_format = joined (codes "`dot` prints a graph for Graphviz: leave --format out" ∷ [])
words_message summary_format = joined (codes "`plan --summary` prints TOML: leave --format out" ∷ [])
words_message routes_of_all = joined (codes "--routes and --all are both given: leave one out" ∷ [])
words_message list_of_nothing = joined (codes "`list` needs a package: write NAME, NAME@VERSION or an id, or --unused" ∷ [])
words_message unused_of_one = joined (codes "`list --unused` is about all members of the workspace: leave the package out" ∷ [])
words_message packages_of_every_choice = joined (codes "`--every-choice` is about all members of the workspace: leave -p and --exclude out" ∷ [])
words_message exclude_alone = joined (codes "`--exclude` leaves members out of all members: write --workspace too" ∷ [])
words_message (bad_command word) = joined (codes "`" ∷ word ∷ codes "` isn't a command whose build is planned: write build or test" ∷ [])
words_message (bad_depth word) = joined (codes "`" ∷ word ∷ codes "` isn't a depth: write a decimal number" ∷ [])
words_message (bad_edges word) = joined (codes "`" ∷ word ∷ codes "` isn't a kind of edges: write packages or features" ∷ [])
words_message out_of_memory = codes "out of memory"
