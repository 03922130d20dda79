-- The ids that a described workspace names are those of its packages.
use Rattle.std.proofs.Common.{◌≡◌, ◌∙◌, sym, ap, refl, subst, ℕ, ◌+◌, List, [], ◌∷◌, map, length, suc, Bool, true, false, ◌&&◌, ◌||◌, cond}
use Rattle.std.specs.Prelude.{Option, Some, None, Result, Ok, codes, option_map, filter, ⊤}
use Rattle.std.specs.List.{list_all, AllByRecursion, AllZip}
use Rattle.std.specs.Option.{unwrap_or}
use Rattle.std.specs.Str.{bytes_eq}
use Rattle.std.proofs.lemmas.Slice.Eq.{bytes_eq-Decides}
use Rattle.json.specs.Json.{Json, Items, no_items, item}
use Rattle.cargo_json.specs.declared.fault.Place.{Place}
use Rattle.cargo_json.specs.declared.fault.Place.TheVariants as place
use Rattle.cargo_json.specs.Faults.{Text, Refusal, ◌>>=◌}
use Rattle.cargo_json.specs.Fields.{text_in, optional_text_in, list_in, texts_in}
use Rattle.workspace_documents.specs.Lists.{ById, at_id, each}
use Rattle.workspace_documents.specs.Packages.{DeclarationText, PackageText}
use Rattle.workspace_documents.specs.Nodes.{DepText, NodeText, ResolvedText, found_or, package_at, uses_in, dep_in, no_node, node_in, resolve_in, nodes_in, known, members_in, node_of, resolved_in}
use Rattle.workspace_documents.specs.Dependencies.{FoundPackage, nothing, one, several, found_of, pick, if_nothing, choice_of, is_used, is_admitted, is_as_named, one_or, led_to, choice}
use Rattle.workspace_documents.specs.Leads.{single, lead_in, leads_in, all_leads, root_of, root_in}
use Rattle.workspace_documents.specs.Rules.{is_known, is_known_if_any, LeadsOf}
use Rattle.workspace_documents.proofs.Sorted.{ok_same, both_ok, by_id_all}

and_true : (a b : Bool) → a ≡ true → b ≡ true → (a && b) ≡ true
and_true a b p q = rw (p, q) refl

true_and : (a b : Bool) → (a && b) ≡ true → (a ≡ true) × (b ≡ true)
true_and true b h = (refl, h)
true_and false b h = cc

found : {X : Type 0} (at : Place) (name id : Text) (o : Option X) (x : X) → found_or at name id o ≡ Ok x → o ≡ Some x
found at name id (Some y) x h = ap Some (ok_same y x h)
found at name id None x h = cc

known_by : {X : Type 0} (b r : Bool) (y x : X) (o : Option X) → cond b (Some y) o ≡ Some x → (o ≡ Some x → r ≡ true) → (b || r) ≡ true
known_by true r y x o h f = refl
known_by false r y x o h f = f h

known_at : {X : Type 0} (id : Text) (xs : ById X) (x : X) → at_id id xs ≡ Some x → is_known xs id ≡ true
known_at id [] x h = cc
known_at id (e ∷ es) x h = known_by (bytes_eq id e.0) (is_known es id) e.1 x (at_id id es) h (known_at id es x)

or_true : (a b : Bool) → b ≡ true → (a || b) ≡ true
or_true true b h = refl
or_true false b h = h

same_some : {X : Type 0} (x y : X) → ◌≡◌ {A = Option X} (Some x) (Some y) → x ≡ y
same_some x y h = cc

own_by : (b r : Bool) (p q : PackageText) (key : Text) (o : Option PackageText) → q.id ≡ key → cond b (Some q) o ≡ Some p → (o ≡ Some p → r ≡ true) → (bytes_eq p.id key || r) ≡ true
own_by true r p q key o own h f = rw ((bytes_eq-Decides p.id key).1 (ap (λ (z : PackageText). z.id) (sym (same_some q p h)) ∙ own)) refl
own_by false r p q key o own h f = or_true (bytes_eq p.id key) r (f h)

own_known : (xs : ById PackageText) → AllByRecursion (λ e. e.1.id ≡ e.0) xs → (id : Text) (p : PackageText) → at_id id xs ≡ Some p → is_known xs p.id ≡ true
own_known [] own id p h = cc
own_known (e ∷ es) own id p h = own_by (bytes_eq id e.0) (is_known es p.id) p e.1 e.0 (at_id id es) own.0 h (own_known es own.1 id p)

each_all : {X : Type 0} (read : ℕ → Json → Result X Refusal) (test : X → Bool) → ((n : ℕ) (d : Json) (x : X) → read n d ≡ Ok x → test x ≡ true) → (ds : Items) (n : ℕ) (xs : List X) → each read n ds ≡ Ok xs → list_all test xs ≡ true
each_all read test good no_items n xs h = ap (list_all test) (sym (ok_same [] xs h))
each_all {X} read test good (item d ds) n xs h =
    let first = both_ok (read n d) (λ (x : X). each read (n + 1) ds >>= λ (ys : List X). Ok (x ∷ ys)) xs h in
    let rest = both_ok (each read (n + 1) ds) (λ (ys : List X). Ok (first.0 ∷ ys)) xs first.2 in
    ap (list_all test) (sym (ok_same (first.0 ∷ rest.0) xs rest.2)) ∙ and_true (test first.0) (list_all test rest.0) (good n d first.0 first.1) (each_all read test good ds (n + 1) rest.0 rest.1)

module _ (packages : ById PackageText) where
  known_all : (name : Text) (ids : List Text) (unit : ⊤) → known packages name ids ≡ Ok unit → list_all (is_known packages) ids ≡ true
  unfolding package_at
  known_all name [] unit h = refl
  known_all name (id ∷ ids) unit h =
      let first = both_ok (package_at packages place.Document name id) (λ _. known packages name ids) unit h in
      and_true (is_known packages id) (list_all (is_known packages) ids) (known_at id packages first.0 (found place.Document name id (at_id id packages) first.0 first.1)) (known_all name ids unit first.2)

  pub members_known : (name : Text) (d : Json) (ids : List Text) → members_in packages name d ≡ Ok ids → list_all (is_known packages) ids ≡ true
  unfolding members_in
  members_known name d ids h =
      let texts = both_ok (texts_in place.Document name d) _ ids h in
      let all = both_ok (known packages name texts.0) _ ids texts.2 in
      ap (list_all (is_known packages)) (sym (ok_same texts.0 ids all.2)) ∙ known_all name texts.0 all.0 all.1

  root_known_by : (o root : Option Text) → root_of packages o ≡ Ok root → is_known_if_any packages root ≡ true
  unfolding package_at
  root_known_by None root h = ap (is_known_if_any packages) (sym (ok_same None root h))
  root_known_by (Some id) root h =
      let at = both_ok (package_at packages place.Resolve (codes "root") id) (λ _. Ok (Some id)) root h in
      ap (is_known_if_any packages) (sym (ok_same (Some id) root at.2)) ∙ known_at id packages at.0 (found place.Resolve (codes "root") id (at_id id packages) at.0 at.1)

  pub root_known : (d : Json) (root : Option Text) → root_in packages d ≡ Ok root → is_known_if_any packages root ≡ true
  unfolding root_in
  root_known d root h =
      let resolve = both_ok (resolve_in d) _ root h in
      let text = both_ok (optional_text_in place.Resolve (codes "root") resolve.0) (root_of packages) root resolve.2 in
      root_known_by text.0 root text.2

  abbrev knows : DepText → Bool
  knows dep = is_known packages dep.target.id

  abbrev KnownDeps : Text × NodeText → Type 0
  KnownDeps e = list_all knows e.1.deps ≡ true

  module _ (own : AllByRecursion (λ e. e.1.id ≡ e.0) packages) where
    dep_known : (n i : ℕ) (d : Json) (dep : DepText) → dep_in packages n i d ≡ Ok dep → knows dep ≡ true
    unfolding dep_in package_at
    dep_known n i d dep h =
        let extern_name = both_ok (text_in (place.Dep n i) (codes "name") d) _ dep h in
        let id = both_ok (text_in (place.Dep n i) (codes "pkg") d) _ dep extern_name.2 in
        let kinds = both_ok (list_in (place.Dep n i) (codes "dep_kinds") d) _ dep id.2 in
        let target = both_ok (package_at packages (place.Dep n i) (codes "pkg") id.0) _ dep kinds.2 in
        let uses = both_ok (uses_in n i kinds.0) _ dep target.2 in
        ap knows (sym (ok_same _ dep uses.2)) ∙ own_known packages own id.0 target.0 (found (place.Dep n i) (codes "pkg") id.0 (at_id id.0 packages) target.0 target.1)

    node_known : (n : ℕ) (d : Json) (e : Text × NodeText) → node_in packages n d ≡ Ok e → KnownDeps e
    unfolding node_in
    node_known n d e h =
        let id = both_ok (text_in (place.Node n) (codes "id") d) _ e h in
        let at = both_ok (package_at packages (place.Node n) (codes "id") id.0) _ e id.2 in
        let objects = both_ok (list_in (place.Node n) (codes "deps") d) _ e at.2 in
        let deps = both_ok (each (dep_in packages n) 0 objects.0) _ e objects.2 in
        ap (λ (x : Text × NodeText). list_all knows x.1.deps) (sym (ok_same _ e deps.2)) ∙ each_all (dep_in packages n) knows (dep_known n) objects.0 0 deps.0 deps.1

    nodes_known : (d : Json) (nodes : ById NodeText) → nodes_in packages d ≡ Ok nodes → AllByRecursion KnownDeps nodes
    unfolding nodes_in
    nodes_known d nodes h =
        let resolve = both_ok (resolve_in d) _ nodes h in
        let objects = both_ok (list_in place.Resolve (codes "nodes") resolve.0) _ nodes resolve.2 in
        by_id_all (node_in packages) place.Node KnownDeps node_known objects.0 0 [] nodes objects.2 tt

    pub resolved_known : (d : Json) (resolved : ResolvedText) → resolved_in packages d ≡ Ok resolved → (list_all (is_known packages) resolved.members ≡ true) × AllByRecursion KnownDeps resolved.nodes
    unfolding resolved_in
    resolved_known d resolved h =
        let members = both_ok (members_in packages (codes "workspace_members") d) _ resolved h in
        let nodes = both_ok (nodes_in packages d) _ resolved members.2 in
        let is : (let it : ResolvedText = record { members = members.0; nodes = nodes.0 } in it) ≡ resolved = ok_same _ resolved nodes.2 in (
          ap (λ (r : ResolvedText). list_all (is_known packages) r.members) (sym is) ∙ members_known (codes "workspace_members") d members.0 members.1,
          subst (λ (r : ResolvedText). AllByRecursion KnownDeps r.nodes) is (nodes_known d nodes.0 nodes.1),
        )

  node_by : (b : Bool) (n : NodeText) (o : Option NodeText) → list_all knows n.deps ≡ true → list_all knows (unwrap_or o no_node).deps ≡ true → list_all knows (unwrap_or (cond b (Some n) o) no_node).deps ≡ true
  node_by true n o p q = p
  node_by false n o p q = q

  node_knows : (id : Text) (nodes : ById NodeText) → AllByRecursion KnownDeps nodes → list_all knows (node_of id nodes).deps ≡ true
  node_knows id [] a = refl
  node_knows id (e ∷ es) a = node_by (bytes_eq id e.0) e.1 (at_id id es) a.0 (node_knows id es a.1)

  abbrev FoundKnown : FoundPackage → Type 0
  FoundKnown nothing = ⊤
  FoundKnown (one p) = is_known packages p.id ≡ true
  FoundKnown several = ⊤

  found_known : (ps : List PackageText) → list_all (λ p. is_known packages p.id) ps ≡ true → FoundKnown (found_of ps)
  found_known [] h = tt
  found_known (p ∷ []) h = (true_and (is_known packages p.id) true h).0
  found_known (p ∷ q ∷ ps) h = tt

  abbrev targets : List DepText → List PackageText
  targets = map (λ dep. dep.target)

  kept_by : (b : Bool) (dep : DepText) (more : List DepText) → knows dep ≡ true → list_all (λ p. is_known packages p.id) (targets more) ≡ true → list_all (λ p. is_known packages p.id) (targets (cond b (dep ∷ more) more)) ≡ true
  kept_by true dep more p q = and_true (knows dep) (list_all (λ p. is_known packages p.id) (targets more)) p q
  kept_by false dep more p q = q

  kept_known : (test : DepText → Bool) (deps : List DepText) → list_all knows deps ≡ true → list_all (λ p. is_known packages p.id) (targets (filter test deps)) ≡ true
  kept_known test [] h = refl
  kept_known test (dep ∷ deps) h =
      let parts = true_and (knows dep) (list_all knows deps) h in
      kept_by (test dep) dep (filter test deps) parts.0 (kept_known test deps parts.1)

  pick_known : (test : DeclarationText → DepText → Bool) (id : Text) (d : DeclarationText) (deps : List DepText) → list_all knows deps ≡ true → FoundKnown (pick test id d deps)
  unfolding pick
  pick_known test id d deps h = found_known _ (kept_known _ deps h)

  several_known : (c : FoundPackage) → FoundKnown c → FoundKnown (if_nothing c several)
  several_known nothing z = tt
  several_known (one p) z = z
  several_known several z = tt

  one_or_known : (a b : FoundPackage) → FoundKnown a → FoundKnown b → FoundKnown (one_or a b)
  one_or_known nothing b x y = y
  one_or_known (one p) b x y = x
  one_or_known several b x y = y

  choice_known : (optional : Bool) (a b c e : FoundPackage) → FoundKnown a → FoundKnown b → FoundKnown c → FoundKnown e → FoundKnown (choice_of optional a b c e)
  choice_known true (one p) b c e x y z v = x
  choice_known false (one p) b c e x y z v = x
  choice_known true nothing b c e x y z v = y
  choice_known false nothing b c e x y z v = tt
  choice_known true several b c e x y z v = one_or_known e _ v (several_known c z)
  choice_known false several b c e x y z v = one_or_known e _ v (several_known c z)

  single_known : (optional : Bool) (f : FoundPackage) → FoundKnown f → FoundKnown (single optional f)
  single_known optional nothing x = tt
  single_known optional (one p) x = x
  single_known true several x = tt
  single_known false several x = tt

  led_known : (id name : Text) (f : FoundPackage) (o : Option PackageText) → FoundKnown f → led_to id name f ≡ Ok o → is_known_if_any packages (option_map (λ p. p.id) o) ≡ true
  led_known id name nothing o k h = ap (λ (o : Option PackageText). is_known_if_any packages (option_map (λ p. p.id) o)) (sym (ok_same None o h))
  led_known id name (one p) o k h = ap (λ (o : Option PackageText). is_known_if_any packages (option_map (λ p. p.id) o)) (sym (ok_same (Some p) o h)) ∙ k
  led_known id name several o k h = cc

  lead_known : (id : Text) (deps : List DepText) (d : DeclarationText) (lead : Option Text) → list_all knows deps ≡ true → lead_in id deps d ≡ Ok lead → is_known_if_any packages lead ≡ true
  unfolding lead_in
  lead_known id deps d lead all h =
      let target = both_ok (led_to id d.name (single d.is_optional (choice id d deps))) (λ (o : Option PackageText). Ok (option_map (λ p. p.id) o)) lead h in
      let both = λ (e : DeclarationText) (dep : DepText). is_used e dep && is_admitted e dep in
      let named = λ (e : DeclarationText) (dep : DepText). is_used e dep && is_as_named e dep in
      ap (is_known_if_any packages) (sym (ok_same (option_map (λ p. p.id) target.0) lead target.2))
      ∙ led_known id d.name (single d.is_optional (choice id d deps)) target.0 (single_known d.is_optional (choice id d deps) (choice_known d.is_optional (pick is_used id d deps) (pick is_admitted id d deps) (pick both id d deps) (pick named id d deps) (pick_known is_used id d deps all) (pick_known is_admitted id d deps all) (pick_known both id d deps all) (pick_known named id d deps all))) target.1

  leads_known : (id : Text) (deps : List DepText) (ds : List DeclarationText) (leads : List (Option Text)) → list_all knows deps ≡ true → leads_in id deps ds ≡ Ok leads → (length leads ≡ length ds) × (list_all (is_known_if_any packages) leads ≡ true)
  leads_known id deps [] leads all h = let is : [] ≡ leads = ok_same [] leads h in (ap length (sym is), ap (list_all (is_known_if_any packages)) (sym is))
  leads_known id deps (d ∷ ds) leads all h =
      let lead = both_ok (lead_in id deps d) (λ (l : Option Text). leads_in id deps ds >>= λ (ls : List (Option Text)). Ok (l ∷ ls)) leads h in
      let rest = both_ok (leads_in id deps ds) (λ (ls : List (Option Text)). Ok (lead.0 ∷ ls)) leads lead.2 in
      let is : lead.0 ∷ rest.0 ≡ leads = ok_same (lead.0 ∷ rest.0) leads rest.2 in
      let more = leads_known id deps ds rest.0 all rest.1 in (
        ap length (sym is) ∙ ap suc more.0,
        ap (list_all (is_known_if_any packages)) (sym is) ∙ and_true (is_known_if_any packages lead.0) (list_all (is_known_if_any packages) rest.0) (lead_known id deps d lead.0 all lead.1) more.1,
      )

  pub all_known : (nodes : ById NodeText) → AllByRecursion KnownDeps nodes → (es : ById PackageText) (all : ById (List (Option Text))) → all_leads nodes es ≡ Ok all → AllZip (LeadsOf packages) es all
  all_known nodes a [] all h = subst (AllZip (LeadsOf packages) []) (ok_same [] all h) tt
  all_known nodes a (e ∷ es) all h =
      let leads = both_ok (leads_in e.1.id (node_of e.0 nodes).deps e.1.declarations) (λ (l : List (Option Text)). all_leads nodes es >>= λ (ls : ById (List (Option Text))). Ok ((e.0, l) ∷ ls)) all h in
      let rest = both_ok (all_leads nodes es) (λ (ls : ById (List (Option Text))). Ok ((e.0, leads.0) ∷ ls)) all leads.2 in
      let these = leads_known e.1.id (node_of e.0 nodes).deps e.1.declarations leads.0 (node_knows e.0 nodes a) leads.1 in
      subst (AllZip (LeadsOf packages) (e ∷ es)) (ok_same ((e.0, leads.0) ∷ rest.0) all rest.2) ((refl, these.0, these.1), all_known nodes a es rest.0 rest.1)
