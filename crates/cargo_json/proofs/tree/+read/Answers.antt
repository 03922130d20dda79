use Rattle.std.proofs.Common.{◌≡◌, ◌-◌, ◌<◌, [], ◌∷◌, length, Some, None, sym, ap, ap₂, ◌∙◌, arith, rules}
use Rattle.json.specs.Token.{Token}
use Rattle.json.specs.Json.{Json, array, object, parse_map, after_end_array, read_key, items, members, value}
use Rattle.json.specs.Reads.{token_of}
use Rattle.json.specs.Value.{value_view, items_view, members_view}
use Rattle.json.specs.declared.value.Value.{String, Number, Bool, Null, the_lemmas}
use Rattle.json.proofs.Grammar.{value_is, value-begin_array, value-begin_object, read_key-shorter, items_end, items_fail, items_more, members_end, members_no_key, members_fail, members_more}
use Rattle.json.proofs.Trees.{items_before, members_before, items_before-no_items, members_before-no_members, one_more_item, one_more_member, none_before, view-Array, view-Object}
use Rattle.cargo_json.proofs.tree.+read.Goals as goal

pub read-returns-in_err-token-clause-invalid : goal.read-returns-in_err-token-clause-invalid
read-returns-in_err-token-clause-invalid t c invalid =
    let empty : c.args.reader.now ≡ [] = grind arith in
    ap (value c.args.depth) empty ∙ value_is c.args.depth []

pub read-returns-then-depth-eq0-clause-invalid : goal.read-returns-then-depth-eq0-clause-invalid
unfolding value
read-returns-then-depth-eq0-clause-invalid t c never =
    let first : c.args.reader.now ≡ token_of c.in_ok-token.token ∷ c.next.new.self = grind arith in
    let none : c.args.depth ≡ 0 = omega arith in
    ap₂ value none (first ∙ ap (λ k. token_of k ∷ c.next.new.self) c.in-BeginArray.is)

pub read-returns-in_err-read_items-in-BeginArray-clause-invalid : goal.read-returns-in_err-read_items-in-BeginArray-clause-invalid
read-returns-in_err-read_items-in-BeginArray-clause-invalid t c invalid =
    let first : c.args.reader.now ≡ token_of c.in_ok-token.token ∷ c.next.new.self = grind arith in
    let opened = ap (value c.args.depth) (first ∙ ap (λ k. token_of k ∷ c.next.new.self) c.in-BeginArray.is) ∙ value-begin_array c.args.depth c.next.new.self (omega arith) in
    let failed : items (value (c.args.depth - 1)) (length c.next.new.self) c.next.new.self ≡ None = grind arith in
    opened ∙ ap (parse_map array) failed

pub read-returns-then-depth-eq0-2-clause-invalid : goal.read-returns-then-depth-eq0-2-clause-invalid
unfolding value
read-returns-then-depth-eq0-2-clause-invalid t c never =
    let first : c.args.reader.now ≡ token_of c.in_ok-token.token ∷ c.next.new.self = grind arith in
    let none : c.args.depth ≡ 0 = omega arith in
    ap₂ value none (first ∙ ap (λ k. token_of k ∷ c.next.new.self) c.in-BeginObject.is)

pub read-returns-in_err-read_members-in-BeginObject-clause-invalid : goal.read-returns-in_err-read_members-in-BeginObject-clause-invalid
read-returns-in_err-read_members-in-BeginObject-clause-invalid t c invalid =
    let first : c.args.reader.now ≡ token_of c.in_ok-token.token ∷ c.next.new.self = grind arith in
    let opened = ap (value c.args.depth) (first ∙ ap (λ k. token_of k ∷ c.next.new.self) c.in-BeginObject.is) ∙ value-begin_object c.args.depth c.next.new.self (omega arith) in
    let failed : members (value (c.args.depth - 1)) (length c.next.new.self) c.next.new.self ≡ None = grind arith in
    opened ∙ ap (parse_map object) failed

pub read-returns-in-String-clause-ok : goal.read-returns-in-String-clause-ok
read-returns-in-String-clause-ok t c =
    let first : c.args.reader.now ≡ token_of c.in_ok-token.token ∷ c.next.new.self = grind arith in
    let is : c.args.reader.now ≡ Token.string c.in-String.text.now ∷ c.next.new.self = grind (arith, first) in
    let seen : value_view (String c.in-String.text) ≡ Json.string c.in-String.text.now = search (rules, the_lemmas) in
    ap (value c.args.depth) is ∙ value_is c.args.depth _ ∙ ap (λ j. Some (j, c.next.new.self)) (sym seen)

pub read-returns-in-Number-clause-ok : goal.read-returns-in-Number-clause-ok
read-returns-in-Number-clause-ok t c =
    let first : c.args.reader.now ≡ token_of c.in_ok-token.token ∷ c.next.new.self = grind arith in
    let is : c.args.reader.now ≡ Token.number c.in-Number.text.now ∷ c.next.new.self = grind (arith, first) in
    let seen : value_view (Number c.in-Number.text) ≡ Json.number c.in-Number.text.now = search (rules, the_lemmas) in
    ap (value c.args.depth) is ∙ value_is c.args.depth _ ∙ ap (λ j. Some (j, c.next.new.self)) (sym seen)

pub read-returns-in-Bool-clause-ok : goal.read-returns-in-Bool-clause-ok
read-returns-in-Bool-clause-ok t c =
    let first : c.args.reader.now ≡ token_of c.in_ok-token.token ∷ c.next.new.self = grind arith in
    let is : c.args.reader.now ≡ Token.boolean c.in-Bool.b ∷ c.next.new.self = grind (arith, first) in
    let seen : value_view (Bool c.in-Bool.b) ≡ Json.boolean c.in-Bool.b = search (rules, the_lemmas) in
    ap (value c.args.depth) is ∙ value_is c.args.depth _ ∙ ap (λ j. Some (j, c.next.new.self)) (sym seen)

pub read-returns-in-Null-clause-ok : goal.read-returns-in-Null-clause-ok
read-returns-in-Null-clause-ok t c =
    let first : c.args.reader.now ≡ token_of c.in_ok-token.token ∷ c.next.new.self = grind arith in
    let is : c.args.reader.now ≡ Token.null ∷ c.next.new.self = grind (arith, first) in
    let seen : value_view (Null) ≡ Json.null = search (rules, the_lemmas) in
    ap (value c.args.depth) is ∙ value_is c.args.depth _ ∙ ap (λ j. Some (j, c.next.new.self)) (sym seen)

pub read-returns-in-EndObject-clause-invalid : goal.read-returns-in-EndObject-clause-invalid
read-returns-in-EndObject-clause-invalid t c invalid =
    let first : c.args.reader.now ≡ token_of c.in_ok-token.token ∷ c.next.new.self = grind arith in
    rw (value_is c.args.depth c.args.reader.now, first) (grind arith)

pub read-returns-in_ok-read_items-in-BeginArray-clause-ok : goal.read-returns-in_ok-read_items-in-BeginArray-clause-ok
read-returns-in_ok-read_items-in-BeginArray-clause-ok t c =
    let first : c.args.reader.now ≡ token_of c.in_ok-token.token ∷ c.next.new.self = grind arith in
    let opened = ap (value c.args.depth) (first ∙ ap (λ k. token_of k ∷ c.next.new.self) c.in-BeginArray.is) ∙ value-begin_array c.args.depth c.next.new.self (omega arith) in
    let found = c.in_ok-read_items-in-BeginArray in
    opened ∙ ap (parse_map array) found.ensures.ok ∙ ap (λ j. Some (j, c.read_items.new.reader)) (sym (view-Array found.field-0))

pub read-returns-in_ok-read_members-in-BeginObject-clause-ok : goal.read-returns-in_ok-read_members-in-BeginObject-clause-ok
read-returns-in_ok-read_members-in-BeginObject-clause-ok t c =
    let first : c.args.reader.now ≡ token_of c.in_ok-token.token ∷ c.next.new.self = grind arith in
    let opened = ap (value c.args.depth) (first ∙ ap (λ k. token_of k ∷ c.next.new.self) c.in-BeginObject.is) ∙ value-begin_object c.args.depth c.next.new.self (omega arith) in
    let found = c.in_ok-read_members-in-BeginObject in
    opened ∙ ap (parse_map object) found.ensures.ok ∙ ap (λ j. Some (j, c.read_members.new.reader)) (sym (view-Object found.field-0))

pub read_items-items-init : goal.read_items-items-init
read_items-items-init t c = (length c.args.reader.now, omega arith, none_before _ ∙ ap (λ vs. parse_map (items_before vs) (items (value c.args.depth) (length c.args.reader.now) c.args.reader.now)) (sym c.new-found.ensures.items), omega arith)

pub read_items-returns-in_err-item-clause-invalid : goal.read_items-returns-in_err-item-clause-invalid
read_items-returns-in_err-item-clause-invalid t c invalid =
    let p = value c.args.depth in
    let l = c.items in
    let n = l.invariant.0 in
    let going : (after_end_array l.reader ≡ None) × (c.take_end_array.new.self ≡ l.reader) = grind arith in
    let failed : p c.take_end_array.new.self ≡ None = grind arith in
    l.invariant.2 ∙ ap (parse_map (items_before l.found.items)) (items_fail p n l.reader going.0 (rw (← going.1) failed))

pub read_items-items-preserved : goal.read_items-items-preserved
read_items-items-preserved t c =
    let p = value c.args.depth in
    let l = c.items in
    let n = l.invariant.0 in
    let going : (after_end_array l.reader ≡ None) × (c.take_end_array.new.self ≡ l.reader) = grind arith in
    let done = c.in_ok-item.ensures in
    let v = c.in_ok-item.item in
    let r = c.read.new.reader in
    let less : length r < length l.reader = rw (← going.1) done.shorter in
    let pushed = c.in_ok-push.ensures.items in
    let turn = items_more p n l.reader r (value_view v) (omega (arith, l.invariant.1)) going.0 (rw (← going.1) done.ok) in (
      n - 1,
      omega (arith, l.invariant.1),
      l.invariant.2 ∙ ap (parse_map (items_before l.found.items)) turn ∙ one_more_item l.found.items v _ ∙ ap (λ vs. parse_map (items_before vs) (items p (n - 1) r)) (sym pushed),
      omega (arith, l.invariant.3),
    )

pub read_items-returns-clause-ok : goal.read_items-returns-clause-ok
read_items-returns-clause-ok t c =
    let p = value c.args.depth in
    let l = c.items in
    let n = l.invariant.0 in
    let r = c.take_end_array.new.self in
    l.invariant.2 ∙ ap (parse_map (items_before l.found.items)) (items_end p n l.reader r l.invariant.1 (grind arith)) ∙ ap (λ js. Some (js, r)) (items_before-no_items l.found.items) ∙ ap (λ vs. Some (items_view vs, r)) (sym c.in_ok-found.ensures)

pub read_members-members-init : goal.read_members-members-init
read_members-members-init t c = (length c.args.reader.now, omega arith, none_before _ ∙ ap (λ vs. parse_map (members_before vs) (members (value c.args.depth) (length c.args.reader.now) c.args.reader.now)) (sym c.new-found.ensures.items), omega arith)

pub read_members-returns-in_err-name-clause-invalid : goal.read_members-returns-in_err-name-clause-invalid
read_members-returns-in_err-name-clause-invalid t c invalid =
    let p = value c.args.depth in
    let l = c.members in
    let n = l.invariant.0 in
    l.invariant.2 ∙ ap (parse_map (members_before l.found.items)) (members_no_key p n l.reader c.in_err-name.ensures.value)

pub read_members-returns-in_err-member-clause-invalid : goal.read_members-returns-in_err-member-clause-invalid
read_members-returns-in_err-member-clause-invalid t c invalid =
    let p = value c.args.depth in
    let l = c.members in
    let n = l.invariant.0 in
    let k = c.in-Some.name.now in
    let s = c.next_key.new.self in
    let key : read_key l.reader ≡ Some (Some k, s) = grind arith in
    let failed : p s ≡ None = grind arith in
    l.invariant.2 ∙ ap (parse_map (members_before l.found.items)) (members_fail p n k l.reader s key failed)

pub read_members-members-preserved : goal.read_members-members-preserved
read_members-members-preserved t c =
    let p = value c.args.depth in
    let l = c.members in
    let n = l.invariant.0 in
    let k = c.in-Some.name.now in
    let s = c.next_key.new.self in
    let key : read_key l.reader ≡ Some (Some k, s) = grind arith in
    let done = c.in_ok-member.ensures in
    let v = c.in_ok-member.member in
    let r = c.read.new.reader in
    let less = read_key-shorter l.reader (Some k) s key in
    let lesser = done.shorter in
    let pushed = c.in_ok-push.ensures.items in
    let turn = members_more p n k l.reader s r (value_view v) (omega (arith, l.invariant.1)) key done.ok in (
      n - 1,
      omega (arith, l.invariant.1),
      l.invariant.2 ∙ ap (parse_map (members_before l.found.items)) turn ∙ one_more_member l.found.items (c.in-Some.name, v) _
          ∙ ap (λ ms. parse_map (members_before ms) (members p (n - 1) r)) (sym pushed),
      omega (arith, l.invariant.3),
    )

pub read_members-returns-clause-ok : goal.read_members-returns-clause-ok
read_members-returns-clause-ok t c =
    let p = value c.args.depth in
    let l = c.members in
    let n = l.invariant.0 in
    let r = c.next_key.new.self in
    l.invariant.2 ∙ ap (parse_map (members_before l.found.items)) (members_end p n l.reader r l.invariant.1 (grind arith)) ∙ ap (λ ms. Some (ms, r)) (members_before-no_members l.found.items) ∙ ap (λ ms. Some (members_view ms, r)) (sym c.in_ok-found.ensures)
