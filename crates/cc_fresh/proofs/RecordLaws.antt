-- What is read of a record's text is the record.
use Rattle.std.proofs.Common.{◌≡◌, ℕ, ◌≤◌, List, [], ◌∷◌, ◌++◌, map, codes, decimal, Option, Some, option_and_then, unwrap_or, Bool, true, false, IsUtf8, subst, refl, sym, ap, ◌∙◌, append-nil, arith}
use Rattle.std.proofs.Math.Nat.{max-le}
use Rattle.std.proofs.lemmas.Fmt.{decimal_digit}
use Rattle.std.proofs.lemmas.Str.{is_utf8-from_IsUtf8, IsUtf8-append, IsUtf8-nil}
use Rattle.json.specs.Token.{Token}
use Rattle.json.specs.Lex.{tokens}
use Rattle.json.specs.Json.{Json, value, if_last}
use Rattle.json.specs.Tree.{json_tokens, depth, items_depth, HasNumbers, ItemsHaveNumbers}
use Rattle.json.proofs.Printed.Decimals.{IsNumber-decimal}
use Rattle.json.specs.Print.{quoted}
use Rattle.json.proofs.Printed.Utf8.{are_ascii, IsUtf8-are_ascii, IsUtf8-quoted}
use Rattle.json.proofs.Printed.Tokens.{tokens-print}
use Rattle.json.proofs.Printed.Trees.{ArePrintable-json_tokens, value-json_tokens}
use Rattle.serde_json.specs.Data.{Data, unsigned, number, string, array, object, Items, no_items, item, Members, no_members, member}
use Rattle.serde_json.specs.View.{items_of}
use Rattle.serde_json.specs.Read.{read, max_depth, of_json, of_items}
use Rattle.serde_json.specs.Written.{outline, items_outline, comma_if, compact_text, items_text, members_text, has_float, items_have_float}
use Rattle.serde_json.proofs.Numbers.{number_of-decimal}
use Rattle.serde_json.proofs.Texts.{print-outline}
use Rattle.cc_fresh.specs.Record.{dep_data, entry_data, record_data, record_text, values, all_some, dep_of, entry_of_members, entry_of, record_of, read_record, DepsAreTexts, IsText, AreTexts}
use Rattle.cc_fresh.specs.declared.record.Entry.{Entry}

-- ---- what JSON the values are

-- each item of a list reads as itself, where each value does
items_read : {X : Type 0} (f : X → Data) → ((x : X) → of_json (outline (f x)) ≡ Some (f x)) → (xs : List X) → of_items (items_outline (items_of (map f xs))) ≡ Some (items_of (map f xs))
items_read f each [] = refl
items_read f each (x ∷ xs) = rw (each x, items_read f each xs) refl

dep_read : (dep : List ℕ × List ℕ) → of_json (outline (dep_data dep)) ≡ Some (dep_data dep)
dep_read dep = refl

entry_read : (e : Entry) → of_json (outline (entry_data e)) ≡ Some (entry_data e)
entry_read e = rw (items_read dep_data dep_read e.deps) refl

record_read : (es : List Entry) → of_json (outline (record_data es)) ≡ Some (record_data es)
record_read es = rw (items_read entry_data entry_read es, number_of-decimal 1 (omega arith)) refl

-- ---- its numbers and its depth

items_numbers : {X : Type 0} (f : X → Data) → ((x : X) → HasNumbers (outline (f x))) → (xs : List X) → ItemsHaveNumbers (items_outline (items_of (map f xs)))
items_numbers f each [] = tt
items_numbers f each (x ∷ xs) = (each x, items_numbers f each xs)

dep_numbers : (dep : List ℕ × List ℕ) → HasNumbers (outline (dep_data dep))
dep_numbers dep = (tt, (tt, tt))

entry_numbers : (e : Entry) → HasNumbers (outline (entry_data e))
entry_numbers e = (tt, (items_numbers dep_data dep_numbers e.deps, (tt, (tt, tt))))

record_numbers : (es : List Entry) → HasNumbers (outline (record_data es))
record_numbers es = (items_numbers entry_data entry_numbers es, (IsNumber-decimal 1 (omega arith), tt))

items_shallow : {X : Type 0} (f : X → Data) (n : ℕ) → ((x : X) → depth (outline (f x)) ≤ n) → (xs : List X) → items_depth (items_outline (items_of (map f xs))) ≤ n
items_shallow f n each [] = omega arith
items_shallow f n each (x ∷ xs) = max-le (each x) (items_shallow f n each xs)

entry_shallow : (e : Entry) → depth (outline (entry_data e)) ≤ 3
entry_shallow e = let deps = items_shallow dep_data 1 (λ dep. omega arith) e.deps in omega (arith, deps)

record_shallow : (es : List Entry) → depth (outline (record_data es)) ≤ 127
record_shallow es = let entries = items_shallow entry_data 3 entry_shallow es in omega (arith, entries)

-- ---- it has no float

items_whole : {X : Type 0} (f : X → Data) → ((x : X) → has_float (f x) ≡ false) → (xs : List X) → items_have_float (items_of (map f xs)) ≡ false
items_whole f each [] = refl
items_whole f each (x ∷ xs) = rw (each x, items_whole f each xs) refl

entry_whole : (e : Entry) → has_float (entry_data e) ≡ false
entry_whole e = rw (items_whole dep_data (λ dep. refl) e.deps) refl

record_whole : (es : List Entry) → has_float (record_data es) ≡ false
record_whole es = rw (items_whole entry_data entry_whole es) refl

-- ---- read back

-- the values of the tokens of its text
tokens_back : (es : List Entry) → value max_depth (tokens (record_text es)) ≡ Some (outline (record_data es), [])
unfolding record_text
tokens_back es =
    let j = outline (record_data es) in
    let same : tokens (compact_text (record_data es)) ≡ json_tokens j = ap tokens (sym (print-outline (record_data es))) ∙ tokens-print (json_tokens j) (ArePrintable-json_tokens j (record_numbers es)) in
    ap (value max_depth) (same ∙ sym (append-nil (json_tokens j))) ∙ value-json_tokens j max_depth [] (record_shallow es)

data_back : (es : List Entry) → read (record_text es) ≡ Some (record_data es)
data_back es = ap (λ (o : Option (Json × List Token)). option_and_then of_json (option_and_then (λ p. if_last p.0 p.1) o)) (tokens_back es) ∙ record_read es

all_back : {X : Type 0} (f : X → Data) (g : Data → Option X) → ((x : X) → g (f x) ≡ Some x) → (xs : List X) → all_some (map g (values (items_of (map f xs)))) ≡ Some xs
all_back f g each [] = refl
all_back f g each (x ∷ xs) = rw (each x, all_back f g each xs) refl

dep_back : (dep : List ℕ × List ℕ) → dep_of (dep_data dep) ≡ Some dep
dep_back dep = refl

entry_back : (e : Entry) → entry_of (entry_data e) ≡ Some e
unfolding entry_of_members
entry_back e = rw (all_back dep_data dep_of dep_back e.deps) refl

record_back : (es : List Entry) → record_of (record_data es) ≡ Some es
record_back es = all_back entry_data entry_of entry_back es

-- ---- it is UTF-8

ascii_first : (c : ℕ) (text : List ℕ) → are_ascii (c ∷ []) ≡ true → IsUtf8 text → IsUtf8 (c ∷ text)
ascii_first c text ascii u = IsUtf8-append (c ∷ []) text (IsUtf8-are_ascii (c ∷ []) ascii) u

comma_utf8 : (later : Bool) → IsUtf8 (comma_if later)
comma_utf8 true = IsUtf8-are_ascii (44 ∷ []) refl
comma_utf8 false = IsUtf8-nil

item_utf8 : (later : Bool) (d : Data) (ds : Items) → IsUtf8 (compact_text d) → IsUtf8 (items_text true ds) → IsUtf8 (items_text later (item d ds))
item_utf8 later d ds u rest = IsUtf8-append (comma_if later) (compact_text d ++ items_text true ds) (comma_utf8 later) (IsUtf8-append (compact_text d) (items_text true ds) u rest)

no_item_utf8 : (later : Bool) → IsUtf8 (items_text later no_items)
no_item_utf8 later = IsUtf8-are_ascii (93 ∷ []) refl

array_utf8 : (ds : Items) → IsUtf8 (items_text false ds) → IsUtf8 (compact_text (array ds))
array_utf8 ds u = ascii_first 91 (items_text false ds) refl u

member_utf8 : (later : Bool) (key : List ℕ) (d : Data) (ms : Members) → are_ascii key ≡ true → IsUtf8 (compact_text d) → IsUtf8 (members_text true ms) → IsUtf8 (members_text later (member key d ms))
member_utf8 later key d ms ascii u rest =
    let value = ascii_first 58 (compact_text d ++ members_text true ms) refl (IsUtf8-append (compact_text d) (members_text true ms) u rest) in
    IsUtf8-append (comma_if later) (quoted key ++ 58 ∷ (compact_text d ++ members_text true ms)) (comma_utf8 later) (IsUtf8-append (quoted key) (58 ∷ (compact_text d ++ members_text true ms)) (IsUtf8-quoted key (IsUtf8-are_ascii key ascii)) value)

no_member_utf8 : IsUtf8 (members_text true no_members)
no_member_utf8 = IsUtf8-are_ascii (125 ∷ []) refl

object_utf8 : (ms : Members) → IsUtf8 (members_text false ms) → IsUtf8 (compact_text (object ms))
object_utf8 ms u = ascii_first 123 (members_text false ms) refl u

dep_utf8 : (dep : List ℕ × List ℕ) → IsUtf8 dep.0 × IsUtf8 dep.1 → IsUtf8 (compact_text (dep_data dep))
dep_utf8 dep t =
    array_utf8 (item (string dep.0) (item (string dep.1) no_items)) (item_utf8 false (string dep.0) (item (string dep.1) no_items) (IsUtf8-quoted dep.0 t.0)
    (item_utf8 true (string dep.1) no_items (IsUtf8-quoted dep.1 t.1) (no_item_utf8 true)))

deps_utf8 : (later : Bool) (deps : List (List ℕ × List ℕ)) → DepsAreTexts deps → IsUtf8 (items_text later (items_of (map dep_data deps)))
deps_utf8 later [] t = no_item_utf8 later
deps_utf8 later (dep ∷ deps) t = item_utf8 later (dep_data dep) (items_of (map dep_data deps)) (dep_utf8 dep t.0) (deps_utf8 true deps t.1)

entry_utf8 : (e : Entry) → IsText e → IsUtf8 (compact_text (entry_data e))
entry_utf8 e t =
    let sources = member (codes "source") (string e.source) no_members in
    let objects = member (codes "object") (string e.object) sources in
    let deps = member (codes "deps") (array (items_of (map dep_data e.deps))) objects in
    object_utf8 (member (codes "command") (string e.command) deps)
    (member_utf8 false (codes "command") (string e.command) deps refl (IsUtf8-quoted e.command t.command)
    (member_utf8 true (codes "deps") (array (items_of (map dep_data e.deps))) objects refl (array_utf8 (items_of (map dep_data e.deps)) (deps_utf8 false e.deps t.deps))
    (member_utf8 true (codes "object") (string e.object) sources refl (IsUtf8-quoted e.object t.object)
    (member_utf8 true (codes "source") (string e.source) no_members refl (IsUtf8-quoted e.source t.source)
    no_member_utf8))))

entries_utf8 : (later : Bool) (es : List Entry) → AreTexts es → IsUtf8 (items_text later (items_of (map entry_data es)))
entries_utf8 later [] t = no_item_utf8 later
entries_utf8 later (e ∷ es) t = item_utf8 later (entry_data e) (items_of (map entry_data es)) (entry_utf8 e t.0) (entries_utf8 true es t.1)

one_utf8 : IsUtf8 (decimal 1)
one_utf8 = rw (decimal_digit 1 (omega arith)) (IsUtf8-are_ascii (49 ∷ []) refl)

record_utf8 : (es : List Entry) → AreTexts es → IsUtf8 (record_text es)
unfolding record_text
record_utf8 es t =
    let version = member (codes "version") (number (unsigned 1)) no_members in
    object_utf8 (member (codes "objects") (array (items_of (map entry_data es))) version)
    (member_utf8 false (codes "objects") (array (items_of (map entry_data es))) version refl (array_utf8 (items_of (map entry_data es)) (entries_utf8 false es t))
    (member_utf8 true (codes "version") (number (unsigned 1)) no_members refl one_utf8
    no_member_utf8))

-- ---- the law

pub text_back : (es : List Entry) → IsUtf8 (record_text es) → read_record (record_text es) ≡ es
unfolding read_record
text_back es u =
    rw (is_utf8-from_IsUtf8 (record_text es) u)
    (ap (λ (o : Option Data). unwrap_or (option_and_then record_of o) []) (data_back es) ∙ ap (λ (o : Option (List Entry)). unwrap_or o []) (record_back es))

pub read_back : (es : List Entry) → AreTexts es → read_record (record_text es) ≡ es
read_back es t = text_back es (record_utf8 es t)

-- ---- what is written

pub written : (es : List Entry) (d : Data) (text : List ℕ) → d ≡ record_data es → (has_float d ≡ false → text ≡ compact_text d) → text ≡ record_text es
unfolding record_text
written es d text e h = h (ap has_float e ∙ record_whole es) ∙ ap compact_text e

pub written_back : (es : List Entry) (text : List ℕ) → text ≡ record_text es → IsUtf8 text → read_record text ≡ es
written_back es text e u = ap read_record e ∙ text_back es (subst IsUtf8 e u)
