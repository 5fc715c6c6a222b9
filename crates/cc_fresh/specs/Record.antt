-- The text of a record of objects, and the record that a text is.
use Rattle.std.specs.Prelude.{ℕ, ◌==◌, List, [], ◌∷◌, Bool, false, ◌&&◌, map, codes, Option, Some, None, option_map, option_and_then, unwrap_or, if◌then◌else◌, IsUtf8, ⊤}
use Rattle.std.specs.Str.{is_utf8}
use Rattle.serde_json.specs.Data.{Data, unsigned, number, string, array, object, Items, no_items, item, no_members, member}
use Rattle.serde_json.specs.View.{items_of}
use Rattle.serde_json.specs.Events.{members_len}
use Rattle.serde_json.specs.Find.{get, as_str, as_array, as_object, as_number, as_u64}
use Rattle.serde_json.specs.Read.{read}
use Rattle.serde_json.specs.Written.{compact_text}
use Rattle.cc_fresh.specs.declared.record.Entry.{Entry}

-- ---- the text of a record

-- a file and its digest
abbrev pub dep_data : List ℕ × List ℕ → Data
dep_data dep = array (item (string dep.0) (item (string dep.1) no_items))

abbrev pub entry_data : Entry → Data
entry_data e =
    object
    (member (codes "command") (string e.command)
    (member (codes "deps") (array (items_of (map dep_data e.deps)))
    (member (codes "object") (string e.object)
    (member (codes "source") (string e.source)
    no_members))))

abbrev pub record_data : List Entry → Data
record_data entries =
    object
    (member (codes "objects") (array (items_of (map entry_data entries)))
    (member (codes "version") (number (unsigned 1))
    no_members))

unfoldable pub record_text : List Entry → List ℕ
record_text entries = compact_text (record_data entries)

-- ---- the record of a text

-- the values of an array
abbrev pub values : Items → List Data
values no_items = []
values (item d ds) = d ∷ values ds

-- the values, where each is there
abbrev pub all_some : {X : Type 0} → List (Option X) → Option (List X)
all_some [] = Some []
all_some (Some x ∷ os) = option_map (λ xs. x ∷ xs) (all_some os)
all_some (None ∷ os) = None

-- an object with so many members
abbrev pub has_members : ℕ → Data → Bool
has_members count d = unwrap_or (option_map (λ ms. members_len ms == count) (as_object d)) false

-- the text under a key
abbrev pub text_at : List ℕ → Data → Option (List ℕ)
text_at key d = option_and_then as_str (get key d)

-- the values of an array under a key
abbrev pub values_at : List ℕ → Data → Option (List Data)
values_at key d = option_map values (option_and_then as_array (get key d))

-- two texts
abbrev pub pair_by : Option (List ℕ) → Option (List ℕ) → Option (List ℕ × List ℕ)
pair_by path digest = option_and_then (λ p. option_map (λ d. (p, d)) digest) path

abbrev pub pair_of : Items → Option (List ℕ × List ℕ)
pair_of no_items = None
pair_of (item p no_items) = None
pair_of (item p (item d no_items)) = pair_by (as_str p) (as_str d)
pair_of (item p (item d (item e ds))) = None

abbrev pub dep_of : Data → Option (List ℕ × List ℕ)
dep_of d = option_and_then pair_of (as_array d)

abbrev pub deps_of : Data → Option (List (List ℕ × List ℕ))
deps_of d = option_and_then (λ ds. all_some (map dep_of ds)) (values_at (codes "deps") d)

-- an entry, where each of the four is there
abbrev pub entry_by :
    Option (List ℕ) → Option (List (List ℕ × List ℕ)) → Option (List ℕ) → Option (List ℕ) → Option Entry
entry_by command deps path source =
    option_and_then (λ c. option_and_then (λ ds. option_and_then (λ o. option_map (λ s.
    record { object = o; command = c; source = s; deps = ds }) source) path) deps) command

-- an entry of the four members, where each is there
unfoldable pub entry_of_members : Data → Option Entry
entry_of_members d =
    entry_by (text_at (codes "command") d) (deps_of d) (text_at (codes "object") d) (text_at (codes "source") d)

-- an entry: those members and no other
abbrev pub entry_of : Data → Option Entry
entry_of d = if has_members 4 d then entry_of_members d else None

abbrev pub version_of : Data → Option ℕ
version_of d = option_and_then as_u64 (option_and_then as_number (get (codes "version") d))

abbrev pub is_first : Option ℕ → Bool
is_first version = unwrap_or (option_map (λ n. n == 1) version) false

-- the entries of a value: of two members, one the version, which is 1
abbrev pub record_of : Data → Option (List Entry)
record_of d =
    if has_members 2 d && is_first (version_of d)
    then option_and_then (λ ds. all_some (map entry_of ds)) (values_at (codes "objects") d)
    else None

-- the entries of a text that is UTF-8, where it is JSON
abbrev pub record_in_text : List ℕ → Option (List Entry)
record_in_text text = if is_utf8 text then option_and_then record_of (read text) else None

-- the entries of a text; of one of another shape or version none
unfoldable pub read_record : List ℕ → List Entry
read_record text = unwrap_or (record_in_text text) []

-- ---- texts

-- paths and digests, each of which is UTF-8
abbrev pub DepsAreTexts : List (List ℕ × List ℕ) → Type 0
DepsAreTexts [] = ⊤
DepsAreTexts (dep ∷ deps) = (IsUtf8 dep.0 × IsUtf8 dep.1) × DepsAreTexts deps

-- an entry, each text of which is UTF-8
pub record IsText (e : Entry) : Type 0 where
  pub command : IsUtf8 e.command
  pub deps : DepsAreTexts e.deps
  pub object : IsUtf8 e.object
  pub source : IsUtf8 e.source

-- entries, each text of which is UTF-8, as a `Text` is
abbrev pub AreTexts : List Entry → Type 0
AreTexts [] = ⊤
AreTexts (e ∷ es) = IsText e × AreTexts es
