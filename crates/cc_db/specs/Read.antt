-- What a JSON text says as a compilation database: its compile commands, or why it has none.
use Rattle.std.specs.Prelude.{ℕ, suc, List, [], ◌∷◌, map, codes, Option, Some, None, option_map, option_and_then, Result, Ok, Err}
use Rattle.serde_json.specs.Data.{Data, Items, no_items, item}
use Rattle.serde_json.specs.Find.{get, as_str, as_array}
use Rattle.serde_json.specs.Read.{read}
use Rattle.cc_text.specs.Shell.{shell_words}
use Rattle.cc_host.specs.CompileCommand.{CompileCommandSeen}
use Rattle.cc_db.specs.declared.read.DatabaseError.{DatabaseError}
use Rattle.cc_db.specs.declared.read.DatabaseError.TheVariants.{NotJson, NotArray, Entry}

-- the values of an array
abbrev pub values : Items → List Data
values no_items = []
values (item d ds) = d ∷ values ds

-- the values, where each is there
abbrev pub all_some : {X : Type 0} → List (Option X) → Option (List X)
all_some [] = Some []
all_some (Some x ∷ os) = option_map (λ xs. x ∷ xs) (all_some os)
all_some (None ∷ os) = None

-- the place of the first that isn't there
abbrev pub first_none : {X : Type 0} → List (Option X) → ℕ
first_none [] = 0
first_none (Some x ∷ os) = suc (first_none os)
first_none (None ∷ os) = 0

-- the text under a key
abbrev pub text_at : List ℕ → Data → Option (List ℕ)
text_at key d = option_and_then as_str (get key d)

-- an array of texts
abbrev pub texts_of : Data → Option (List (List ℕ))
texts_of d = option_and_then (λ ds. all_some (map as_str (values ds))) (as_array d)

-- the words of an entry with this under `arguments`: those texts, else the shell words of `command`
abbrev pub words_by : Option Data → Data → Option (List (List ℕ))
words_by (Some arguments) entry = texts_of arguments
words_by None entry = option_map shell_words (text_at (codes "command") entry)

-- the words of an entry
abbrev pub words_at : Data → Option (List (List ℕ))
words_at entry = words_by (get (codes "arguments") entry) entry

-- the object of an entry with this under `output`: that text, else the empty text
abbrev pub output_by : Option Data → Option (List ℕ)
output_by (Some output) = as_str output
output_by None = Some []

-- the object of an entry
abbrev pub output_at : Data → Option (List ℕ)
output_at entry = output_by (get (codes "output") entry)

-- a compile command, where each part is there
abbrev pub command_by : Option (List ℕ) → Option (List ℕ) → Option (List (List ℕ)) → Option (List ℕ)
    → Option CompileCommandSeen
command_by directory file words output =
    option_and_then (λ d. option_and_then (λ f. option_and_then (λ w. option_map (λ o.
    record { directory = d; file = f; arguments = w; output = o }) output) words) file) directory

-- the compile command of an entry, if it has the shape
unfoldable pub command_of : Data → Option CompileCommandSeen
command_of entry =
    command_by (text_at (codes "directory") entry) (text_at (codes "file") entry) (words_at entry) (output_at entry)

-- some commands, or the place of the first entry that is none
abbrev pub entries_by : Option (List CompileCommandSeen) → ℕ → Result (List CompileCommandSeen) DatabaseError
entries_by (Some commands) place = Ok commands
entries_by None place = Err (Entry place)

-- the commands of entries
unfoldable pub entries : List Data → Result (List CompileCommandSeen) DatabaseError
entries ds = entries_by (all_some (map command_of ds)) (first_none (map command_of ds))

-- the commands of a value
abbrev pub array_commands : Option Items → Result (List CompileCommandSeen) DatabaseError
array_commands (Some ds) = entries (values ds)
array_commands None = Err NotArray

-- the commands of a text that is a value, or none
abbrev pub value_commands : Option Data → Result (List CompileCommandSeen) DatabaseError
value_commands (Some d) = array_commands (as_array d)
value_commands None = Err NotJson

-- the commands of a text
unfoldable pub read_database : List ℕ → Result (List CompileCommandSeen) DatabaseError
read_database text = value_commands (read text)
