-- A tool: a compiler or archiver with its words and its environment.
use Rattle.std.specs.Prelude.{ℕ, length, drop, encode_utf8, Bool, false, not, ◌&&◌, ◌==◌, nat_eq, if◌then◌else◌, List, [], ◌∷◌, ◌++◌, Option, Some, None, codes}
use Rattle.std.specs.List.{filter, list_any, join_by, slice_get, starts_with}
use Rattle.std.specs.Str.{chars}
use Rattle.cc_text.specs.Families.{is_visual_studio}
use Rattle.cc_text.specs.Words.{is_among}
use Rattle.cc_text.specs.declared.family.ToolFamily.{ToolFamily}
use Rattle.cc_env.specs.Snapshot.{child_of}
use Rattle.cc_host.specs.Command.{CommandSeen}

-- what a tool is seen as
pub record ToolSeen : Type 0 where
  pub path : List ℕ
  pub family : ToolFamily
  pub inherited : List (List ℕ × List ℕ)
  pub wrapper : Option (List ℕ)
  pub wrapper_words : List (List ℕ)
  pub args : List (List ℕ)
  pub removed : List (List ℕ)
  pub entries : List (List ℕ × List ℕ)

-- a tool of a path, without words
abbrev pub new_tool : List ℕ → ToolFamily → List (List ℕ × List ℕ) → ToolSeen
new_tool path family inherited = record { path = path; family = family; inherited = inherited; wrapper = None; wrapper_words = []; args = []; removed = []; entries = [] }

-- the args that weren't removed
unfoldable pub kept_args : ToolSeen → List (List ℕ)
kept_args tool = filter (λ word. not (is_among tool.removed word)) tool.args

-- the program: the wrapper, where there is one
abbrev pub program_of : Option (List ℕ) → List ℕ → List ℕ
program_of (Some wrapper) path = wrapper
program_of None path = path

-- the path, behind a wrapper
abbrev pub path_words : Option (List ℕ) → List ℕ → List (List ℕ)
path_words (Some wrapper) path = path ∷ []
path_words None path = []

-- a tool with one more arg
abbrev pub with_arg : ToolSeen → List ℕ → ToolSeen
with_arg tool word = record tool { args = tool.args ++ word ∷ [] }

-- with one more variable
abbrev pub with_entry : ToolSeen → List ℕ → List ℕ → ToolSeen
with_entry tool name value = record tool { entries = tool.entries ++ (name, value) ∷ [] }

-- with one more word that is kept out of its command
abbrev pub with_removed : ToolSeen → List ℕ → ToolSeen
with_removed tool word = record tool { removed = tool.removed ++ word ∷ [] }

-- behind a wrapper
abbrev pub with_wrapper : ToolSeen → List ℕ → ToolSeen
with_wrapper tool wrapper = record tool { wrapper = Some wrapper }

-- with one more word before its args
abbrev pub with_wrapper_word : ToolSeen → List ℕ → ToolSeen
with_wrapper_word tool word = record tool { wrapper_words = tool.wrapper_words ++ word ∷ [] }

-- the program of a tool, with the path behind a wrapper
abbrev pub bare_command : ToolSeen → CommandSeen
bare_command tool = record { program = program_of tool.wrapper tool.path; args = path_words tool.wrapper tool.path; env = []; dir = None }

-- the command of a tool, with these words for its args
abbrev pub command_with : ToolSeen → List (List ℕ) → CommandSeen
command_with tool args = record {
  program = program_of tool.wrapper tool.path;
  args = path_words tool.wrapper tool.path ++ (tool.wrapper_words ++ args);
  env = child_of tool.inherited tool.entries;
  dir = None;
}

-- the command of a tool
unfoldable pub tool_command : ToolSeen → CommandSeen
tool_command tool = command_with tool (kept_args tool)

-- the words with a space between two of them
abbrev pub spaced : List (List ℕ) → List ℕ
spaced words = join_by (λ word. word) (codes " ") words

-- the wrapper, the path and the words before the args; nothing without a wrapper
abbrev pub wrapped_text : Option (List ℕ) → List ℕ → List (List ℕ) → List ℕ
wrapped_text (Some wrapper) path words = spaced (wrapper ∷ path ∷ words)
wrapped_text None path words = []

abbrev pub is_letter_o : Option ℕ → Bool
is_letter_o (Some c) = c == 79
is_letter_o None = false

-- the character behind the first
abbrev pub behind : List ℕ → Option ℕ → Option ℕ
behind arg (Some c) = slice_get (chars (drop (length (encode_utf8 c)) arg)) 0
behind arg None = None

-- the second character is an `O`
unfoldable pub is_level : List ℕ → Bool
is_level arg = is_letter_o (behind arg (slice_get (chars arg) 0))

-- what a flag of a level begins with
abbrev pub level_mark : ToolFamily → List ℕ
level_mark family = if is_visual_studio family then codes "/O" else codes "-O"

-- a flag that sets the level, where an arg does already
unfoldable pub is_duplicate_level : ToolSeen → List ℕ → Bool
is_duplicate_level tool flag = starts_with nat_eq flag (level_mark tool.family) && list_any is_level tool.args
