-- The command that a question is asked by.
use Rattle.std.specs.Prelude.{ℕ, List, [], ◌∷◌, ◌++◌, Option, Some, None, codes, if◌then◌else◌}
use Rattle.cc_text.specs.Families.{is_visual_studio, is_clang_cl}
use Rattle.cc_text.specs.declared.family.ToolFamily.{ToolFamily}
use Rattle.cc_host.specs.Command.{CommandSeen}
use Rattle.cc_host.specs.declared.question.Ask.{Ask}
use Rattle.cc_host.specs.declared.question.Ask.TheVariants.{Preprocess, PreprocessDashes, HelpFlag, Version, Flag, Libcxx, SearchDirs, ToolVersion, Starts, Exists}
use Rattle.cc_host.specs.declared.question.Question.{Question}
use Rattle.cc_host.specs.declared.question.ProbeFiles.{ProbeFiles}

-- the words that name the object
abbrev pub object_words : ToolFamily → List ℕ → List (List ℕ)
object_words family object = if is_visual_studio family then (codes "-Fo" ++ object) ∷ [] else codes "-o" ∷ object ∷ []

-- the word after which no word is an option, where the family needs it
abbrev pub dashes : ToolFamily → List (List ℕ)
dashes family = if is_clang_cl family then codes "--" ∷ [] else []

-- the words that compile the source into the object
unfoldable pub flag_words : ToolFamily → ProbeFiles → List (List ℕ)
flag_words family files = object_words family files.object ++ codes "-c" ∷ [] ++ dashes family ++ files.source ∷ []

-- the words after those of the question
unfoldable pub ask_words : Ask → ProbeFiles → List (List ℕ)
ask_words Preprocess files = codes "-E" ∷ files.source ∷ []
ask_words PreprocessDashes files = codes "-E" ∷ codes "--" ∷ files.source ∷ []
ask_words HelpFlag files = codes "-?" ∷ []
ask_words Version files = codes "--version" ∷ []
ask_words (Flag cpp family) files = flag_words family files
ask_words Libcxx files = codes "-E" ∷ files.source ∷ []
ask_words SearchDirs files = codes "--print-search-dirs" ∷ []
ask_words ToolVersion files = codes "--version" ∷ []
ask_words Starts files = []
ask_words Exists files = []

-- a source is compiled in the folder of the files
unfoldable pub probe_dir : Ask → ProbeFiles → Option (List ℕ)
probe_dir (Flag cpp family) files = Some files.dir
probe_dir _ files = None

-- the program with the words of the question and those of what is asked, in the question's environment
abbrev pub probe_command_of : Question → ProbeFiles → CommandSeen
probe_command_of q files = record { program = q.program; args = q.words ++ ask_words q.ask files; env = q.vars; dir = probe_dir q.ask files }
