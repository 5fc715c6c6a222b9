-- Words that a compiler is given only where it takes them.
use Rattle.std.specs.Prelude.{ℕ, Bool, false, not, ◌&&◌, List, [], ◌∷◌, ◌++◌, Option, Some, None, is_none, bytes_eq, codes, filter, map, if◌then◌else◌}
use Rattle.cc_env.specs.Env.{EnvSeen}
use Rattle.cc_env.specs.Snapshot.{child_of}
use Rattle.cc_host.specs.Question.{Look, is_yes}
use Rattle.cc_host.specs.declared.question.Ask.TheVariants.{Flag}
use Rattle.cc_host.specs.declared.question.Question.{Question}
use Rattle.cc_text.specs.declared.family.ToolFamily.{ToolFamily}
use Rattle.cc_host.specs.declared.question.Verdict.{Verdict}
use Rattle.cc_tool.specs.Family.{child_vars, family}
use Rattle.cc_tool.specs.Plans.{Plan, ask_all, bind, done}
use Rattle.cc_text.specs.Words.{when}
use Rattle.cc_text.specs.declared.family.Detected.TheVariants.{Marks as ByMarks}
use Rattle.cc_flags.specs.Compilers.{bare}
use Rattle.cc_text.specs.Families.{is_clang, is_visual_studio}
use Rattle.cc_flags.specs.Compilation.{CompilationSeen}
use Rattle.cc_plan.specs.Refusal.{refusal_by}
use Rattle.cc_flags.specs.SettingWords.{is_link}
use Rattle.cc_flags.specs.Settings.{unset_settings}
use Rattle.cc_flags.specs.Texts.{word}
use Rattle.cc_flags.specs.Warnings.{language_variable}
use Rattle.cc_flags.specs.ToolWords.{asked_words, tool_words}
use Rattle.cc_flags.specs.declared.compiler.Compiler.{Compiler}
use Rattle.cc_plan.specs.declared.error.PlanError.{PlanError}
use Rattle.cc_flags.specs.declared.build_flags.BuildFlag.TheVariants.{Always}
use Rattle.cc_flags.specs.declared.settings.BuildConfig.{BuildConfig}

-- the settings of a question on a flag: the compiler and the flag, level 0, no debug information, and nothing that
-- Cargo hands down
abbrev pub flag_settings : BuildConfig → List ℕ → List ℕ → BuildConfig
flag_settings set path flag = record unset_settings {
  flags = Always flag ∷ [];
  target = set.target;
  host = set.host;
  opt_level = Some (codes "0");
  debug = Some (codes "false");
  compiler = Some path;
  cpp = set.cpp;
  inherit_rustflags = false;
  inherit_trim_paths = false;
}

-- the compiler of a question on a flag
abbrev pub flag_compiler : List ℕ → ToolFamily → Compiler
flag_compiler path family = record { choice = bare path; family = family; detected = ByMarks }

-- the words, less `-v`
unfoldable pub quiet_words : List (List ℕ) → List (List ℕ)
quiet_words words = filter (λ w. not (bytes_eq w (codes "-v"))) words

-- The words that a compiler is asked with. Clang is asked without `-v`, at which it would write on standard error, and
-- doesn't complain of a word that it has no use for.
abbrev pub asking_words : ToolFamily → List (List ℕ) → List (List ℕ)
asking_words family words =
    if is_clang family then quiet_words words ++ word "-Wno-unused-command-line-argument" else words

-- the words of a question on a flag, by its settings
unfoldable pub question_words : CompilationSeen → List (List ℕ)
question_words plain = asking_words plain.compiler.family (tool_words plain [])

-- the variables of a question on a flag: those of the tool
abbrev pub flag_vars : EnvSeen → ToolFamily → List (List ℕ × List ℕ)
flag_vars env family = child_of env.inherited (language_variable family ∷ env.explicit)

-- the question by its settings
abbrev pub plain_question : CompilationSeen → Question
plain_question plain = record {
  ask = Flag plain.set.cpp plain.compiler.family;
  program = plain.compiler.choice.path;
  words = question_words plain;
  vars = flag_vars plain.env plain.compiler.family;
}

-- a compilation with the settings of a question on a flag
abbrev pub plain_of : CompilationSeen → List ℕ → CompilationSeen
plain_of c flag = record c { set = flag_settings c.set c.compiler.choice.path flag }

-- whether the compiler takes a flag
abbrev pub flag_question : CompilationSeen → List ℕ → Question
flag_question c flag = plain_question (plain_of c flag)

-- why a compiler has no words
abbrev pub compiler_refusal : CompilationSeen → Option PlanError
compiler_refusal c = refusal_by c.set c.env c.compiler

-- the flag is for the linker of Visual Studio
abbrev pub is_for_linker : ToolFamily → List ℕ → Bool
is_for_linker family flag = is_visual_studio family && is_link flag

-- what the linker is told isn't asked about, and neither is a flag for which there is no command
unfoldable pub is_asked_of : CompilationSeen → List ℕ → Bool
is_asked_of c flag = not (is_for_linker c.compiler.family flag) && is_none (compiler_refusal (plain_of c flag))

-- the question on a flag, where it is asked about
abbrev pub asked_question : CompilationSeen → List ℕ → Option Question
asked_question c flag = if is_asked_of c flag then Some (flag_question c flag) else None

-- the words that the compiler is asked about
unfoldable pub askable : CompilationSeen → List (List ℕ) → List (List ℕ)
askable c words = filter (is_asked_of c) words

-- the questions on them
abbrev pub flag_questions : CompilationSeen → List (List ℕ) → List Question
flag_questions c words = map (flag_question c) (askable c words)

-- those of some words whose verdicts say yes
abbrev pub taken : List (List ℕ) → List Verdict → List (List ℕ)
taken [] verdicts = []
taken (word ∷ words) [] = []
taken (word ∷ words) (verdict ∷ verdicts) = when (is_yes verdict) (word ∷ []) ++ taken words verdicts

-- those of some words that the compiler takes, which is asked about all of them at once
unfoldable pub taken_among : CompilationSeen → List (List ℕ) → Plan (List (List ℕ))
taken_among c words = bind (ask_all (flag_questions c words)) (λ verdicts. done (taken (askable c words) verdicts))

-- the compiler that a question on a flag is asked of, with the family of the path alone
unfoldable pub bare_compiler : EnvSeen → List ℕ → Plan Compiler
bare_compiler env path = bind (family path [] (child_vars env)) (λ found. done (flag_compiler path found.0))

-- a compilation with that compiler
abbrev pub with_bare : CompilationSeen → Compiler → CompilationSeen
with_bare c bare = record c { compiler = bare }

abbrev pub bare_of : CompilationSeen → Look → CompilationSeen
bare_of c look = with_bare c ((bare_compiler c.env c.compiler.choice.path).value look)

-- those of some words that the compiler at the path of this one takes
unfoldable pub supported_among : CompilationSeen → List (List ℕ) → Plan (List (List ℕ))
supported_among c words =
    bind (bare_compiler c.env c.compiler.choice.path) (λ bare. taken_among (with_bare c bare) words)

-- no compiler is asked about no word
unfoldable pub supported_if : CompilationSeen → List (List ℕ) → Plan (List (List ℕ))
supported_if c [] = done []
supported_if c (word ∷ words) = supported_among c (word ∷ words)

-- those that it takes of the words it is asked about
unfoldable pub supported_words : CompilationSeen → Plan (List (List ℕ))
supported_words c = supported_if c (asked_words c)

abbrev pub supported : CompilationSeen → Look → List (List ℕ)
supported c look = (supported_words c).value look
