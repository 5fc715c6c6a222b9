-- Whether the C++ library of a compiler is libc++: the question, which leaves out the args by which a file of dependencies would be written.
use Rattle.std.specs.Prelude.{ℕ, nat_eq, Bool, true, false, not, ◌||◌, List, [], ◌∷◌, ◌++◌, map, codes}
use Rattle.std.specs.List.{starts_with}
use Rattle.cc_text.specs.Words.{when, is_one_of}
use Rattle.cc_host.specs.Command.{CommandSeen}
use Rattle.cc_host.specs.declared.question.Ask.TheVariants.{Libcxx}
use Rattle.cc_host.specs.declared.question.Question.{Question}
use Rattle.cc_host.specs.Question.{is_yes}
use Rattle.cc_tool.specs.Family.{question}
use Rattle.cc_tool.specs.Plans.{Plan, ask, bind, done}
use Rattle.cc_tool.specs.Tool.{ToolSeen, kept_args, command_with}

-- an arg that has dependencies written, by the compiler or its preprocessor
unfoldable pub is_for_dependencies : List ℕ → Bool
is_for_dependencies arg = starts_with nat_eq arg (codes "-M") || starts_with nat_eq arg (codes "-Wp,-M")

-- an arg that is followed by a file or a target
unfoldable pub is_followed : List ℕ → Bool
is_followed arg = is_one_of (map codes ("-MF" ∷ "-MT" ∷ "-MQ" ∷ "-MJ" ∷ [])) arg

-- the args without those of dependencies, from the left, where the first of them follows another or doesn't
abbrev pub kept_behind : Bool → List (List ℕ) → List (List ℕ)
kept_behind follows [] = []
kept_behind true (arg ∷ args) = kept_behind false args
kept_behind false (arg ∷ args) = when (not (is_for_dependencies arg)) (arg ∷ []) ++ kept_behind (is_followed arg) args

unfoldable pub without_dependencies : List (List ℕ) → List (List ℕ)
without_dependencies args = kept_behind false args

abbrev pub question_by : CommandSeen → Question
question_by command = question Libcxx command.program command.args command.env

-- the question of a tool: its command without those args
unfoldable pub libcxx_question : ToolSeen → Question
libcxx_question tool = question_by (command_with tool (without_dependencies (kept_args tool)))

-- it is libc++, where the question says yes
unfoldable pub uses_libcxx : ToolSeen → Plan Bool
uses_libcxx tool = bind (ask (libcxx_question tool)) (λ verdict. done (is_yes verdict))
