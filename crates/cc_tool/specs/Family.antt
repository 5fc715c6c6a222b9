-- The family of a compiler: what its preprocessor shows, else what its file's name says.
use Rattle.std.specs.Prelude.{ℕ, Bool, true, false, not, ◌&&◌, ◌||◌, List, [], ◌∷◌, ◌++◌, Option, Some, None, unwrap_or, codes, bytes_eq, if◌then◌else◌}
use Rattle.std.specs.List.{list_any}
use Rattle.std.specs.Path.{path_file_name}
use Rattle.cc_text.specs.Case.{lowered, ends_ignoring_case}
use Rattle.cc_text.specs.Families.{is_plain_clang}
use Rattle.cc_text.specs.Within.{is_within}
use Rattle.cc_text.specs.declared.family.ToolFamily.{ToolFamily}
use Rattle.cc_text.specs.declared.family.ToolFamily.TheVariants.{Gnu, Clang, Msvc}
use Rattle.cc_host.specs.declared.question.Ask.{Ask}
use Rattle.cc_host.specs.declared.question.Ask.TheVariants.{Preprocess, PreprocessDashes, HelpFlag, Version}
use Rattle.cc_host.specs.declared.question.Marks.{Marks}
use Rattle.cc_host.specs.declared.question.Question.{Question}
use Rattle.cc_host.specs.declared.question.Verdict.{Verdict}
use Rattle.cc_host.specs.declared.question.Verdict.TheVariants.{Marks as Shows}
use Rattle.cc_host.specs.Question.{is_yes}
use Rattle.cc_env.specs.Snapshot.{child_of}
use Rattle.cc_env.specs.Env.{EnvSeen}
use Rattle.cc_text.specs.declared.family.Detected.{Detected}
use Rattle.cc_text.specs.declared.family.Detected.TheVariants.{Marks as ByMarks, NoMarks, Failed}
use Rattle.cc_tool.specs.Plans.{Plan, ask, bind, done}
use Prim.Native.String.{String}

abbrev pub Vars : Type 0
Vars = List (List ℕ × List ℕ)

-- a question to the compiler at a path
abbrev pub question : Ask → List ℕ → List (List ℕ) → Vars → Question
question ask path words vars = record { ask = ask; program = path; words = words; vars = vars }

-- ---- by the name of its file

-- the file name of a path, or the empty name
unfoldable pub name_of : List ℕ → List ℕ
name_of path = unwrap_or (path_file_name path) []

-- the literal, of small letters, stands in the name, in either case of ASCII letters
abbrev pub has_either : List ℕ → String → Bool
has_either name literal = is_within (codes literal) (lowered name)

-- the name is that of the Visual Studio compiler
unfoldable pub is_cl_name : List ℕ → Bool
is_cl_name name = ends_ignoring_case name (codes "cl") || bytes_eq (lowered name) (codes "cl.exe")

-- Clang is asked to take the words of the Visual Studio compiler
unfoldable pub drives_cl : List (List ℕ) → Bool
drives_cl args = list_any (bytes_eq (codes "--driver-mode=cl")) args

-- the family by the name: the first that applies
unfoldable pub family_of_file : List ℕ → List (List ℕ) → ToolFamily
family_of_file name args =
    if has_either name "clang-cl" then Msvc true
    else (if is_cl_name name then Msvc false
    else (if has_either name "clang" then (if drives_cl args then Msvc true else Clang false)
    else (if has_either name "zig" then Clang true
    else Gnu)))

-- ---- by what its preprocessor shows

-- it read a path as an option
abbrev pub reads_option : Verdict → Bool
reads_option (Shows marks) = marks.slash_u
reads_option _ = false

-- what the preprocessor shows; it is asked anew where it read a path as an option
unfoldable pub shown_again : List ℕ → Vars → Verdict → Plan Verdict
shown_again path vars first = if reads_option first then ask (question PreprocessDashes path [] vars) else done first

unfoldable pub shown : List ℕ → Vars → Plan Verdict
shown path vars = bind (ask (question Preprocess path [] vars)) (shown_again path vars)

-- the family by the marks, of a compiler that takes `-?` or not
unfoldable pub family_of_marks : Bool → Marks → Option ToolFamily
family_of_marks helps marks =
    if helps && not marks.emscripten && not marks.vxworks then Some (Msvc marks.clang)
    else (if (marks.clang || marks.emscripten) && not marks.vxworks then Some (Clang false)
    else (if marks.gcc || marks.vxworks then Some Gnu
    else None))

abbrev pub found : Option ToolFamily → Option ToolFamily × Detected
found (Some family) = (Some family, ByMarks)
found None = (None, Failed)

abbrev pub marks_in : Verdict → Option Marks
marks_in (Shows marks) = Some marks
marks_in _ = None

-- the family by the marks that the preprocessor shows, and how it was detected; one that shows marks is asked for `-?`
unfoldable pub detected_by : List ℕ → List (List ℕ) → Vars → Option Marks → Plan (Option ToolFamily × Detected)
detected_by path args vars None = done (None, NoMarks)
detected_by path args vars (Some marks) = bind (ask (question HelpFlag path args vars)) (λ help. done (found (family_of_marks (is_yes help) marks)))

unfoldable pub detection : List ℕ → List (List ℕ) → Vars → Plan (Option ToolFamily × Detected)
detection path args vars = bind (shown path vars) (λ first. detected_by path args vars (marks_in first))

-- ---- the family

abbrev pub family_or : Option ToolFamily → ToolFamily → ToolFamily
family_or (Some family) named = family
family_or None named = named

-- a Clang, and whether it is that of Zig, by its version and by its path
abbrev pub clang_by : Bool → List ℕ → ToolFamily
clang_by version path = Clang (version || has_either (name_of path) "zig")

-- a family, as that of Zig where that is what the compiler is
unfoldable pub zig_family : List ℕ → Vars → ToolFamily → Plan ToolFamily
zig_family path vars family =
    if is_plain_clang family then bind (ask (question Version path [] vars)) (λ version. done (clang_by (is_yes version) path)) else done family

-- a family that was detected, else the one that the name tells
unfoldable pub settled_family : List ℕ → List (List ℕ) → Vars → Option ToolFamily × Detected → Plan (ToolFamily × Detected)
settled_family path args vars seen = bind (zig_family path vars (family_or seen.0 (family_of_file (name_of path) args))) (λ family. done (family, seen.1))

-- the family of the compiler at a path, given arguments, in an environment; and how it was detected
unfoldable pub family : List ℕ → List (List ℕ) → Vars → Plan (ToolFamily × Detected)
family path args vars = bind (detection path args vars) (settled_family path args vars)

abbrev pub child_vars : EnvSeen → Vars
child_vars env = child_of env.inherited env.explicit

-- the family in an environment
abbrev pub family_in : List ℕ → List (List ℕ) → EnvSeen → Plan (ToolFamily × Detected)
family_in path args env = family path args (child_vars env)

-- the warnings of a detection, for the quoted path
abbrev pub detection_warnings : Detected → List ℕ → List (List ℕ)
detection_warnings ByMarks path = []
detection_warnings NoMarks path = (codes "Compiler family detection failed for " ++ path) ∷ []
detection_warnings Failed path = codes "Compiler family detection failed, no known macro is defined" ∷ (codes "Compiler family detection failed for " ++ path) ∷ []
