-- What an outcome means for its question.
use Rattle.std.specs.Prelude.{ℕ, Bool, true, false, ◌&&◌, ◌||◌, ◌==◌, nat_eq, List, [], Option, Some, None, option_map, codes, length, drop, find, bytes_eq, if◌then◌else◌}
use Rattle.std.specs.List.{starts_with, slice_split}
use Rattle.std.specs.Str.{is_utf8}
use Rattle.cc_text.specs.Within.{is_within}
use Rattle.cc_host.specs.Status.{is_success}
use Rattle.cc_host.specs.declared.event.Status.{Status}
use Rattle.cc_host.specs.declared.question.Ask.{Ask}
use Rattle.cc_host.specs.declared.question.Ask.TheVariants.{Preprocess, PreprocessDashes, HelpFlag, Version, Flag, Libcxx, SearchDirs, ToolVersion, Starts, Exists as AsksExists}
use Rattle.cc_host.specs.declared.question.Question.{Question}
use Rattle.cc_host.specs.declared.question.Marks.{Marks}
use Rattle.cc_host.specs.declared.question.Outcome.{Outcome}
use Rattle.cc_host.specs.declared.question.Outcome.TheVariants.{Unanswered as NoAnswer, Missing as Absent, Exists, Done}
use Rattle.cc_host.specs.declared.question.Verdict.{Verdict}
use Rattle.cc_host.specs.declared.question.Verdict.TheVariants.{Unanswered, Missing, No, Yes, Marks as Shows, Dirs}

-- yes where it holds
abbrev pub yes_if : Bool → Verdict
yes_if holds = if holds then Yes else No

-- the marks of a preprocessor's output, each of them in quotes there
unfoldable pub marks_of : Bool → List ℕ → Marks
marks_of slash_u out = record {
  slash_u = slash_u;
  clang = is_within (codes "\"clang\"") out;
  gcc = is_within (codes "\"gcc\"") out;
  emscripten = is_within (codes "\"emscripten\"") out;
  vxworks = is_within (codes "\"VxWorks\"") out;
}

-- the compiler warned that it read a path as its option `/U`
abbrev pub read_as_option : List ℕ → List ℕ → Bool
read_as_option out err = is_within (codes "-Wslash-u-filename") out || is_within (codes "-Wslash-u-filename") err

-- the marks, where a preprocessor succeeded or warned that it read a path as an option
unfoldable pub preprocessed : Status → List ℕ → List ℕ → Verdict
preprocessed status out err =
    if read_as_option out err then Shows (marks_of true out) else (if is_success status then Shows (marks_of false out) else No)

-- the lines of a text, parted at carriage returns and line feeds
abbrev pub parted : List ℕ → List (List ℕ)
parted = slice_split (λ b. b == 10 || b == 13)

abbrev pub begins_with_programs : List ℕ → Bool
begins_with_programs line = starts_with nat_eq line (codes "programs: =")

-- what follows `programs: =` on the first line that begins so
abbrev pub programs_of : List ℕ → Option (List ℕ)
programs_of out = option_map (drop (length (codes "programs: ="))) (find begins_with_programs (parted out))

abbrev pub dirs_in : Option (List ℕ) → Verdict
dirs_in (Some line) = Dirs (drop (length (codes "programs: =")) line)
dirs_in None = No

-- what follows `programs: =` on the first line that begins so, where the output is text
unfoldable pub search_dirs : Status → List ℕ → Verdict
search_dirs status out = if is_success status && is_utf8 out then dirs_in (find begins_with_programs (parted out)) else No

-- what a command's end means for what was asked
unfoldable pub ended_verdict : Ask → Status → List ℕ → List ℕ → Verdict
ended_verdict Preprocess status out err = preprocessed status out err
ended_verdict PreprocessDashes status out err = if is_success status then Shows (marks_of false out) else No
ended_verdict HelpFlag status out err = yes_if (is_success status)
ended_verdict Version status out err = yes_if (is_success status && is_within (codes "ziglang") out)
ended_verdict (Flag cpp family) status out err = yes_if (is_success status && bytes_eq err [])
ended_verdict Libcxx status out err = yes_if (is_success status && is_within (codes "\"libcxx\"") out)
ended_verdict SearchDirs status out err = search_dirs status out
ended_verdict ToolVersion status out err = yes_if (is_success status)
ended_verdict Starts status out err = Yes
ended_verdict AsksExists status out err = No

abbrev pub existence : Ask → Bool → Verdict
existence AsksExists there = yes_if there
existence _ there = No

-- the verdict of a question's outcome
unfoldable pub verdict_of : Question → Outcome → Verdict
verdict_of q NoAnswer = Unanswered
verdict_of q Absent = Missing
verdict_of q (Exists there) = existence q.ask there
verdict_of q (Done status out err) = ended_verdict q.ask status out err
