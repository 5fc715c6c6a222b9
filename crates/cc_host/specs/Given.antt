-- The outcomes that a host in memory was given for questions, and those that it has of itself.
use Rattle.std.specs.Prelude.{pos, Bool, true, false, ◌&&◌, List, [], reverse, find, codes, bytes_eq}
use Rattle.std.specs.Option.{option_map_or}
use Rattle.cc_text.specs.declared.family.ToolFamily.{ToolFamily}
use Rattle.cc_text.specs.declared.family.ToolFamily.TheVariants.{Gnu, Clang, Msvc}
use Rattle.cc_host.specs.declared.event.Status.TheVariants.{Code}
use Rattle.cc_host.specs.declared.question.Ask.{Ask}
use Rattle.cc_host.specs.declared.question.Ask.TheVariants.{Preprocess, PreprocessDashes, HelpFlag, Version, Flag, Libcxx, SearchDirs, ToolVersion, Starts, Exists as AsksExists}
use Rattle.cc_host.specs.declared.question.Question.{Question}
use Rattle.cc_host.specs.declared.question.Outcome.{Outcome}
use Rattle.cc_host.specs.declared.question.Outcome.TheVariants.{Unanswered, Missing, Exists, Done}
use Rattle.cc_host.specs.declared.given.Given.{Given}

abbrev pub same_bool : Bool → Bool → Bool
same_bool true b = b
same_bool false true = false
same_bool false false = true

abbrev pub same_family : ToolFamily → ToolFamily → Bool
same_family Gnu Gnu = true
same_family (Clang a) (Clang b) = same_bool a b
same_family (Msvc a) (Msvc b) = same_bool a b
same_family _ _ = false

abbrev pub same_ask : Ask → Ask → Bool
same_ask Preprocess Preprocess = true
same_ask PreprocessDashes PreprocessDashes = true
same_ask HelpFlag HelpFlag = true
same_ask Version Version = true
same_ask (Flag c f) (Flag d g) = same_bool c d && same_family f g
same_ask Libcxx Libcxx = true
same_ask SearchDirs SearchDirs = true
same_ask ToolVersion ToolVersion = true
same_ask Starts Starts = true
same_ask AsksExists AsksExists = true
same_ask _ _ = false

abbrev pub is_answered : Outcome → Bool
is_answered Unanswered = false
is_answered Missing = true
is_answered (Exists there) = true
is_answered (Done status out err) = true

-- an outcome is of each question that asks the same of the same program
abbrev pub fits_question : Question → Given → Bool
fits_question q given = same_ask given.ask q.ask && bytes_eq given.program q.program

-- what a question comes to where no outcome was given
abbrev pub default_outcome : Ask → Outcome
default_outcome Preprocess = Done (Code (pos 0)) (codes "\"gcc\"") []
default_outcome PreprocessDashes = Done (Code (pos 0)) (codes "\"gcc\"") []
default_outcome HelpFlag = Done (Code (pos 1)) [] []
default_outcome Version = Done (Code (pos 1)) [] []
default_outcome (Flag cpp family) = Done (Code (pos 0)) [] []
default_outcome Libcxx = Done (Code (pos 1)) [] []
default_outcome SearchDirs = Done (Code (pos 1)) [] []
default_outcome ToolVersion = Done (Code (pos 0)) [] []
default_outcome Starts = Done (Code (pos 0)) [] []
default_outcome AsksExists = Exists false

-- of the outcomes that fit, the one that was given last counts
abbrev pub outcome_of : List Given → Question → Outcome
outcome_of given q = option_map_or (λ g. g.outcome) (find (fits_question q) (reverse given)) (default_outcome q.ask)
