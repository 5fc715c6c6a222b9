-- The names of the files that an object was made of, as a compiler writes them in a rule for `make`: first what each
-- character of the rule does, and then the names.
use Rattle.std.specs.Prelude.{ℕ, ◌+◌, ◌-◌, ◌/◌, ◌%◌, ◌==◌, ◌||◌, ◌&&◌, zero, suc, Bool, true, false, List, [], ◌∷◌, ◌++◌, Option, Some, None, option_map, Result, Ok, Err, if◌then◌else◌, encode_utf8, replicate}
use Rattle.std.specs.Str.{chars, is_utf8}
use Rattle.cc_fresh.specs.declared.deps.DepsError.{DepsError}
use Rattle.cc_fresh.specs.declared.deps.DepsError.TheVariants.{NoColon, NotText}
use Rattle.cc_fresh.specs.declared.step.Mark.{Mark}
use Rattle.cc_fresh.specs.declared.step.Mark.TheVariants.{Nothing, Adds, Ends}
use Rattle.cc_fresh.specs.declared.step.Mode.{Mode}
use Rattle.cc_fresh.specs.declared.step.Mode.TheVariants.{Target, Colon, Names, Slashes, Dollar, Over}

abbrev pub line_feed : ℕ
line_feed = 10

abbrev pub carriage_return : ℕ
carriage_return = 13

abbrev pub hash_sign : ℕ
hash_sign = 35

abbrev pub dollar : ℕ
dollar = 36

abbrev pub colon : ℕ
colon = 58

abbrev pub backslash : ℕ
backslash = 92

-- space or tab
abbrev pub is_gap : ℕ → Bool
is_gap c = c == 32 || c == 9

-- ---- lines

abbrev pub begins_line : List ℕ → Bool
begins_line [] = false
begins_line (c ∷ cs) = c == line_feed

-- the characters without the carriage returns that stand before a line feed
abbrev pub without_returns : List ℕ → List ℕ
without_returns [] = []
without_returns (c ∷ cs) =
    if c == carriage_return && begins_line cs then without_returns cs else c ∷ without_returns cs

-- ---- the target

-- a space, a tab, a line feed or the end
abbrev pub ends_target : List ℕ → Bool
ends_target [] = true
ends_target (c ∷ cs) = is_gap c || c == line_feed

-- the characters behind the target, which ends at the first colon with such behind it
abbrev pub behind_target : List ℕ → Option (List ℕ)
behind_target [] = None
behind_target (c ∷ cs) = if c == colon && ends_target cs then Some cs else behind_target cs

-- ---- what each character does

-- among the names: blanks part them, a line feed ends them, and a dollar that comes twice counts once
abbrev pub among_names : ℕ → Mark × Mode
among_names c =
    if is_gap c then (Ends 0, Names)
    else (if c == line_feed then (Ends 0, Over)
    else (if c == backslash then (Nothing, Slashes 1)
    else (if c == dollar then (Adds 0 c, Dollar)
    else (Adds 0 c, Names))))

-- Behind so many backslashes: before a space or tab two count as one, and the blank is one of the name where their
-- number is odd. Before a line feed, which parts, and before `#` the last one doesn't count. Before all else each is
-- itself.
abbrev pub behind_slashes : ℕ → ℕ → Mark × Mode
behind_slashes count c =
    if c == backslash then (Nothing, Slashes (count + 1))
    else (if is_gap c then (if count % 2 == 0 then (Ends (count / 2), Names) else (Adds (count / 2) c, Names))
    else (if c == line_feed then (Ends (count - 1), Names)
    else (if c == hash_sign then (Adds (count - 1) c, Names)
    else (if c == dollar then (Adds count c, Dollar)
    else (Adds count c, Names)))))

-- in the target, which has no name
abbrev pub in_target : ℕ → Mark × Mode
in_target c = if c == colon then (Nothing, Colon) else (Nothing, Target)

-- the mark of a character, and the mode behind it; a colon ends the target where a blank or a line feed comes
abbrev pub step : Mode → ℕ → Mark × Mode
step Target c = in_target c
step Colon c = if is_gap c || c == line_feed then among_names c else in_target c
step Names c = among_names c
step (Slashes count) c = behind_slashes count c
step Dollar c = if c == dollar then (Nothing, Names) else among_names c
step Over c = (Nothing, Over)

-- the end of the text ends a name
abbrev pub ending : Mode → Mark
ending Target = Ends 0
ending Colon = Ends 0
ending Names = Ends 0
ending (Slashes count) = Ends count
ending Dollar = Ends 0
ending Over = Ends 0

-- the marks of characters, and that of their end
unfoldable pub marks : Mode → List ℕ → List Mark
marks mode [] = ending mode ∷ []
marks mode (c ∷ cs) = (step mode c).0 ∷ marks (step mode c).1 cs

-- the mode behind characters
unfoldable pub mode_behind : Mode → List ℕ → Mode
mode_behind mode [] = mode
mode_behind mode (c ∷ cs) = mode_behind (step mode c).1 cs

abbrev pub is_target : Mode → Bool
is_target Target = true
is_target Colon = false
is_target Names = false
is_target (Slashes count) = false
is_target Dollar = false
is_target Over = false

abbrev pub slashes_of : Mode → ℕ
slashes_of Target = 0
slashes_of Colon = 0
slashes_of Names = 0
slashes_of (Slashes count) = count
slashes_of Dollar = 0
slashes_of Over = 0

-- ---- the names

-- so many backslashes
abbrev pub slashes : ℕ → List ℕ
slashes count = replicate count backslash

abbrev pub so_far : Option (List ℕ) → List ℕ
so_far None = []
so_far (Some word) = word

-- the name in work with so many backslashes more, if there is one then
abbrev pub with_slashes : ℕ → Option (List ℕ) → Option (List ℕ)
with_slashes zero word = word
with_slashes (suc count) word = Some (so_far word ++ slashes (suc count))

-- it ends, if there is one
abbrev pub ended : Option (List ℕ) → List (List ℕ)
ended None = []
ended (Some word) = word ∷ []

-- the names of some marks, with one in work
abbrev pub names_by : List Mark → Option (List ℕ) → List (List ℕ)
names_by [] word = []
names_by (Nothing ∷ ms) word = names_by ms word
names_by (Adds count c ∷ ms) word = names_by ms (Some (so_far (with_slashes count word) ++ encode_utf8 c))
names_by (Ends count ∷ ms) word = ended (with_slashes count word) ++ names_by ms None

-- the names behind the target, where it ends
abbrev pub names_in : List ℕ → Option (List (List ℕ))
names_in rule = option_map (λ rest. names_by (marks Names rest) None) (behind_target rule)

abbrev pub names_of : List ℕ → Option (List (List ℕ))
names_of cs = names_in (without_returns cs)

abbrev pub or_no_colon : Option (List (List ℕ)) → Result (List (List ℕ)) DepsError
or_no_colon None = Err NoColon
or_no_colon (Some names) = Ok names

-- the names of bytes that are text
unfoldable pub read_deps : List ℕ → Result (List (List ℕ)) DepsError
read_deps text = if is_utf8 text then or_no_colon (names_of (chars text)) else Err NotText
