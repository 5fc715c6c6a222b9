-- What the words of the program ask for: `compile NAME key=value ...`, `archive NAME key=value ...`, `generate N`, or
-- `expand` or `show` with `key=value ...`. Those of a fleet are read by `FleetWords`.
use Rattle.std.specs.Prelude.{◌≡◌, ℕ, ◌+◌, ◌^◌, List, [], ◌∷◌, ◌++◌, Bool, true, false, ◌&&◌, ◌||◌, fold, map, Option, Some, None, Result, Ok, Err, is_some, nat_eq, nat_lt, codes, bytes_eq, unwrap_or, if◌then◌else◌}
use Prim.Native.String.{String}
use Rattle.std.specs.Fmt.{decimal}
use Rattle.std.specs.List.{flat_map, list_any, starts_with}
use Rattle.std.specs.Option.{option_to_list}
use Rattle.std.specs.Str.Parse.{digits_value}
use Rattle.cc_text.specs.Cuts.{key_and_value}
use Rattle.cc_text.specs.Numbers.{u32_of}
use Rattle.cc_flags.specs.declared.build_flags.BuildFlag.{BuildFlag}
use Rattle.cc_flags.specs.declared.build_flags.BuildFlag.TheVariants.{Always, IfSupported}
use Rattle.cc_flags.specs.declared.build_flags.Definition.{Definition}
use Rattle.cc_build.specs.Build.{BuildSeen}
use Rattle.cc_fleet.specs.Fleet.{MemberSeen}
use Rattle.cc_command.specs.declared.words.BadWord.{BadWord}
use Rattle.cc_command.specs.declared.words.WordCause.{WordCause}
use Rattle.cc_command.specs.declared.words.WordCause.TheVariants.{NoCommand, UnknownCommand, NoName, NoValue, UnknownKey, BadValue}
use Rattle.cc_command.specs.declared.words.Job.{Job}
use Rattle.cc_command.specs.Generated.{gen_name}
use Rattle.cc_command.specs.declared.words.Job.TheVariants.{Compile, Archive, Generate, Expand, Show}
use Rattle.cc_command.specs.declared.words.ReadError.{ReadError}
use Rattle.cc_command.specs.declared.words.ReadError.TheVariants.{Bad}

abbrev pub is : List ℕ → String → Bool
is text literal = bytes_eq text (codes literal)

-- the decimal form of a number below 2^32, which has no sign and no leading zero
unfoldable pub is_number : List ℕ → Bool
is_number text = nat_lt (digits_value 10 text) (2 ^ 32) && bytes_eq text (decimal (digits_value 10 text))

-- the level that digits alone tell, a number below 2^32
abbrev pub level_of : List ℕ → Option ℕ
level_of text = if starts_with nat_eq text (codes "+") then None else u32_of text

-- the text is the decimal form of this number, or of none
abbrev pub IsNumberOf : List ℕ → Option ℕ → Type 0
IsNumberOf text None = is_number text ≡ false
IsNumberOf text (Some n) = (is_number text ≡ true) × (decimal n ≡ text)

abbrev pub is_truth : List ℕ → Bool
is_truth text = is text "true" || is text "false"

-- the text is this truth value, or none
abbrev pub IsTruthOf : List ℕ → Option Bool → Type 0
IsTruthOf text None = is_truth text ≡ false
IsTruthOf text (Some on) = (is_truth text ≡ true) × (on ≡ is text "true")

-- a key whose value is one text
unfoldable pub is_text_key : List ℕ → Bool
is_text_key key =
    is key "source_root" || is key "std" || is key "target" || is key "host" || is key "opt_level_str"
    || is key "debug_str" || is key "out_dir"
    || is key "compiler" || is key "archiver" || is key "ranlib" || is key "cpp_set_stdlib" || is key "cpp_link_stdlib"

-- a key whose values are kept one after another
unfoldable pub is_item_key : List ℕ → Bool
is_item_key key =
    is key "file" || is key "object" || is key "include" || is key "ar_flag" || is key "asm_flag"
    || is key "link_lib_modifier" || is key "flag"
    || is key "flag_if_supported" || is key "remove_flag" || is key "define"

-- a key of a setting that is on or off, or unset
unfoldable pub is_choice_key : List ℕ → Bool
is_choice_key key =
    is key "shared_flag" || is key "static_flag" || is key "warnings" || is key "extra_warnings" || is key "pic"
    || is key "use_plt"
    || is key "static_crt" || is key "shell_escaped_flags" || is key "force_frame_pointer" || is key "cargo_debug"

-- a key of a setting that is on or off
unfoldable pub is_switch_key : List ℕ → Bool
is_switch_key key =
    is key "no_default_flags" || is key "reproducible_codeview" || is key "cpp" || is key "warnings_into_errors"
    || is key "cpp_link_stdlib_static" || is key "cargo_metadata" || is key "cargo_warnings" || is key "cargo_output"
    || is key "emit_rerun_if_env_changed" || is key "prefer_clang_cl_over_msvc" || is key "stop_on_failure"
    || is key "inherit_rustflags" || is key "inherit_trim_paths"

abbrev pub cause_unless : Bool → Option WordCause
cause_unless fine = if fine then None else Some BadValue

-- what is wrong with a value, or with its key
unfoldable pub key_cause : List ℕ → List ℕ → Option WordCause
key_cause key value =
    if is_text_key key || is_item_key key then None
    else (if is_choice_key key || is_switch_key key then cause_unless (is_truth value)
    else (if is key "opt_level" then cause_unless (is_some (level_of value))
    else (if is key "debug" then cause_unless (is_truth value)
    else (if is key "env" || is key "remap_source_path" then cause_unless (is_some (key_and_value value))
    else Some UnknownKey))))

-- the same; the key of a database is known where one may be asked for
abbrev pub cause_among : Bool → List ℕ → List ℕ → Option WordCause
cause_among recorded key value = if recorded && is key "database" then None else key_cause key value

abbrev pub pair_cause : Bool → Option (List ℕ × List ℕ) → Option WordCause
pair_cause recorded None = Some NoValue
pair_cause recorded (Some pair) = cause_among recorded pair.0 pair.1

-- what is wrong with a word behind the name
abbrev pub word_cause : Bool → List ℕ → Option WordCause
word_cause recorded word = pair_cause recorded (key_and_value word)

abbrev pub bad_at : ℕ → WordCause → BadWord
bad_at place cause = record { place = place; cause = cause }

abbrev pub bad_or : ℕ → Option WordCause → Option BadWord → Option BadWord
bad_or n None rest = rest
bad_or n (Some cause) rest = Some (bad_at n cause)

-- the first bad word, where the first of these words counts as n, and where a database may be asked for or not
abbrev pub first_bad : Bool → ℕ → List (List ℕ) → Option BadWord
first_bad recorded n [] = None
first_bad recorded n (word ∷ words) = bad_or n (word_cause recorded word) (first_bad recorded (n + 1) words)

-- the value of a pair, where its key passes the test
abbrev pub value_of : (List ℕ → Bool) → List ℕ → List ℕ → List (List ℕ)
value_of test key value = if test key then value ∷ [] else []

abbrev pub pair_value : (List ℕ → Bool) → Option (List ℕ × List ℕ) → List (List ℕ)
pair_value test None = []
pair_value test (Some pair) = value_of test pair.0 pair.1

-- the values of the keys that pass the test, in the order of the words
unfoldable pub values : (List ℕ → Bool) → List (List ℕ) → List (List ℕ)
values test words = flat_map (λ word. pair_value test (key_and_value word)) words

-- what a key of the level sets: a number in its decimal form, a text as it stands
abbrev pub level_value : List ℕ → List ℕ → List (List ℕ)
level_value key value =
    if is key "opt_level" then map decimal (option_to_list (level_of value))
    else (if is key "opt_level_str" then value ∷ [] else [])

abbrev pub pair_level : Option (List ℕ × List ℕ) → List (List ℕ)
pair_level None = []
pair_level (Some pair) = level_value pair.0 pair.1

-- the levels, in the order of the words
unfoldable pub levels : List (List ℕ) → List (List ℕ)
levels words = flat_map (λ word. pair_level (key_and_value word)) words

-- this key
abbrev pub by : String → List ℕ → Bool
by name key = is key name

-- one of these two keys
abbrev pub by_either : String → String → List ℕ → Bool
by_either first second key = is key first || is key second

-- the last of these, or what was before them
abbrev pub latest : Option (List ℕ) → List (List ℕ) → Option (List ℕ)
latest before values = fold (λ old value. Some value) before values

-- the last truth value, or what was before them
abbrev pub latest_truth : Bool → List (List ℕ) → Bool
latest_truth before values = fold (λ old value. is value "true") before values

abbrev pub latest_choice : Option Bool → List (List ℕ) → Option Bool
latest_choice before values = fold (λ old value. Some (is value "true")) before values

-- a text, or none where it is empty
abbrev pub unless_empty : List ℕ → Option (List ℕ)
unless_empty [] = None
unless_empty (b ∷ text) = Some (b ∷ text)

-- the last text, or none where that is empty
abbrev pub latest_nonempty : Option (List ℕ) → List (List ℕ) → Option (List ℕ)
latest_nonempty before values = fold (λ old value. unless_empty value) before values

-- the last library, which is none where that is empty
abbrev pub latest_library : Option (Option (List ℕ)) → List (List ℕ) → Option (Option (List ℕ))
latest_library before values = fold (λ old value. Some (unless_empty value)) before values

-- a macro of `K` or `K=V`
abbrev pub definition_parts : List ℕ → Option (List ℕ × List ℕ) → Definition
definition_parts value None = record { name = value; value = None }
definition_parts value (Some pair) = record { name = pair.0; value = Some pair.1 }

abbrev pub definition_of : List ℕ → Definition
definition_of value = definition_parts value (key_and_value value)

-- a variable of `K=V`
abbrev pub variable_of : List ℕ → List ℕ × List ℕ
variable_of value = unwrap_or (key_and_value value) (value, [])

-- one of these is the text
abbrev pub is_among : List (List ℕ) → List ℕ → Bool
is_among texts text = list_any (λ t. bytes_eq text t) texts

-- the flag of a word, unless one of the words behind it takes it out
abbrev pub flag_of : Option (List ℕ × List ℕ) → List (List ℕ) → List BuildFlag
flag_of None removed = []
flag_of (Some pair) removed =
    if is pair.0 "flag" then (if is_among removed pair.1 then [] else Always pair.1 ∷ [])
    else (if is pair.0 "flag_if_supported" then IfSupported pair.1 ∷ [] else [])

-- the flags, in order: each stands where no later word takes it out
abbrev pub flags_of : List (List ℕ) → List BuildFlag
flags_of [] = []
flags_of (word ∷ words) = flag_of (key_and_value word) (values (by "remove_flag") words) ++ flags_of words

-- a list setting has the values of its key in order, a single one the last
abbrev pub settings_of : List (List ℕ) → BuildSeen
settings_of words = record {
  config = record {
    files = values (by "file") words;
    objects = values (by "object") words;
    includes = values (by "include") words;
    ar_flags = values (by "ar_flag") words;
    asm_flags = values (by "asm_flag") words;
    link_lib_modifiers = values (by "link_lib_modifier") words;
    flags = flags_of words;
    definitions = map definition_of (values (by "define") words);
    remap_source_paths = map variable_of (values (by "remap_source_path") words);
    source_root = latest None (values (by "source_root") words);
    std = latest None (values (by "std") words);
    target = latest None (values (by "target") words);
    host = latest None (values (by "host") words);
    opt_level = latest None (levels words);
    debug = latest None (values (by_either "debug" "debug_str") words);
    out_dir = latest None (values (by "out_dir") words);
    compiler = latest None (values (by "compiler") words);
    archiver = latest None (values (by "archiver") words);
    ranlib = latest None (values (by "ranlib") words);
    cpp_set_stdlib = latest_nonempty None (values (by "cpp_set_stdlib") words);
    cpp_link_stdlib = latest_library None (values (by_either "cpp_set_stdlib" "cpp_link_stdlib") words);
    shared_flag = latest_choice None (values (by "shared_flag") words);
    static_flag = latest_choice None (values (by "static_flag") words);
    warnings = latest_choice None (values (by "warnings") words);
    extra_warnings = latest_choice None (values (by_either "extra_warnings" "warnings") words);
    force_frame_pointer = latest_choice None (values (by "force_frame_pointer") words);
    cargo_debug = latest_choice None (values (by "cargo_debug") words);
    pic = latest_choice None (values (by "pic") words);
    use_plt = latest_choice None (values (by "use_plt") words);
    static_crt = latest_choice None (values (by "static_crt") words);
    shell_escaped_flags = latest_choice None (values (by "shell_escaped_flags") words);
    no_default_flags = latest_truth false (values (by "no_default_flags") words);
    reproducible_codeview = latest_truth false (values (by "reproducible_codeview") words);
    cpp = latest_truth false (values (by "cpp") words);
    warnings_into_errors = latest_truth false (values (by "warnings_into_errors") words);
    cpp_link_stdlib_static = latest_truth false (values (by "cpp_link_stdlib_static") words);
    cargo_metadata = latest_truth true (values (by "cargo_metadata") words);
    cargo_warnings = latest_truth true (values (by "cargo_warnings") words);
    cargo_output = latest_truth true (values (by "cargo_output") words);
    emit_rerun_if_env_changed = latest_truth true (values (by "emit_rerun_if_env_changed") words);
    inherit_rustflags = latest_truth true (values (by "inherit_rustflags") words);
    inherit_trim_paths = latest_truth true (values (by "inherit_trim_paths") words);
    prefer_clang_cl_over_msvc = latest_truth false (values (by "prefer_clang_cl_over_msvc") words);
    stop_on_failure = latest_truth false (values (by "stop_on_failure") words);
    repeat_lines = true;
  };
  env = record { inherited = []; explicit = map variable_of (values (by "env") words) };
}

-- the name of a library, and its settings
abbrev pub Request : Type 0
Request = List ℕ × BuildSeen

-- what is wished: a compile run, one that is recorded in a database at a path, an archive alone, a large run of so many
-- sources, that the source of a build is expanded, that its tools are shown, or that these members are built as a fleet
pub data Wish : Type 0 where
  Compiles : Request → Wish
  Records : List ℕ → Request → Wish
  Archives : Request → Wish
  Generates : ℕ → Wish
  Expands : BuildSeen → Wish
  Shows : BuildSeen → Wish
  Fleets : List MemberSeen → Wish

abbrev pub read_settings : (Request → Wish) → List ℕ → List (List ℕ) → Option BadWord → Result Wish BadWord
read_settings wish name words (Some bad) = Err bad
read_settings wish name words None = Ok (wish (name, settings_of words))

-- a command that takes the name of a library
abbrev pub takes_name : List ℕ → Bool
takes_name command = is command "compile" || is command "archive"

abbrev pub is_command : List ℕ → Bool
is_command command = takes_name command || is command "generate"

-- the path of the database that a word asks for, if it does
abbrev pub database_in : List ℕ → Option (List ℕ)
database_in word = latest None (pair_value (by "database") (key_and_value word))

-- the path of the database that was asked for last, if one was
abbrev pub database_of : List (List ℕ) → Option (List ℕ)
database_of words = latest None (values (by "database") words)

-- a compile run, recorded where a database is asked for
abbrev pub compile_wish : Option (List ℕ) → Request → Wish
compile_wish None request = Wish.Compiles request
compile_wish (Some path) request = Wish.Records path request

-- what a command wishes
abbrev pub wish_by : List ℕ → Option (List ℕ) → Request → Wish
wish_by command database request = if is command "compile" then compile_wish database request else Wish.Archives request

-- the wish of a command with its name and settings, or the first bad word
abbrev pub read_named : List ℕ → List ℕ → List (List ℕ) → Result Wish BadWord
read_named command name words =
    if takes_name command
    then read_settings (wish_by command (database_of words)) name words
    (first_bad (is command "compile") 2 words)
    else Err (bad_at 0 UnknownCommand)

-- the decimal form of a number from 1 to 10000
abbrev pub is_count : List ℕ → Bool
is_count text = is_number text && (nat_lt 0 (digits_value 10 text) && nat_lt (digits_value 10 text) 10001)

-- a number that a large run takes, or none
abbrev pub taken : ℕ → Option ℕ
taken n = if nat_lt 0 n && nat_lt n 10001 then Some n else None

-- the text is the decimal form of this number, which a large run takes, or of none that it takes
abbrev pub IsCountOf : List ℕ → Option ℕ → Type 0
IsCountOf text None = is_count text ≡ false
IsCountOf text (Some n) = (is_count text ≡ true) × (digits_value 10 text ≡ n)

abbrev pub further_pair : Option (List ℕ × List ℕ) → WordCause
further_pair None = NoValue
further_pair (Some pair) = UnknownKey

-- what is wrong with a word behind the number, whatever it is
abbrev pub further_cause : List ℕ → WordCause
further_cause word = further_pair (key_and_value word)

-- the first word behind the number is bad
abbrev pub further : List (List ℕ) → Option BadWord
further [] = None
further (word ∷ words) = Some (bad_at 2 (further_cause word))

abbrev pub unless_further : ℕ → Option BadWord → Result Wish BadWord
unless_further count (Some bad) = Err bad
unless_further count None = Ok (Wish.Generates count)

-- a large run of this number of sources, or the first bad word
abbrev pub read_count : List ℕ → List (List ℕ) → Result Wish BadWord
read_count number words =
    if is_count number then unless_further (digits_value 10 number) (further words) else Err (bad_at 1 BadValue)

-- by the command, whether it takes a number or a name
abbrev pub read_argued : List ℕ → List ℕ → List (List ℕ) → Result Wish BadWord
read_argued command name words = if is command "generate" then read_count name words else read_named command name words

-- what a command wishes that takes a word behind it, or the first bad word
abbrev pub read_further : List ℕ → List (List ℕ) → Result Wish BadWord
read_further command [] = Err (if is_command command then bad_at 1 NoName else bad_at 0 UnknownCommand)
read_further command (name ∷ words) = read_argued command name words

abbrev pub build_unless : (BuildSeen → Wish) → List (List ℕ) → Option BadWord → Result Wish BadWord
build_unless wish words (Some bad) = Err bad
build_unless wish words None = Ok (wish (settings_of words))

-- what is wished of settings that take no name before them, or the first bad word
abbrev pub read_build : (BuildSeen → Wish) → List (List ℕ) → Result Wish BadWord
read_build wish words = build_unless wish words (first_bad false 1 words)

-- a command that takes settings alone, or one that takes a word before them
abbrev pub read_command : List ℕ → List (List ℕ) → Result Wish BadWord
read_command command words =
    if is command "show" then read_build Wish.Shows words
    else if is command "expand" then read_build Wish.Expands words else read_further command words

-- what is wished, or the first bad word
abbrev pub read : List (List ℕ) → Result Wish BadWord
read [] = Err (bad_at 0 NoCommand)
read (command ∷ words) = read_command command words

abbrev pub bad_word : Option BadWord → Option ReadError
bad_word None = None
bad_word (Some bad) = Some (Bad bad)

-- the name of the library of a job, which is known of a large run, and is none where no library is made
abbrev pub name_of : Job → List ℕ
name_of (Compile name) = name
name_of (Archive name) = name
name_of (Generate count) = gen_name
name_of Expand = []
name_of Show = []

-- what a job with this database and these settings wishes
abbrev pub wish_of : Job → Option (List ℕ) → BuildSeen → Wish
wish_of (Compile name) database build = compile_wish database (name, build)
wish_of (Archive name) database build = Wish.Archives (name, build)
wish_of (Generate count) database build = Wish.Generates count
wish_of Expand database build = Wish.Expands build
wish_of Show database build = Wish.Shows build

-- the command takes a name, and a job for the library of this name does what it wishes
abbrev pub IsJobOf : List ℕ → List ℕ → Job → Type 0
IsJobOf command name job =
    (takes_name command ≡ true)
    × ((database : Option (List ℕ)) (build : BuildSeen)
    → wish_of job database build ≡ wish_by command database (name, build))

abbrev pub refusal_of : Result Wish BadWord → Option ReadError
refusal_of (Ok wish) = None
refusal_of (Err bad) = Some (Bad bad)
