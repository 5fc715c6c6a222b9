-- The words for debug information and for frame pointers.
use Rattle.std.specs.Prelude.{ℕ, Bool, false, not, ◌&&◌, ◌||◌, List, [], ◌++◌, Option, Some, None, unwrap_or, if◌then◌else◌}
use Rattle.cc_text.specs.Words.{when}
use Rattle.cc_text.specs.declared.family.ToolFamily.{ToolFamily}
use Rattle.cc_target.specs.Targets.{Info}
use Rattle.cc_text.specs.Families.{is_clang, is_gnu_like, is_visual_studio}
use Rattle.cc_flags.specs.Texts.{is, word}

-- the text asks for debug information
unfoldable pub asks_for_debug : List ℕ → Bool
asks_for_debug text = not (is text "" || is text "0" || is text "false" || is text "none")

-- debug information is wanted
abbrev pub has_debug : Option (List ℕ) → Bool
has_debug None = false
has_debug (Some text) = asks_for_debug text

-- line tables alone are wanted
unfoldable pub is_limited : List ℕ → Bool
is_limited text = is text "1" || is text "limited" || is text "line-tables-only" || is text "line-directives-only"

-- how much debug information is wanted
unfoldable pub level_word : ToolFamily → List ℕ → List (List ℕ)
level_word family text =
    if is text "line-directives-only" && is_clang family then word "-gline-directives-only" else (if is_limited text then word "-g1" else word "-g")

-- systems whose debuggers read version 2 of DWARF
unfoldable pub reads_dwarf_2 : Info → Bool
reads_dwarf_2 target =
    is target.os "android" || is target.os "dragonfly" || is target.os "freebsd" || is target.os "netbsd" || is target.os "openbsd"
    || (is target.os "windows" && is target.env "gnu")

-- the version of DWARF
unfoldable pub dwarf_word : Info → List (List ℕ)
dwarf_word target = if reads_dwarf_2 target then word "-gdwarf-2" else when (is target.os "linux") (word "-gdwarf-4")

-- the words of a text that asks for debug information
unfoldable pub wanted_debug_words : ToolFamily → Info → List ℕ → List (List ℕ)
wanted_debug_words family target text = if is_visual_studio family then word "-Z7" else level_word family text ++ dwarf_word target

-- debug information, where it is wanted
unfoldable pub debug_words : ToolFamily → Info → Option (List ℕ) → List (List ℕ)
debug_words family target None = []
debug_words family target (Some text) = when (asks_for_debug text) (wanted_debug_words family target text)

-- frame pointers are kept: as it is set, else where debug information is wanted
unfoldable pub keeps_frame_pointers : ToolFamily → Option Bool → Option (List ℕ) → Bool
keeps_frame_pointers family force debug = is_gnu_like family && unwrap_or force (has_debug debug)

-- the word that keeps them in functions that call none, which not every compiler takes
abbrev pub leaf_word : List (List ℕ)
leaf_word = word "-mno-omit-leaf-frame-pointer"

-- the words that keep frame pointers
unfoldable pub kept_words : Bool → List (List ℕ)
kept_words takes_leaf = word "-fno-omit-frame-pointer" ++ when takes_leaf leaf_word

-- frame pointers, where they are kept; `takes_leaf` tells whether the compiler takes the word for leaves
unfoldable pub frame_pointer_words : ToolFamily → Option Bool → Option (List ℕ) → Bool → List (List ℕ)
frame_pointer_words family force debug takes_leaf = when (keeps_frame_pointers family force debug) (kept_words takes_leaf)
