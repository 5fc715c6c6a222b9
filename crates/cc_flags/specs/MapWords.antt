-- The words that map the folders of sources to others, in what macros and debug information tell.
use Rattle.std.specs.Prelude.{ℕ, Bool, true, false, not, ◌&&◌, ◌||◌, ◌==◌, List, [], ◌∷◌, ◌++◌, Option, Some, None, codes, filter, is_some, if◌then◌else◌}
use Rattle.std.specs.List.{flat_map, list_any, slice_split}
use Rattle.cc_env.specs.Snapshot.{last_value}
use Rattle.cc_text.specs.Pieces.{has_bytes}
use Rattle.cc_text.specs.Quoted.{quoted}
use Rattle.cc_text.specs.Words.{when, is_among}
use Rattle.cc_text.specs.declared.family.ToolFamily.{ToolFamily}
use Rattle.cc_flags.specs.declared.maps.Maps.{Maps}
use Rattle.cc_text.specs.Families.{is_cl, is_clang_cl}
use Rattle.cc_flags.specs.Texts.{is}

abbrev pub no_maps : Maps
no_maps = record { macros = false; debug = false }

-- a word of Clang, told to Clang in the form of the Visual Studio compiler
abbrev pub driver_word : ToolFamily → List ℕ → List ℕ
driver_word family text = (if is_clang_cl family then codes "/clang:" else []) ++ text

abbrev pub macro_map : ToolFamily → List ℕ
macro_map family = driver_word family (codes "-fmacro-prefix-map")

abbrev pub debug_map : ToolFamily → List ℕ
debug_map family = driver_word family (codes "-fdebug-prefix-map")

-- a map of a pair
abbrev pub map_of : List ℕ → List ℕ → List ℕ
map_of flag pair = flag ++ codes "=" ++ pair

-- the word by which a compiler is asked whether it maps
abbrev pub probe_of : List ℕ → List ℕ
probe_of flag = map_of flag (codes "/probe=/probe")

-- the maps of a pair
unfoldable pub pair_words : ToolFamily → Maps → List ℕ → List (List ℕ)
pair_words family maps pair =
    when maps.macros (map_of (macro_map family) pair ∷ []) ++ when maps.debug (map_of (debug_map family) pair ∷ [])

unfoldable pub pairs_words : ToolFamily → Maps → List (List ℕ) → List (List ℕ)
pairs_words family maps pairs = flat_map (pair_words family maps) pairs

-- the scopes that Cargo trims paths in
abbrev pub scopes_of : List ℕ → List (List ℕ)
scopes_of = slice_split (λ b. b == 44)

-- the parts between colons
abbrev pub colon_parts : List ℕ → List (List ℕ)
colon_parts = slice_split (λ b. b == 58)

-- the pairs that Cargo trims paths by
unfoldable pub trim_pairs : List ℕ → List (List ℕ)
trim_pairs remap = filter has_bytes (colon_parts remap)

abbrev pub is_object_scope : List ℕ → Bool
is_object_scope scope = is scope "all" || is scope "object"

abbrev pub is_macro_scope : List ℕ → Bool
is_macro_scope scope = is_object_scope scope || is scope "macro"

-- what these scopes want
unfoldable pub scope_maps : List ℕ → Maps
scope_maps scopes = record { macros = list_any is_macro_scope (scopes_of scopes); debug = list_any is_object_scope (scopes_of scopes) }

-- what Cargo wants mapped: nothing unless it names scopes and pairs
unfoldable pub trim_maps : Option (List ℕ) → Option (List ℕ) → Maps
trim_maps None remap = no_maps
trim_maps (Some scopes) remap = if is_some remap then scope_maps scopes else no_maps

-- what is taken over of that
unfoldable pub taken_over : Bool → ToolFamily → Maps → Maps
taken_over inherits family maps = if inherits && not (is_cl family) then maps else no_maps

-- the pairs of a remapped source path
abbrev pub remap_pair : List ℕ × List ℕ → List ℕ
remap_pair entry = entry.0 ++ codes "=" ++ entry.1

-- what Cargo wants told as others
abbrev pub cargo_maps : List (List ℕ × List ℕ) → Maps
cargo_maps env = trim_maps (last_value env (codes "CARGO_TRIM_PATHS_SCOPE")) (last_value env (codes "CARGO_TRIM_PATHS_REMAP"))

-- what the settings want told as others: each path that is remapped, in macros and in debug information
unfoldable pub set_maps : ToolFamily → List (List ℕ × List ℕ) → Maps
set_maps family [] = no_maps
set_maps family (entry ∷ entries) = if is_cl family then no_maps else record { macros = true; debug = true }

-- the words by which a compiler is asked whether it maps what is wanted
unfoldable pub map_asks : ToolFamily → Maps → List (List ℕ)
map_asks family maps = when maps.macros (probe_of (macro_map family) ∷ []) ++ when maps.debug (probe_of (debug_map family) ∷ [])

-- what is wanted and supported
unfoldable pub taken_maps : ToolFamily → List (List ℕ) → Maps → Maps
taken_maps family supported maps = record {
  macros = maps.macros && is_among supported (probe_of (macro_map family));
  debug = maps.debug && is_among supported (probe_of (debug_map family));
}

-- a warning of a flag that is wanted and isn't supported
abbrev pub lack : List ℕ → List ℕ → List ℕ
lack path flag = flag ++ codes " is not supported by " ++ quoted path

abbrev pub lack_of : List ℕ → List (List ℕ) → Bool → List ℕ → List (List ℕ)
lack_of path supported wanted flag = when (wanted && not (is_among supported (probe_of flag))) (lack path flag ∷ [])

unfoldable pub map_lacks : List ℕ → ToolFamily → List (List ℕ) → Maps → List (List ℕ)
map_lacks path family supported maps = lack_of path supported maps.macros (macro_map family) ++ lack_of path supported maps.debug (debug_map family)
