-- The fields that pairs give: each is made from the last pair of its keys, and the features from all pairs in order.
use Rattle.std.specs.Prelude.{ℕ, Bool, true, false, List, [], ◌∷◌, ◌==◌, Option, Some, None, map, find, reverse, flat_map, codes, length, nat_lt, is_none, is_some, unwrap_or, ◌&&◌, ◌||◌, if◌then◌else◌}
use Rattle.std.specs.Option.{option_map, option_and_then}
use Rattle.std.specs.List.{filter, slice_split}
use Rattle.cc_text.specs.Numbers.{u32_of}
use Prim.Native.String.{String}
use Rattle.cc_text.specs.Words.{when, is_one_of}
use Rattle.cc_flags.specs.Pairs.{is, pairs_of}
use Rattle.cc_flags.specs.declared.error.FlagError.{FlagError}
use Rattle.cc_flags.specs.declared.error.FlagError.TheVariants.{InvalidFlag}
use Rattle.cc_flags.specs.declared.flags.RustcCodegenFlags.{RustcCodegenFlags}
use Rattle.cc_flags.specs.declared.pairs.Pair.{Pair}

-- a word that says yes
unfoldable pub is_yes : List ℕ → Bool
is_yes word = is_one_of (map codes ("y" ∷ "yes" ∷ "on" ∷ "true" ∷ [])) word

-- a word that says no
unfoldable pub is_no : List ℕ → Bool
is_no word = is_one_of (map codes ("n" ∷ "no" ∷ "off" ∷ "false" ∷ [])) word

-- what a word says: yes, no, or neither
unfoldable pub truth_of : List ℕ → Option Bool
truth_of word = if is_yes word then Some true else (if is_no word then Some false else None)

-- the last pair of some keys
unfoldable pub last_of : List (List ℕ) → List Pair → Option Pair
last_of keys pairs = find (λ p. is_one_of keys p.key) (reverse pairs)

-- its value, where it has one
unfoldable pub text_of : List (List ℕ) → List Pair → Option (List ℕ)
text_of keys pairs = option_and_then (λ p. p.value) (last_of keys pairs)

-- its value, where no value stands for `true`
unfoldable pub text_or_true_of : List (List ℕ) → List Pair → Option (List ℕ)
text_or_true_of keys pairs = option_map (λ p. unwrap_or p.value (codes "true")) (last_of keys pairs)

-- a value that is a switch: on where there is none
unfoldable pub switch : Option (List ℕ) → Option Bool
switch None = Some true
switch (Some word) = truth_of word

unfoldable pub switch_of : List (List ℕ) → List Pair → Option Bool
switch_of keys pairs = option_and_then (λ p. switch p.value) (last_of keys pairs)

-- a value that is on unless it says no
unfoldable pub is_on : Option (List ℕ) → Bool
is_on None = true
is_on (Some word) = unwrap_or (truth_of word) true

unfoldable pub plugin_of : List (List ℕ) → List Pair → Option Bool
plugin_of keys pairs = option_map (λ p. is_on p.value) (last_of keys pairs)

abbrev pub number_in : Option (List ℕ) → Option ℕ
number_in value = option_and_then u32_of value

unfoldable pub number_of : List (List ℕ) → List Pair → Option ℕ
number_of keys pairs = option_and_then (λ p. number_in p.value) (last_of keys pairs)

-- the names of a value between commas, without empty ones
unfoldable pub feature_names : Option (List ℕ) → List (List ℕ)
feature_names None = []
feature_names (Some value) = filter (λ name. nat_lt 0 (length name)) (slice_split (λ b. b == 44) value)

-- the names that a pair has
unfoldable pub features_in : Pair → List (List ℕ)
features_in p = when (is p.key "-Ctarget-feature") (feature_names p.value)

-- the names of each pair, in order
unfoldable pub features_of : List Pair → List (List ℕ)
features_of pairs = flat_map features_in pairs

-- the keys whose value is a text that has to be there
unfoldable pub needs_text : List ℕ → Bool
needs_text key =
    is_one_of (map codes ("-Ccode-model" ∷ "-Crelocation-model" ∷ "-Zbranch-protection" ∷ "-Cbranch-protection" ∷ "-Zstack-protector" ∷ "-Cstack-protector" ∷ "-Ctarget-cpu" ∷ "-Ctarget-feature" ∷ [])) key

-- a pair without the value that it needs
unfoldable pub is_invalid : Pair → Bool
is_invalid p = needs_text p.key && is_none p.value || is p.key "-Cdwarf-version" && is_none (number_in p.value)

-- the first one
unfoldable pub invalid_pair : List Pair → Option Pair
invalid_pair pairs = find is_invalid pairs

-- why encoded rustflags are refused
abbrev pub refusal_of : List ℕ → Option FlagError
refusal_of encoded = option_map (λ p. InvalidFlag p.key) (invalid_pair (pairs_of encoded))

-- what a definition makes of the pairs by some keys
abbrev pub by : {X : Type 0} → (List (List ℕ) → List Pair → X) → List String → List Pair → X
by field keys pairs = field (map codes keys) pairs

-- whether some pair has one of the keys
abbrev pub is_given : List (List ℕ) → List Pair → Bool
is_given keys pairs = is_some (last_of keys pairs)

-- the fields
abbrev pub flags_of : List Pair → RustcCodegenFlags
flags_of pairs = record {
  branch_protection = by text_of ("-Zbranch-protection" ∷ "-Cbranch-protection" ∷ []) pairs;
  code_model = by text_of ("-Ccode-model" ∷ []) pairs;
  no_vectorize_loops = by is_given ("-Cno-vectorize-loops" ∷ []) pairs;
  no_vectorize_slp = by is_given ("-Cno-vectorize-slp" ∷ []) pairs;
  control_flow_guard = by text_or_true_of ("-Ccontrol-flow-guard" ∷ []) pairs;
  lto = by text_or_true_of ("-Clto" ∷ []) pairs;
  relocation_model = by text_of ("-Crelocation-model" ∷ []) pairs;
  embed_bitcode = by switch_of ("-Cembed-bitcode" ∷ []) pairs;
  force_frame_pointers = by switch_of ("-Cforce-frame-pointers" ∷ []) pairs;
  no_redzone = by switch_of ("-Cno-redzone" ∷ []) pairs;
  soft_float = by switch_of ("-Csoft-float" ∷ []) pairs;
  dwarf_version = by number_of ("-Cdwarf-version" ∷ []) pairs;
  stack_protector = by text_of ("-Zstack-protector" ∷ "-Cstack-protector" ∷ []) pairs;
  linker_plugin_lto = by plugin_of ("-Clinker-plugin-lto" ∷ []) pairs;
  target_features = features_of pairs;
  target_cpu = by text_of ("-Ctarget-cpu" ∷ []) pairs;
}

-- the fields where no flag is given
abbrev pub no_flags : RustcCodegenFlags
no_flags = record {
  branch_protection = None;
  code_model = None;
  no_vectorize_loops = false;
  no_vectorize_slp = false;
  control_flow_guard = None;
  lto = None;
  relocation_model = None;
  embed_bitcode = None;
  force_frame_pointers = None;
  no_redzone = None;
  soft_float = None;
  dwarf_version = None;
  stack_protector = None;
  linker_plugin_lto = None;
  target_features = [];
  target_cpu = None;
}
