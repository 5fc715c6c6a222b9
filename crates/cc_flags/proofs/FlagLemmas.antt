-- Fields that are equal one by one, and the fields of no flags.
use Rattle.std.proofs.Common.{◌≡◌, ℕ, Bool, List, [], Option, refl}
use Rattle.cc_text.specs.Cuts.{after_prefix, key_and_value}
use Rattle.cc_flags.specs.declared.flags.RustcCodegenFlags.{RustcCodegenFlags}
use Rattle.cc_flags.specs.Pairs.{is_prefix, short_form, prefix_and_rest, pair_of, pairs, pairs_of}
use Rattle.cc_flags.specs.Fields.{flags_of, no_flags, last_of, text_of, text_or_true_of, switch_of, plugin_of, number_of, feature_names, features_in, features_of}

pub same_flags : {a a' b b' : Option (List ℕ)} {c c' d d' : Bool} {e e' f f' g g' : Option (List ℕ)} {h h' i i' j j' k k' : Option Bool} {l l' : Option ℕ} {m m' : Option (List ℕ)} {n n' : Option Bool} {o o' : List (List ℕ)} {p p' : Option (List ℕ)} → a ≡ a' → b ≡ b' → c ≡ c' → d ≡ d' → e ≡ e' → f ≡ f' → g ≡ g' → h ≡ h' → i ≡ i' → j ≡ j' → k ≡ k' → l ≡ l' → m ≡ m' → n ≡ n' → o ≡ o' → p ≡ p' → let make : RustcCodegenFlags = record { branch_protection = a; code_model = b; no_vectorize_loops = c; no_vectorize_slp = d; control_flow_guard = e; lto = f; relocation_model = g; embed_bitcode = h; force_frame_pointers = i; no_redzone = j; soft_float = k; dwarf_version = l; stack_protector = m; linker_plugin_lto = n; target_features = o; target_cpu = p } in let want : RustcCodegenFlags = record { branch_protection = a'; code_model = b'; no_vectorize_loops = c'; no_vectorize_slp = d'; control_flow_guard = e'; lto = f'; relocation_model = g'; embed_bitcode = h'; force_frame_pointers = i'; no_redzone = j'; soft_float = k'; dwarf_version = l'; stack_protector = m'; linker_plugin_lto = n'; target_features = o'; target_cpu = p' } in make ≡ want
same_flags ea eb ec ed ee ef eg eh ei ej ek el em en eo ep = cc

pub none_given : flags_of (pairs_of []) ≡ no_flags
unfolding pairs_of pairs is_prefix pair_of prefix_and_rest short_form last_of text_of text_or_true_of switch_of plugin_of number_of feature_names features_in features_of after_prefix key_and_value
none_given = refl
