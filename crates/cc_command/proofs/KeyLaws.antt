-- What the setter of a key does to the settings.
use Rattle.std.proofs.Common.{◌≡◌, ◌⊎◌, inl, inr, ℕ, suc, ◌+◌, List, [], ◌∷◌, ◌++◌, length, Option, Some, None, Result, Ok, Err, MatchResult, IsErr, IfOk, OnOk, codes, Bool, true, false, not, ◌&&◌, ◌||◌, ◌==◌, nat_lt, if◌then◌else◌, unwrap_or, refl, sym, ◌∙◌, ap, subst, arith}
use Rattle.std.specs.List.{list_any, before_first, after_first, position_or_len, prefix_len}
use Rattle.cc_text.specs.Cuts.{key_and_value}
use Rattle.cc_build.specs.Build.{BuildSeen}
use Rattle.cc_build.specs.Values.{lacks_equals, truth_text}
use Prim.Native.String.{String}
use Rattle.std.proofs.lemmas.Slice.Eq.{bytes_eq-Decides}
use Rattle.cc_command.specs.Read.{is, cause_unless, level_of, is_truth, key_cause, is_text_key, is_item_key, is_choice_key, is_switch_key}
use Rattle.cc_command.specs.SetsKey.{SetsKey, SetsAmong, SetsLevel}
use Rattle.cc_command.specs.Step.{with_key}
use Rattle.cc_command.specs.declared.words.WordCause.{WordCause}
use Rattle.cc_command.specs.declared.words.WordCause.TheVariants.{UnknownKey, BadValue}

-- what was done for a key that is this one
pub sets_key : (old new : BuildSeen) (key is value : List ℕ) (cause : Option WordCause) → key ≡ is → SetsKey old new is value cause → SetsKey old new key value cause
sets_key old new key is value cause e s = subst (λ (k : List ℕ). SetsKey old new k value cause) (sym e) s

-- a setter refuses nothing but for memory
pub set_done : {T E F : Type 0} (old new : BuildSeen) (key is value : List ℕ) (answer : Result T E) (result : Result (Option WordCause) F) → key ≡ is → key_cause is value ≡ None → MatchResult answer (λ _. result ≡ Ok None) (λ _. IsErr result) → OnOk answer (new ≡ with_key old is value) → IfOk result (SetsKey old new key value)
set_done old new key is value (Ok x) result e fine is_set done =
    subst (λ r. IfOk r (SetsKey old new key value)) (sym is_set) (sets_key old new key is value None e (sym fine, λ _. done))
set_done old new key is value (Err x) (Ok cause) e fine is_set done = absurd (cc)
set_done old new key is value (Err x) (Err y) e fine is_set done = tt

-- what a call for one key did, for a key that is that one
pub sets_on : {F : Type 0} (old new : BuildSeen) (key is value : List ℕ) (result : Result (Option WordCause) F) → key ≡ is → IfOk result (SetsKey old new is value) → IfOk result (SetsKey old new key value)
sets_on old new key is value (Ok cause) e s = sets_key old new key is value cause e s
sets_on old new key is value (Err x) e s = tt

-- the setter of the level refuses what is no level
pub set_level : {F : Type 0} (old new : BuildSeen) (key value : List ℕ) (result : Result (Option WordCause) F) → key ≡ codes "opt_level" → IfOk result (SetsLevel old new value) → IfOk result (SetsKey old new key value)
unfolding key_cause is_text_key is_item_key is_choice_key is_switch_key
set_level old new key value (Ok cause) e h = sets_key old new key (codes "opt_level") value cause e (h.0, λ none. by_level (level_of value) refl none)
  where
    by_level : (level : Option ℕ) → level_of value ≡ level → cause ≡ None → new ≡ with_key old (codes "opt_level") value
    by_level (Some n) is none = h.1 none ∙ rw is refl
    by_level None is none = let bad : cause ≡ Some BadValue = h.0 ∙ rw is refl in absurd (cc)
set_level old new key value (Err x) e h = tt

is_not : (key : List ℕ) (name : String) → (key ≡ codes name → ⊥) → is key name ≡ false
is_not key name differs =
    elim (is key name) as (λ b. (b ≡ true → key ≡ codes name) → b ≡ false) [ true ↦ λ f. absurd (differs (f refl)) | false ↦ λ f. refl ] ((bytes_eq-Decides key (codes name)).0)

-- a key that is this one is such a key
pub known_key : (such : List ℕ → Bool) (key is : List ℕ) → key ≡ is → such is ≡ true → true ≡ such key
known_key such key is e h = sym (subst (λ k. such k ≡ true) (sym e) h)

-- a key that is none of these is no such key
pub no_text_key : (key : List ℕ) → (key ≡ codes "source_root" → ⊥) → (key ≡ codes "std" → ⊥) → (key ≡ codes "target" → ⊥) → (key ≡ codes "host" → ⊥) → (key ≡ codes "opt_level_str" → ⊥) → (key ≡ codes "debug_str" → ⊥) → (key ≡ codes "out_dir" → ⊥) → (key ≡ codes "compiler" → ⊥) → (key ≡ codes "archiver" → ⊥) → (key ≡ codes "ranlib" → ⊥) → (key ≡ codes "cpp_set_stdlib" → ⊥) → (key ≡ codes "cpp_link_stdlib" → ⊥) → is_text_key key ≡ false
unfolding is_text_key
no_text_key key n1 n2 n3 n4 n5 n6 n7 n8 n9 n10 n11 n12 = rw (is_not key "source_root" n1, is_not key "std" n2, is_not key "target" n3, is_not key "host" n4, is_not key "opt_level_str" n5, is_not key "debug_str" n6, is_not key "out_dir" n7, is_not key "compiler" n8, is_not key "archiver" n9, is_not key "ranlib" n10, is_not key "cpp_set_stdlib" n11, is_not key "cpp_link_stdlib" n12) refl

-- a key that is none of these is no such key
pub no_item_key : (key : List ℕ) → (key ≡ codes "file" → ⊥) → (key ≡ codes "object" → ⊥) → (key ≡ codes "include" → ⊥) → (key ≡ codes "ar_flag" → ⊥) → (key ≡ codes "asm_flag" → ⊥) → (key ≡ codes "link_lib_modifier" → ⊥) → (key ≡ codes "flag" → ⊥) → (key ≡ codes "flag_if_supported" → ⊥) → (key ≡ codes "define" → ⊥) → (key ≡ codes "remove_flag" → ⊥) → is_item_key key ≡ false
unfolding is_item_key
no_item_key key n1 n2 n3 n4 n5 n6 n7 n8 n9 n10 = rw (is_not key "file" n1, is_not key "object" n2, is_not key "include" n3, is_not key "ar_flag" n4, is_not key "asm_flag" n5, is_not key "link_lib_modifier" n6, is_not key "flag" n7, is_not key "flag_if_supported" n8, is_not key "define" n9, is_not key "remove_flag" n10) refl

-- a key that is none of these is no such key
pub no_choice_key : (key : List ℕ) → (key ≡ codes "shared_flag" → ⊥) → (key ≡ codes "static_flag" → ⊥) → (key ≡ codes "warnings" → ⊥) → (key ≡ codes "extra_warnings" → ⊥) → (key ≡ codes "pic" → ⊥) → (key ≡ codes "use_plt" → ⊥) → (key ≡ codes "static_crt" → ⊥) → (key ≡ codes "shell_escaped_flags" → ⊥) → (key ≡ codes "force_frame_pointer" → ⊥) → (key ≡ codes "cargo_debug" → ⊥) → is_choice_key key ≡ false
unfolding is_choice_key
no_choice_key key n1 n2 n3 n4 n5 n6 n7 n8 n9 n10 = rw (is_not key "shared_flag" n1, is_not key "static_flag" n2, is_not key "warnings" n3, is_not key "extra_warnings" n4, is_not key "pic" n5, is_not key "use_plt" n6, is_not key "static_crt" n7, is_not key "shell_escaped_flags" n8, is_not key "force_frame_pointer" n9, is_not key "cargo_debug" n10) refl

-- a key that is none of these is no such key
pub no_switch_key : (key : List ℕ) → (key ≡ codes "no_default_flags" → ⊥) → (key ≡ codes "reproducible_codeview" → ⊥) → (key ≡ codes "cpp" → ⊥) → (key ≡ codes "warnings_into_errors" → ⊥) → (key ≡ codes "cpp_link_stdlib_static" → ⊥) → (key ≡ codes "cargo_metadata" → ⊥) → (key ≡ codes "cargo_warnings" → ⊥) → (key ≡ codes "cargo_output" → ⊥) → (key ≡ codes "emit_rerun_if_env_changed" → ⊥) → (key ≡ codes "prefer_clang_cl_over_msvc" → ⊥) → (key ≡ codes "stop_on_failure" → ⊥) → (key ≡ codes "inherit_rustflags" → ⊥) → (key ≡ codes "inherit_trim_paths" → ⊥) → is_switch_key key ≡ false
unfolding is_switch_key
no_switch_key key n1 n2 n3 n4 n5 n6 n7 n8 n9 n10 n11 n12 n13 = rw (is_not key "no_default_flags" n1, is_not key "reproducible_codeview" n2, is_not key "cpp" n3, is_not key "warnings_into_errors" n4, is_not key "cpp_link_stdlib_static" n5, is_not key "cargo_metadata" n6, is_not key "cargo_warnings" n7, is_not key "cargo_output" n8, is_not key "emit_rerun_if_env_changed" n9, is_not key "prefer_clang_cl_over_msvc" n10, is_not key "stop_on_failure" n11, is_not key "inherit_rustflags" n12, is_not key "inherit_trim_paths" n13) refl

-- a key of no kind is unknown
pub unknown_key : (old : BuildSeen) (key value : List ℕ) → is_text_key key ≡ false → is_item_key key ≡ false → is_choice_key key ≡ false → is_switch_key key ≡ false → (key ≡ codes "opt_level" → ⊥) → (key ≡ codes "debug" → ⊥) → (key ≡ codes "env" → ⊥) → (key ≡ codes "remap_source_path" → ⊥) → SetsKey old old key value (Some UnknownKey)
unfolding key_cause
unknown_key old key value text item choice switch n1 n2 n3 n4 =
    (rw (text, item, choice, switch, is_not key "opt_level" n1, is_not key "debug" n2, is_not key "env" n3, is_not key "remap_source_path" n4) refl, λ e. absurd (cc))

either_true : (a b : Bool) → (a ≡ true) ⊎ (b ≡ true) → (a || b) ≡ true
either_true true b h = refl
either_true false b (inl h) = absurd (cc)
either_true false b (inr h) = h

-- what is wrong with the value of a key that is on or off
pub truth_key : (key value : List ℕ) → is_text_key key ≡ false → is_item_key key ≡ false → (is_choice_key key ≡ true) ⊎ (is_switch_key key ≡ true) → key_cause key value ≡ cause_unless (is_truth value)
unfolding key_cause
truth_key key value text item truth =
    let on : (is_choice_key key || is_switch_key key) ≡ true = either_true (is_choice_key key) (is_switch_key key) truth in
    rw (text, item, on) refl

-- the setter of a variable, of a value that has one
pub set_pair : {T E F : Type 0} (old new : BuildSeen) (value : List ℕ) (pair : List ℕ × List ℕ) (answer : Result T E) (result : Result (Option WordCause) F) → key_and_value value ≡ Some pair → MatchResult answer (λ _. result ≡ Ok None) (λ _. IsErr result) → OnOk answer (new ≡ record old { env = record old.env { explicit = old.env.explicit ++ pair ∷ [] } }) → IfOk result (SetsKey old new (codes "env") value)
unfolding key_cause is_text_key is_item_key is_choice_key is_switch_key
set_pair old new value pair answer result e m done =
    set_done old new (codes "env") (codes "env") value answer result refl (rw e refl) m
    (subst (λ (p : List ℕ × List ℕ). OnOk answer (new ≡ record old { env = record old.env { explicit = old.env.explicit ++ p ∷ [] } })) (sym (ap (λ k. unwrap_or k (value, [])) e)) done)

-- and of one that has none
pub no_pair : (old : BuildSeen) (value : List ℕ) → key_and_value value ≡ None → SetsKey old old (codes "env") value (Some BadValue)
unfolding key_cause is_text_key is_item_key is_choice_key is_switch_key
no_pair old value e = (rw e refl, λ h. absurd (cc))

-- the setter of a folder that is named as another, of a value that has both
pub set_map : {T E F : Type 0} (old new : BuildSeen) (value : List ℕ) (pair : List ℕ × List ℕ) (answer : Result T E) (result : Result (Option WordCause) F) → key_and_value value ≡ Some pair → MatchResult answer (λ _. result ≡ Ok None) (λ _. IsErr result) → OnOk answer (new ≡ record old { config = record old.config { remap_source_paths = old.config.remap_source_paths ++ pair ∷ [] } }) → IfOk result (SetsKey old new (codes "remap_source_path") value)
unfolding key_cause is_text_key is_item_key is_choice_key is_switch_key
set_map old new value pair answer result e m done =
    set_done old new (codes "remap_source_path") (codes "remap_source_path") value answer result refl (rw e refl) m
    (subst (λ (p : List ℕ × List ℕ). OnOk answer (new ≡ record old { config = record old.config { remap_source_paths = old.config.remap_source_paths ++ p ∷ [] } })) (sym (ap (λ k. unwrap_or k (value, [])) e)) done)

-- and of one that has not
pub no_map : (old : BuildSeen) (value : List ℕ) → key_and_value value ≡ None → SetsKey old old (codes "remap_source_path") value (Some BadValue)
unfolding key_cause is_text_key is_item_key is_choice_key is_switch_key
no_map old value e = (rw e refl, λ h. absurd (cc))

suc_is : (n : ℕ) → 1 + n ≡ suc n
suc_is n = omega arith

-- no `=` stands before the first `=`
none_before : (text : List ℕ) → list_any (λ b. b == 61) (before_first (λ b. b == 61) text) ≡ false
none_before [] = refl
none_before (b ∷ text) = by_test (none_before text) (b == 61) refl
  where
    by_test : list_any (λ b. b == 61) (before_first (λ b. b == 61) text) ≡ false → (t : Bool) → (b == 61) ≡ t → list_any (λ b. b == 61) (before_first (λ b. b == 61) (b ∷ text)) ≡ false
    by_test rest true e = rw e refl
    by_test rest false e = rw (e, suc_is (prefix_len (λ x. not (x == 61)) text), e) rest

pub from_lacks : (text : List ℕ) (pair : List ℕ × List ℕ) → key_and_value text ≡ Some pair → lacks_equals pair.0 ≡ true
unfolding key_and_value
from_lacks text pair e = by_test (nat_lt (position_or_len (λ b. b == 61) text) (length text)) e
  where
    by_test : (t : Bool) → (if t then Some (before_first (λ b. b == 61) text, after_first (λ b. b == 61) text) else None) ≡ Some pair → not (list_any (λ b. b == 61) pair.0) ≡ true
    by_test true f = rw (sym (ap (λ p. unwrap_or p pair) f), none_before text) refl
    by_test false f = absurd (cc)

text_of : (on : Bool) (value : List ℕ) → on ≡ is value "true" → is_truth value ≡ true → truth_text on ≡ value
text_of true value e h = sym ((bytes_eq-Decides value (codes "true")).0 (sym e))
text_of false value e h = sym ((bytes_eq-Decides value (codes "false")).0 (rw (sym e) at h))

-- the setter of debug information, of a truth value
pub set_debug : {T E F : Type 0} (old new : BuildSeen) (value : List ℕ) (on : Bool) (answer : Result T E) (result : Result (Option WordCause) F) → is_truth value ≡ true → on ≡ is value "true" → MatchResult answer (λ _. result ≡ Ok None) (λ _. IsErr result) → OnOk answer (new ≡ record old { config = record old.config { debug = Some (truth_text on) } }) → IfOk result (SetsKey old new (codes "debug") value)
unfolding key_cause is_text_key is_item_key is_choice_key is_switch_key
set_debug old new value on answer result truth is m done =
    set_done old new (codes "debug") (codes "debug") value answer result refl (rw truth refl) m
    (subst (λ (t : List ℕ). OnOk answer (new ≡ record old { config = record old.config { debug = Some t } })) (text_of on value is truth) done)

-- and of another value
pub no_debug : (old : BuildSeen) (value : List ℕ) → is_truth value ≡ false → SetsKey old old (codes "debug") value (Some BadValue)
unfolding key_cause is_text_key is_item_key is_choice_key is_switch_key
no_debug old value e = (rw e refl, λ h. absurd (cc))

-- ---- the key of a database

-- it sets nothing
pub database_set : (recorded : Bool) (old : BuildSeen) (key value : List ℕ) → (recorded && is key "database") ≡ true → SetsAmong recorded old old key value None
database_set recorded old key value asks =
    let named : key ≡ codes "database" = (bytes_eq-Decides key (codes "database")).0 (both_true recorded (is key "database") asks) in
    (rw asks refl, λ _. subst (λ (k : List ℕ). old ≡ with_key old k value) (sym named) refl)
  where
    both_true : (a b : Bool) → (a && b) ≡ true → b ≡ true
    both_true true b h = h
    both_true false b h = absurd (cc)

-- another key is set as ever
pub sets_among : {F : Type 0} (recorded : Bool) (old new : BuildSeen) (key value : List ℕ) (result : Result (Option WordCause) F) → (recorded && is key "database") ≡ false → IfOk result (SetsKey old new key value) → IfOk result (SetsAmong recorded old new key value)
sets_among recorded old new key value (Ok cause) other s = (s.0 ∙ sym (ap (λ (b : Bool). if b then None else key_cause key value) other), s.1)
sets_among recorded old new key value (Err e) other s = tt
