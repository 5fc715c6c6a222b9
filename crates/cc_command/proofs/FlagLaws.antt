-- The flags of words, with one word more.
use Rattle.std.proofs.Common.{◌≡◌, ℕ, List, [], ◌∷◌, ◌++◌, Option, Some, None, Bool, true, false, not, ◌||◌, if◌then◌else◌, codes, bytes_eq, filter, refl, sym, ◌∙◌, ap, append-nil, append_assoc}
use Rattle.std.specs.List.{flat_map}
use Rattle.std.proofs.lemmas.Grind.{flat_map-append}
use Rattle.std.proofs.lemmas.Slice.Eq.{bytes_eq-Decides}
use Rattle.cc_text.specs.Cuts.{key_and_value}
use Rattle.cc_flags.specs.BuildFlags.{is_always, without}
use Rattle.cc_flags.specs.declared.build_flags.BuildFlag.{BuildFlag}
use Rattle.cc_flags.specs.declared.build_flags.BuildFlag.TheVariants.{Always, IfSupported}
use Rattle.cc_command.specs.Read.{is, by, values, pair_value, levels, pair_level, is_among, flag_of, flags_of}
use Rattle.cc_command.specs.Step.{flags_behind}

pub more_values : (test : List ℕ → Bool) (words : List (List ℕ)) (word : List ℕ) → values test (words ++ word ∷ []) ≡ values test words ++ pair_value test (key_and_value word)
unfolding values
more_values test words word =
    flat_map-append (λ w. pair_value test (key_and_value w)) words (word ∷ []) ∙ ap (λ l. flat_map (λ w. pair_value test (key_and_value w)) words ++ l) (append-nil (pair_value test (key_and_value word)))

pub more_levels : (words : List (List ℕ)) (word : List ℕ) → levels (words ++ word ∷ []) ≡ levels words ++ pair_level (key_and_value word)
unfolding levels
more_levels words word =
    flat_map-append (λ w. pair_level (key_and_value w)) words (word ∷ []) ∙ ap (λ l. flat_map (λ w. pair_level (key_and_value w)) words ++ l) (append-nil (pair_level (key_and_value word)))

-- the flags with those of a pair, or without the one that it takes out
abbrev pub flags_with : List BuildFlag → Option (List ℕ × List ℕ) → List BuildFlag
flags_with flags None = flags
flags_with flags (Some pair) = flags_behind flags pair.0 pair.1

among_more : (texts : List (List ℕ)) (last text : List ℕ) → is_among (texts ++ last ∷ []) text ≡ (is_among texts text || bytes_eq text last)
among_more [] last text = or_false (bytes_eq text last)
  where
    or_false : (b : Bool) → (b || false) ≡ (false || b)
    or_false true = refl
    or_false false = refl
among_more (t ∷ texts) last text =
    ap (λ b. bytes_eq text t || b) (among_more texts last text) ∙ or_assoc (bytes_eq text t) (is_among texts text) (bytes_eq text last)
  where
    or_assoc : (a b c : Bool) → (a || (b || c)) ≡ ((a || b) || c)
    or_assoc true b c = refl
    or_assoc false b c = refl

left : (flag supported among same : Bool) (text last : List ℕ) → bytes_eq text last ≡ same → (if flag then (if among || same then [] else Always text ∷ []) else (if supported then IfSupported text ∷ [] else [])) ≡ without last (if flag then (if among then [] else Always text ∷ []) else (if supported then IfSupported text ∷ [] else []))
unfolding without
left false true among same text last e = refl
left false false among same text last e = refl
left true supported true same text last e = refl
left true supported false true text last e = rw e refl
left true supported false false text last e = rw e refl

-- a flag that one more word takes out
left_more : (pair : Option (List ℕ × List ℕ)) (removed : List (List ℕ)) (last : List ℕ) → flag_of pair (removed ++ last ∷ []) ≡ without last (flag_of pair removed)
unfolding without
left_more None removed last = refl
left_more (Some pair) removed last =
    ap (λ b. if is pair.0 "flag" then (if b then [] else Always pair.1 ∷ []) else (if is pair.0 "flag_if_supported" then IfSupported pair.1 ∷ [] else [])) (among_more removed last pair.1)
    ∙ left (is pair.0 "flag") (is pair.0 "flag_if_supported") (is_among removed pair.1) (bytes_eq pair.1 last) pair.1 last refl

without_both : (word : List ℕ) (xs ys : List BuildFlag) → without word (xs ++ ys) ≡ without word xs ++ without word ys
unfolding without
without_both word [] ys = refl
without_both word (x ∷ xs) ys = by_test (without_both word xs ys) (is_always word x)
  where
    by_test : (rest : filter (λ flag. not (is_always word flag)) (xs ++ ys) ≡ filter (λ flag. not (is_always word flag)) xs ++ filter (λ flag. not (is_always word flag)) ys) (b : Bool) → (if not b then x ∷ filter (λ flag. not (is_always word flag)) (xs ++ ys) else filter (λ flag. not (is_always word flag)) (xs ++ ys)) ≡ (if not b then x ∷ filter (λ flag. not (is_always word flag)) xs else filter (λ flag. not (is_always word flag)) xs) ++ filter (λ flag. not (is_always word flag)) ys
    by_test rest true = rest
    by_test rest false = ap (λ l. x ∷ l) rest

no_remove : (key : List ℕ) → is key "flag" ≡ true → is key "remove_flag" ≡ false
no_remove key flag = let e : key ≡ codes "flag" = (bytes_eq-Decides key (codes "flag")).0 flag in rw e refl

supported_no_remove : (key : List ℕ) → is key "flag_if_supported" ≡ true → is key "remove_flag" ≡ false
supported_no_remove key flag = let e : key ≡ codes "flag_if_supported" = (bytes_eq-Decides key (codes "flag_if_supported")).0 flag in rw e refl

-- the flags before one more word, as the word leaves them, and then its own
abbrev then_flag : Bool → Bool → Bool → List ℕ → List BuildFlag → List BuildFlag
then_flag flag supported remove word flags =
    if flag then flags ++ Always word ∷ [] else (if supported then flags ++ IfSupported word ∷ [] else (if remove then without word flags else flags))

next : (flag supported remove : Bool) (word : List ℕ) (first : Option (List ℕ × List ℕ)) (removed : List (List ℕ)) (before after : List BuildFlag) → (flag ≡ true → remove ≡ false) → (supported ≡ true → remove ≡ false) → after ≡ then_flag flag supported remove word before → flag_of first (removed ++ (if remove then word ∷ [] else [])) ++ after ≡ then_flag flag supported remove word (flag_of first removed ++ before)
next true supported true word first removed before after apart apart_too is = let f : true ≡ false = apart refl in absurd (cc)
next true supported false word first removed before after apart apart_too is =
    ap (λ l. flag_of first l ++ after) (append-nil removed) ∙ ap (λ l. flag_of first removed ++ l) is ∙ sym (append_assoc (flag_of first removed) before (Always word ∷ []))
next false true true word first removed before after apart apart_too is = let f : true ≡ false = apart_too refl in absurd (cc)
next false true false word first removed before after apart apart_too is =
    ap (λ l. flag_of first l ++ after) (append-nil removed) ∙ ap (λ l. flag_of first removed ++ l) is ∙ sym (append_assoc (flag_of first removed) before (IfSupported word ∷ []))
next false false true word first removed before after apart apart_too is =
    ap (λ l. l ++ after) (left_more first removed word) ∙ ap (λ l. without word (flag_of first removed) ++ l) is ∙ sym (without_both word (flag_of first removed) before)
next false false false word first removed before after apart apart_too is =
    ap (λ l. flag_of first l ++ after) (append-nil removed) ∙ ap (λ l. flag_of first removed ++ l) is

one_more : (last first : Option (List ℕ × List ℕ)) (removed : List (List ℕ)) (before after : List BuildFlag) → after ≡ flags_with before last → flag_of first (removed ++ pair_value (by "remove_flag") last) ++ after ≡ flags_with (flag_of first removed ++ before) last
one_more None first removed before after is = ap (λ l. flag_of first l ++ after) (append-nil removed) ∙ ap (λ l. flag_of first removed ++ l) is
one_more (Some pair) first removed before after made =
    next (is pair.0 "flag") (is pair.0 "flag_if_supported") (is pair.0 "remove_flag") pair.1 first removed before after (no_remove pair.0) (supported_no_remove pair.0) made

alone : (flag supported remove : Bool) (word : List ℕ) → (if flag then Always word ∷ [] else (if supported then IfSupported word ∷ [] else [])) ++ [] ≡ then_flag flag supported remove word []
unfolding without
alone true supported remove word = refl
alone false true remove word = refl
alone false false true word = refl
alone false false false word = refl

first_flags : (last : Option (List ℕ × List ℕ)) → flag_of last [] ++ [] ≡ flags_with [] last
first_flags None = refl
first_flags (Some pair) = alone (is pair.0 "flag") (is pair.0 "flag_if_supported") (is pair.0 "remove_flag") pair.1

pub flags_more : (words : List (List ℕ)) (word : List ℕ) → flags_of (words ++ word ∷ []) ≡ flags_with (flags_of words) (key_and_value word)
unfolding values
flags_more [] word = first_flags (key_and_value word)
flags_more (w ∷ words) word =
    ap (λ l. flag_of (key_and_value w) l ++ flags_of (words ++ word ∷ [])) (more_values (by "remove_flag") words word)
    ∙ one_more (key_and_value word) (key_and_value w) (values (by "remove_flag") words) (flags_of words) (flags_of (words ++ word ∷ [])) (flags_more words word)
