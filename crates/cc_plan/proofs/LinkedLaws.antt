-- A library is found by its path: by the name of its output, in the folder of that path.
use Rattle.std.proofs.Common.{◌≡◌, ◌≢◌, ◌∙◌, refl, sym, ap, ap₂, subst, ℕ, zero, suc, ◌+◌, ◌-◌, ◌<◌, List, [], ◌∷◌, ◌++◌, length, take, drop, get_or, Bool, true, false, not, ◌||◌, ◌==◌, Option, Some, None, is_some, unwrap_or, arith, codes, nat_eq, append_assoc, ⊎_elim, ne_eqb, if◌then◌else◌}
use Rattle.std.specs.List.{starts_with, ends_with}
use Rattle.std.specs.Option.{option_and_then, option_map}
use Rattle.std.specs.Path.{slash, dot, with_separator, path_join, path_parent, path_file_name, parent_before_slash, split_last_component, trim_trailing, trimmed_len, is_trailing, IsRelative}
use Rattle.std.proofs.lemmas.Bool.{and_parts, not-true, or_cases, eqb-true}
use Rattle.std.proofs.lemmas.Bool.Decides.{Decides-eqb}
use Rattle.std.proofs.lemmas.List.{length-append, take_more}
use Rattle.std.proofs.lemmas.Paths.{path_join_relative}
use Rattle.std.proofs.lemmas.Slice.Eq.{starts_is, ends_is}
use Rattle.std.proofs.Math.Seq.{take_all, take-append_seam}
use Rattle.cc_env.specs.Env.{EnvSeen}
use Rattle.cc_target.specs.Targets.{Info}
use Rattle.cc_text.specs.Cuts.{after_prefix, before_suffix}
use Rattle.cc_flags.specs.Blanks.{nonempty}
use Rattle.cc_flags.specs.Given.{out_dir_of, first_of}
use Rattle.cc_flags.specs.Names.{is_nameless, has_slash, is_output_name, inner_name, library_name, library_file, pair_of, file_library, linked_library}
use Rattle.cc_flags.specs.Target.{target_info}
use Rattle.cc_flags.specs.declared.settings.BuildConfig.{BuildConfig}
use Rattle.cc_flags.proofs.CutTextLemmas.{suffix_cut}
use Rattle.cc_plan.specs.Refusal.{name_refusal, path_refusal, out_dir_refusal, sources_refusal, intermediate_refusal, early_refusal, object_in, library_in}
use Rattle.cc_plan.specs.declared.error.ArgumentCause.TheVariants.{Output}
use Rattle.cc_plan.specs.declared.error.PlanError.TheVariants.{Argument}
use Rattle.cc_plan.proofs.DottedPaths.{Free, free_both, dotted, path_of, name_is, split_name}

-- ---- the name of the file

stands : (name : List ℕ) → name ≢ [] → nonempty (Some name) ≡ Some name
stands [] some = absurd (some refl)
stands (b ∷ name) some = refl

-- what stands before a suffix
before : (name suffix : List ℕ) → before_suffix (name ++ suffix) suffix ≡ Some name
unfolding before_suffix
before name suffix =
    let e : ends_with nat_eq (name ++ suffix) suffix ≡ true = (ends_is Decides-eqb (name ++ suffix) suffix _ refl).1 name refl in
    let l : length (name ++ suffix) - length suffix ≡ length name = omega (arith, length-append name suffix) in
    rw (e, l) (ap Some (take-append_seam name suffix))

-- what stands between `lib` and `.a` is the name
framed : (name : List ℕ) → name ≢ [] → inner_name (codes "lib" ++ (name ++ codes ".a")) ≡ Some name
unfolding inner_name after_prefix
framed name some = ap nonempty (before name (codes ".a")) ∙ stands name some

-- and a file with such a name is framed so
unframed : (file name : List ℕ) → inner_name file ≡ Some name → file ≡ codes "lib" ++ (name ++ codes ".a")
unfolding inner_name after_prefix
unframed file name h = by_test (starts_with nat_eq file (codes "lib")) refl
  where
    cut : (rest : Option (List ℕ)) → nonempty rest ≡ Some name → rest ≡ Some name
    cut None h = absurd (cc)
    cut (Some []) h = absurd (cc)
    cut (Some (b ∷ rest)) h = h

    by_test : (t : Bool) → starts_with nat_eq file (codes "lib") ≡ t → file ≡ codes "lib" ++ (name ++ codes ".a")
    by_test true e =
        let front : file ≡ codes "lib" ++ drop 3 file = (starts_is Decides-eqb file (codes "lib") _ refl).0 e in
        let rest : before_suffix (drop 3 file) (codes ".a") ≡ Some name = cut _ (rw e at h) in
        front ∙ ap (λ r. codes "lib" ++ r) (suffix_cut (drop 3 file) (codes ".a") name rest)
    by_test false e = absurd (let k = rw e at h in cc)

-- such a name is not empty
never_empty : (file : List ℕ) → inner_name file ≢ Some []
unfolding inner_name
never_empty file h = by_text _ h
  where
    by_text : (text : Option (List ℕ)) → nonempty text ≢ Some []
    by_text None h = cc
    by_text (Some []) h = cc
    by_text (Some (b ∷ text)) h = cc

-- ---- a name of an output

slash_free : (b : ℕ) (output : List ℕ) (t : Bool) → (b == 47) ≡ t → (t || has_slash output) ≡ false → (has_slash output ≡ false → Free slash output) → Free slash (b ∷ output)
slash_free b output true e h rest = absurd (cc)
slash_free b output false e h rest = ((λ is. absurd (let k = (Decides-eqb b 47).1 is in cc)), rest h)

no_slash : (output : List ℕ) → has_slash output ≡ false → Free slash output
no_slash [] h = tt
no_slash (b ∷ output) h = slash_free b output (b == 47) refl h (no_slash output)

free_behind : (c : ℕ) (xs ys : List ℕ) → Free c (xs ++ ys) → Free c ys
free_behind c [] ys f = f
free_behind c (x ∷ xs) ys f = free_behind c xs ys f.1

free_front : (c : ℕ) (xs ys : List ℕ) → Free c (xs ++ ys) → Free c xs
free_front c [] ys f = tt
free_front c (x ∷ xs) ys f = (f.0, free_front c xs ys f.1)

-- The file of an output has its name between `lib` and `.a`. The name is not empty, and has no slash.
module _ (output : List ℕ) (is : is_output_name output ≡ true) where
  parts : (not (is_nameless output) ≡ true) × (not (has_slash output) ≡ true)
  unfolding is_output_name
  parts = and_parts _ _ is

  some : output ≢ []
  some empty = let e : is_nameless output ≡ false = not-true _ parts.0 in absurd (let k : is_nameless [] ≡ false = subst (λ o. is_nameless o ≡ false) empty e in cc)

  free : Free slash output
  free = no_slash output (not-true _ parts.1)

  file_is : library_file output ≡ codes "lib" ++ (library_name output ++ codes ".a")
  file_is = by_name (inner_name output) refl
    where
      by_name : (name : Option (List ℕ)) → inner_name output ≡ name → (if is_some name then output else codes "lib" ++ output ++ codes ".a") ≡ codes "lib" ++ (unwrap_or name output ++ codes ".a")
      by_name None h = refl
      by_name (Some name) h = unframed output name h

  name_some : library_name output ≢ []
  name_some = by_name (inner_name output) refl
    where
      by_name : (name : Option (List ℕ)) → inner_name output ≡ name → unwrap_or name output ≢ []
      by_name None h = some
      by_name (Some name) h = λ empty. never_empty output (h ∙ ap Some empty)

  name_free : Free slash (library_name output)
  name_free = by_name (inner_name output) refl
    where
      by_name : (name : Option (List ℕ)) → inner_name output ≡ name → Free slash (unwrap_or name output)
      by_name None h = free
      by_name (Some name) h =
          let all : Free slash (codes "lib" ++ (name ++ codes ".a")) = subst (Free slash) (unframed output name h) free in
          free_front slash name (codes ".a") (free_behind slash (codes "lib") (name ++ codes ".a") all)

  -- the file names the library
  pub file_named : inner_name (library_file output) ≡ Some (library_name output)
  file_named = ap inner_name file_is ∙ framed (library_name output) name_some

-- ---- its path

-- a folder that is not empty ends with a slash before a name
ends_so : (dir : List ℕ) → 0 < length dir → (front : List ℕ) × (with_separator dir ≡ front ++ slash ∷ [])
ends_so dir long = by_test (length dir == 0 || get_or dir (length dir - 1) 0 == slash) refl
  where
    by_test : (t : Bool) → (length dir == 0 || get_or dir (length dir - 1) 0 == slash) ≡ t → (front : List ℕ) × ((if t then dir else dir ++ slash ∷ []) ≡ front ++ slash ∷ [])
    by_test false e = (dir, refl)
    by_test true e =
        let n = length dir - 1 in (
          take n dir,
          ⊎_elim (λ empty. absurd (omega (arith, eqb-true (length dir) 0 empty)))
              (λ ends. sym (take_all (n + 1) dir (omega arith)) ∙ take_more dir n 0 (omega arith) ∙ ap (λ b. take n dir ++ b ∷ []) (eqb-true (get_or dir n 0) slash ends))
              (or_cases (length dir == 0) (get_or dir n 0 == slash) e),
        )

-- some bytes stay of a text that is trimmed
trims : (path : List ℕ) (n : ℕ) → 0 < trimmed_len path (suc n)
trims path zero = omega arith
trims path (suc n) = by_test (is_trailing path (suc n)) (trims path n)
  where
    by_test : (t : Bool) → 0 < trimmed_len path (suc n) → 0 < (if t then trimmed_len path (suc n) else suc (suc n))
    by_test true h = h
    by_test false h = omega arith

some_left : (b : ℕ) (path : List ℕ) → 0 < length (trim_trailing (b ∷ path))
unfolding trim_trailing
some_left b path = cut (trimmed_len (b ∷ path) (suc (length path))) (trims (b ∷ path) (length path))
  where
    cut : (n : ℕ) → 0 < n → 0 < length (take n (b ∷ path))
    cut zero h = h
    cut (suc n) h = omega arith

-- the parent of a path with a slash is not empty
parent_long : (front : List ℕ) → 0 < length (parent_before_slash front)
parent_long [] = omega arith
parent_long (b ∷ front) = rw (ne_eqb (suc (length front)) 0 (λ e. omega (arith, e))) (some_left b front)

long_stands : (text : List ℕ) → 0 < length text → nonempty (Some text) ≡ Some text
long_stands [] long = absurd (omega arith)
long_stands (b ∷ text) long = refl

-- The library of an output in a folder is linked by its name, and sought in the folder of its path: whatever the
-- target, its path is that of a library.
module _ (target : Info) (dir output : List ℕ) (is : is_output_name output ≡ true) (long : 0 < length dir) where
  abbrev stem : List ℕ
  stem = codes "lib" ++ library_name output

  abbrev path : List ℕ
  path = path_join dir (library_file output)

  abbrev front : List ℕ
  front = (ends_so dir long).0

  stem_free : Free slash stem
  stem_free = free_both slash (codes "lib") (library_name output) ((λ e. omega (arith, e)), ((λ e. omega (arith, e)), ((λ e. omega (arith, e)), tt))) (name_free output is)

  file_dotted : library_file output ≡ dotted stem 97
  file_dotted = file_is output is ∙ sym (append_assoc (codes "lib") (library_name output) (codes ".a"))

  relative : IsRelative (library_file output)
  relative e = let first : get_or (library_file output) 0 0 ≡ 108 = ap (λ f. get_or f 0 0) (file_is output is) in omega (arith, e, first)

  path_is : path ≡ path_of front stem 97
  path_is =
      path_join_relative dir (library_file output) relative ∙ ap (λ d. d ++ library_file output) (ends_so dir long).1
      ∙ append_assoc front (slash ∷ []) (library_file output) ∙ ap (λ f. front ++ slash ∷ f) file_dotted

  other : 97 ≢ slash
  other e = omega (arith, e)

  no_dot : 97 ≢ dot
  no_dot e = omega (arith, e)

  some_stem : 0 < length stem
  some_stem = omega arith

  name_found : path_file_name path ≡ Some (library_file output)
  name_found = ap path_file_name path_is ∙ name_is front stem 97 other no_dot stem_free some_stem ∙ ap Some (sym file_dotted)

  folder_found : path_parent path ≡ Some (parent_before_slash front)
  unfolding path_parent
  folder_found = ap (λ p. option_map (λ split. split.0) (split_last_component p)) path_is ∙ ap (option_map (λ split. split.0)) (split_name front stem 97 other no_dot stem_free some_stem)

  file_found : file_library target (library_file output) ≡ Some (library_name output)
  unfolding file_library
  file_found = rw (file_named output is) refl

  pub library_linked : linked_library target path ≡ Some (library_name output, unwrap_or (path_parent path) [])
  unfolding linked_library
  library_linked =
      let folder : nonempty (path_parent path) ≡ Some (unwrap_or (path_parent path) []) = rw folder_found (long_stands (parent_before_slash front) (parent_long front)) in
      let name : option_and_then (file_library target) (path_file_name path) ≡ Some (library_name output) = ap (option_and_then (file_library target)) name_found ∙ file_found in
      ap₂ pair_of name folder

-- ---- of a build

output_named : (output : List ℕ) → name_refusal output ≡ None → is_output_name output ≡ true
output_named output h = by_test (is_output_name output) h
  where
    by_test : (t : Bool) → (if t then None else Some (Argument Output)) ≡ None → t ≡ true
    by_test true h = refl
    by_test false h = absurd (cc)

folder_long : (dir : Option (List ℕ)) → out_dir_refusal dir ≡ None → 0 < length (unwrap_or dir [])
folder_long None h = absurd (cc)
folder_long (Some []) h = absurd (cc)
folder_long (Some (b ∷ dir)) h = omega arith

both_passed : {X : Type 0} (first second : Option X) → first_of first second ≡ None → (first ≡ None) × (second ≡ None)
both_passed None second h = (refl, h)
both_passed (Some x) second h = absurd (cc)

-- Where the checks before an archive pass, the library of the output is linked by its name, by any settings with that
-- environment.
module _ (set : BuildConfig) (env : EnvSeen) (output : List ℕ) (passed : early_refusal set env output ≡ None) where
  passes : (name_refusal output ≡ None) × (out_dir_refusal (out_dir_of set env) ≡ None)
  unfolding early_refusal intermediate_refusal
  passes =
      let name = both_passed (name_refusal output) _ passed in
      let sources = both_passed (first_of (out_dir_refusal (out_dir_of set env)) (sources_refusal (object_in set env) set.files)) _ name.1 in
      (name.0, (both_passed (out_dir_refusal (out_dir_of set env)) _ sources.0).0)

  pub output_linked : (target : Info) → linked_library target (library_in set env output) ≡ Some (library_name output, unwrap_or (path_parent (library_in set env output)) [])
  output_linked target = library_linked target (unwrap_or (out_dir_of set env) []) output (output_named output passes.0) (folder_long (out_dir_of set env) passes.1)

  -- so its path is never refused
  pub path_accepted : (other : BuildConfig) → path_refusal other env (library_in set env output) ≡ None
  path_accepted other = rw (output_linked (target_info other env)) refl
