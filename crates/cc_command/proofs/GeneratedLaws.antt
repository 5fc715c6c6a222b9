-- The settings of a large run are valid, whatever a compiler answers.
use Rattle.std.proofs.Common.{◌≡◌, ◌≢◌, ◌∙◌, refl, sym, ap, subst, ℕ, zero, suc, ◌+◌, ◌^◌, ◌<◌, ◌≤◌, List, [], ◌∷◌, ◌++◌, length, map, Bool, false, Option, Some, None, IsSome, arith, codes}
use Rattle.std.specs.List.{AllByRecursion}
use Rattle.std.specs.Path.{path_file_name, split_last_component, trim_trailing, rsplit_once}
use Rattle.std.proofs.lemmas.Bool.{false≢true}
use Rattle.std.proofs.Math.Numerals.{add-one}
use Rattle.std.proofs.lemmas.List.{map-append, length-append, length-map}
use Rattle.cc_plan.specs.LibForm.{is_lib, has_one_form}
use Rattle.cc_flags.specs.ArchiveNames.{is_msvc}
use Rattle.cc_env.specs.Snapshot.{last_value}
use Rattle.cc_flags.specs.DefaultWords.{is_qnx, is_wasm_linux}
use Rattle.cc_host.specs.Question.{Look}
use Rattle.cc_target.specs.Targets.{line_of, lines}
use Rattle.cc_text.specs.Within.{is_within}
use Rattle.cc_plan.specs.Archive.{archiver_of}
use Rattle.cc_plan.specs.Libtool.{is_libtool}
use Rattle.cc_text.specs.Batches.{batches_of}
use Rattle.cc_plan.specs.Link.{link_lines as lines_of, printed_links}
use Rattle.cc_flags.specs.LinkLines.{lines_by}
use Rattle.cc_flags.specs.Names.{is_output_name}
use Rattle.cc_flags.specs.Object.{object_path}
use Rattle.cc_plan.specs.Plan.{objects_of, compiles_of, archives_of, indexes_of, link_lines, run_has_one_form}
use Rattle.cc_flags.specs.Target.{target_info, known_info}
use Rattle.cc_plan.specs.Valid.{IsNoneOf, AreApart, Valid}
use Rattle.cc_command.specs.Generated.{gen_source, gen_sources, gen_settings, gen_name, gen_objects, no_variables}
use Rattle.cc_command.proofs.GeneratedObjects.{source_name, object_injective}

none_more : (t y : List ℕ) (xs : List (List ℕ)) → IsNoneOf t xs → t ≢ y → IsNoneOf t (xs ++ y ∷ [])
none_more t y [] p q = (q, tt)
none_more t y (x ∷ xs) p q = (p.0, none_more t y xs p.1 q)

-- one more text that is none of those before it
apart_more : (y : List ℕ) (xs : List (List ℕ)) → AreApart xs → AllByRecursion (λ x. x ≢ y) xs → AreApart (xs ++ y ∷ [])
apart_more y [] p q = (tt, tt)
apart_more y (x ∷ xs) p q = (none_more x y xs p.0 q.0, apart_more y xs p.1 q.1)

every_more : (P : List ℕ → Type 0) (y : List ℕ) (xs : List (List ℕ)) → AllByRecursion P xs → P y → AllByRecursion P (xs ++ y ∷ [])
every_more P y [] p q = (q, tt)
every_more P y (x ∷ xs) p q = (p.0, every_more P y xs p.1 q)

abbrev pub object_at : List ℕ → List ℕ
object_at source = object_path [] None (codes "/gen") source

map_more : (i : ℕ) → map object_at (gen_sources i ++ gen_source i ∷ []) ≡ map object_at (gen_sources i) ++ object_at (gen_source i) ∷ []
map_more i = map-append object_at (gen_sources i) (gen_source i ∷ [])

-- the object of a later source is none of those before it
objects_differ : (n m : ℕ) → n ≤ m → m < 2 ^ 64 → AllByRecursion (λ x. x ≢ object_at (gen_source m)) (map object_at (gen_sources n))
unfolding gen_sources
objects_differ zero m le lt = tt
objects_differ (suc i) m le lt =
    subst (AllByRecursion (λ x. x ≢ object_at (gen_source m))) (sym (map_more i))
    (every_more (λ x. x ≢ object_at (gen_source m)) (object_at (gen_source i)) (map object_at (gen_sources i)) (objects_differ i m (omega arith) lt)
    (λ e. omega (arith, object_injective i m (omega arith) lt e)))

pub objects_apart : (n : ℕ) → n < 2 ^ 64 → AreApart (map object_at (gen_sources n))
unfolding gen_sources
objects_apart zero lt = tt
objects_apart (suc i) lt =
    subst AreApart (sym (map_more i))
    (apart_more (object_at (gen_source i)) (map object_at (gen_sources i)) (objects_apart i (omega arith)) (objects_differ i i (omega arith) (omega arith)))

is_some_name : (name : Option (List ℕ)) (x : List ℕ) → name ≡ Some x → IsSome name
is_some_name name x e = rw e refl

pub sources_named : (n : ℕ) → n < 2 ^ 64 → AllByRecursion (λ source. IsSome (path_file_name source)) (gen_sources n)
unfolding gen_sources
sources_named zero lt = tt
sources_named (suc i) lt = every_more (λ source. IsSome (path_file_name source)) (gen_source i) (gen_sources i) (sources_named i (omega arith)) (is_some_name (path_file_name (gen_source i)) _ (source_name i (omega arith)))

-- the target has a row, and is not one of those that want more
not_qnx : (count : ℕ) → is_qnx (target_info (gen_settings count) no_variables) ≡ false
unfolding known_info last_value line_of lines is_qnx
not_qnx count = refl

not_wasm : (count : ℕ) → is_wasm_linux (target_info (gen_settings count) no_variables) ≡ false
unfolding known_info last_value line_of lines is_wasm_linux
not_wasm count = refl

pub not_libtool : (count : ℕ) (look : Look) → is_libtool (archiver_of (gen_settings count) no_variables look) ≡ false
unfolding is_libtool archiver_of path_file_name split_last_component trim_trailing rsplit_once is_within
not_libtool count look = refl

pub not_msvc : (count : ℕ) → is_msvc (target_info (gen_settings count) no_variables) ≡ false
unfolding known_info last_value line_of lines
not_msvc count = refl

not_lib : (count : ℕ) (look : Look) → is_lib (target_info (gen_settings count) no_variables) (archiver_of (gen_settings count) no_variables look) ≡ false
unfolding is_lib
not_lib count look = rw (not_msvc count) refl

-- its archiver has two forms
pub has_two_forms : (count : ℕ) (look : Look) → run_has_one_form (gen_settings count) no_variables look ≡ false
unfolding run_has_one_form has_one_form
has_two_forms count look = rw (not_libtool count look, not_lib count look) refl

-- the settings of so many sources are valid, whatever the verdicts
pub gen_valid : (count : ℕ) (look : Look) → count < 2 ^ 64 → Valid (gen_settings count) no_variables look gen_name
unfolding is_output_name known_info line_of lines last_value
gen_valid count look small = record {
  name = refl;
  out_dir = tt;
  named = sources_named count small;
  apart = objects_apart count small;
  others = tt;
  enabled = refl;
  target = (refl, refl);
  host = refl;
  level = λ some. refl;
  variant = λ some wanted gnu qnx. absurd (false≢true (sym (not_qnx count) ∙ qnx));
  sysroot = λ some wanted named wasm. absurd (false≢true (sym (not_wasm count) ∙ wasm));
  archiver = λ none. absurd (cc);
  listed = λ libtool. absurd (false≢true (sym (not_libtool count look) ∙ libtool));
  linked = λ cpp. absurd (cc);
  rustflags = λ some. tt;
}

-- ---- how many

-- one source more
pub sources_next : (i : ℕ) → gen_sources (i + 1) ≡ gen_sources i ++ gen_source i ∷ []
unfolding gen_sources
sources_next i = ap gen_sources (add-one i)

pub sources_count : (count : ℕ) → length (gen_sources count) ≡ count
unfolding gen_sources
sources_count zero = refl
sources_count (suc i) = length-append (gen_sources i) (gen_source i ∷ []) ∙ ap (λ n. n + 1) (sources_count i) ∙ add-one i

-- one compile command a source
pub compiles_count : (count : ℕ) (look : Look) → length (compiles_of (gen_settings count) no_variables look) ≡ count
compiles_count count look =
    length-map (objects_of (gen_settings count) no_variables) _ ∙ length-map (gen_sources count) _ ∙ sources_count count

-- one archive command a batch, where the first form is taken
pub archives_count : (count : ℕ) (look : Look) (here : List ℕ) → length (archives_of (gen_settings count) no_variables look false here gen_name) ≡ length (batches_of (gen_objects count))
unfolding archives_of
archives_count count look here = rw (not_libtool count look, not_lib count look) (length-map (batches_of (gen_objects count)) _)

-- one command of the index
pub indexes_count : (count : ℕ) (look : Look) → length (indexes_of (gen_settings count) no_variables look false gen_name) ≡ 1
unfolding indexes_of
indexes_count count look = rw (not_libtool count look, not_msvc count) refl

-- two link lines, which are printed whether or not other runs printed them
pub links_count : (count : ℕ) (look : Look) (is_first : Bool) → length (printed_links is_first (link_lines (gen_settings count) no_variables look gen_name)) ≡ 2
unfolding link_lines lines_of lines_by
links_count count look is_first = refl
