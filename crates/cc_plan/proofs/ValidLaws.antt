-- Valid settings are not refused.
use Rattle.std.proofs.Common.{◌≡◌, ◌≢◌, ℕ, ◌+◌, List, [], ◌∷◌, ◌++◌, map, find, codes, Bool, true, false, not, ◌&&◌, Option, Some, None, IsSome, is_none, bytes_eq, if◌then◌else◌, refl, sym, ap, subst, append_assoc}
use Rattle.std.specs.List.{AllByRecursion, list_all}
use Rattle.std.specs.Option.{option_map, option_and_then}
use Rattle.std.specs.Path.{path_file_name}
use Rattle.std.proofs.lemmas.Slice.Eq.{bytes_eq-Decides}
use Rattle.cc_env.specs.Env.{EnvSeen}
use Rattle.cc_env.specs.Snapshot.{last_value}
use Rattle.cc_host.specs.Question.{Look}
use Rattle.cc_text.specs.Families.{is_gnu_like}
use Rattle.cc_flags.specs.DefaultWords.{is_qnx, qnx_variant, lacks_qnx_variant, is_wasm_linux}
use Rattle.cc_flags.specs.Fields.{is_invalid, invalid_pair, refusal_of}
use Rattle.cc_flags.specs.Pairs.{pairs_of}
use Rattle.cc_flags.specs.declared.pairs.Pair.{Pair}
use Rattle.cc_target.specs.Targets.{Info}
use Rattle.cc_plan.specs.Archive.{archiver_of}
use Rattle.cc_plan.specs.ArchiveTool.{variable_tool}
use Rattle.cc_flags.specs.ArchiveNames.{qnx_arch, lacks_qnx_arch}
use Rattle.cc_flags.specs.Compilation.{CompilationSeen}
use Rattle.cc_flags.specs.Given.{out_dir_of, target_of, host_of, level_of, has_no_defaults, first_of}
use Rattle.cc_flags.specs.Inherited.{inherited_text}
use Rattle.cc_plan.specs.Checks.{inherited_refusal, plan_refusal, first_refusal, qnx_refusal, sysroot_refusal, clang_refusal, defaults_refusal}
use Rattle.cc_plan.specs.Libtool.{list_refusal}
use Rattle.cc_plan.specs.Plan.{archived_of, archived_refusal, archive_refusal}
use Rattle.cc_plan.specs.Planned.{planned, defaults_refusal_of}
use Rattle.cc_flags.specs.Target.{target_info, known_info, target_name}
use Rattle.cc_plan.specs.Tool.{defaults_refusal_by}
use Rattle.cc_flags.specs.ToolWords.{names_target, musl_sysroot}
use Rattle.cc_flags.specs.declared.archive_names.ArchiveTool.TheVariants.{Archiver}
use Rattle.cc_plan.specs.declared.error.PlanError.{PlanError}
use Rattle.cc_plan.specs.declared.error.PlanError.TheVariants.{QnxArch, NotSet}
use Rattle.cc_plan.specs.Refusal.{place_from, earlier_place, source_refusal, sources_after, out_dir_refusal, unset, target_refusal, platform_refusal, given_refusal, refusal_by, tool_refusal, intermediate_refusal, early_refusal, late_refusal, object_in, library_in, is_empty, archiver_refusal, musl_variable, cpp_refusal, link_refusal, qnx_arch_refusal, found_refusal, known_refusal, choice_refusal, look_up_refusal}
use Rattle.cc_flags.specs.StdlibLines.{links_cpp}
use Rattle.cc_plan.specs.Added.{added_refusal}
use Rattle.cc_plan.proofs.AddedLaws.{added_accepted}
use Rattle.cc_plan.proofs.LibtoolLaws.{list_accepted}
use Rattle.cc_plan.specs.Valid.{IsNoneOf, AreApart, IsKnown, IsSetNonempty, HasVariant, HasSysroot, Parse, Valid}
use Rattle.cc_flags.specs.declared.settings.BuildConfig.{BuildConfig}

differs : (xs ys : List ℕ) → xs ≢ ys → bytes_eq xs ys ≡ false
differs xs ys apart =
    elim (bytes_eq xs ys) as (λ b. (b ≡ true → xs ≡ ys) → b ≡ false) [ true ↦ λ f. absurd (apart (f refl)) | false ↦ λ f. refl ] ((bytes_eq-Decides xs ys).0)

no_place : (n : ℕ) (text : List ℕ) (texts : List (List ℕ)) → IsNoneOf text texts → place_from n text texts ≡ None
no_place n text [] h = refl
no_place n text (t ∷ ts) h = rw (differs text t h.0) (no_place (n + 1) text ts h.1)

-- a text in the middle of texts that differ is none of those before it
other : (t text : List ℕ) (before after : List (List ℕ)) → IsNoneOf t (before ++ text ∷ after) → t ≢ text
other t text [] after h = h.0
other t text (b ∷ before) after h = other t text before after h.1

new : (before : List (List ℕ)) (text : List ℕ) (after : List (List ℕ)) → AreApart (before ++ text ∷ after) → IsNoneOf text before
new [] text after h = tt
new (b ∷ before) text after h = ((λ e. other b text before after h.0 (sym e)), new before text after h.1)

named : {X : Type 0} (name : Option X) → IsSome name → is_none name ≡ false
named None h = absurd (cc)
named (Some name) h = refl

map_both : (f : List ℕ → List ℕ) (xs ys : List (List ℕ)) → map f (xs ++ ys) ≡ map f xs ++ map f ys
map_both f [] ys = refl
map_both f (x ∷ xs) ys = ap (λ l. f x ∷ l) (map_both f xs ys)

no_refusal : (path : List ℕ → List ℕ) (earlier : List (List ℕ)) (source : List ℕ) → IsSome (path_file_name source) → IsNoneOf (path source) (map (path) earlier) → source_refusal path earlier source ≡ None
unfolding source_refusal earlier_place
no_refusal path earlier source has fresh = rw (named (path_file_name source) has, no_place 0 (path source) (map (path) earlier) fresh) refl

all_taken : (path : List ℕ → List ℕ) (earlier sources : List (List ℕ)) → AllByRecursion (λ source. IsSome (path_file_name source)) sources → AreApart (map (path) (earlier ++ sources)) → sources_after path earlier sources ≡ None
all_taken path earlier [] has apart = refl
all_taken path earlier (source ∷ sources) has apart =
    let split : AreApart (map (path) earlier ++ path source ∷ map (path) sources) = subst AreApart (map_both (path) earlier (source ∷ sources)) apart in
    let fresh = new (map (path) earlier) (path source) (map (path) sources) split in
    rw (no_refusal path earlier source has.0 fresh)
    (all_taken path (earlier ++ source ∷ []) sources has.1 (subst (λ (l : List (List ℕ)). AreApart (map (path) l)) (sym (append_assoc earlier (source ∷ []) sources)) apart))

dir_set : (dir : Option (List ℕ)) → IsSetNonempty dir → out_dir_refusal dir ≡ None
dir_set None h = absurd h
dir_set (Some []) h = absurd h
dir_set (Some (b ∷ bs)) h = refl

is_set : (name : List ℕ) (value : Option (List ℕ)) → IsSome value → unset name value ≡ None
is_set name None h = absurd (cc)
is_set name (Some value) h = refl

is_known : (set : BuildConfig) (env : EnvSeen) → IsKnown set env → target_refusal set env ≡ None
unfolding target_refusal
is_known set env h = rw (is_set (codes "TARGET") (target_of set env) h.0, named (known_info set env (target_name set env)) h.1) refl

-- a name that stands where it is needed isn't lacking
no_lack : {X : Type 0} (x : X) (a b : Bool) (name : Option (List ℕ)) → (a ≡ true → b ≡ true → IsSome name) → (if a && b && is_none name then Some x else None) ≡ None
no_lack x true true None h = let there = h refl refl in absurd (cc)
no_lack x true true (Some name) h = refl
no_lack x true false name h = refl
no_lack x false true name h = refl
no_lack x false false name h = refl

no_lack_within : {X : Type 0} (x : X) (a b : Bool) (value : Option (List ℕ)) → (a ≡ true → b ≡ true → IsSome value) → (if a then (if b && is_none value then Some x else None) else None) ≡ None
no_lack_within x true true None h = let there = h refl refl in absurd (cc)
no_lack_within x true true (Some value) h = refl
no_lack_within x true false value h = refl
no_lack_within x false b value h = refl

has_variant : (c : CompilationSeen) → HasVariant c → qnx_refusal c.compiler.family c.target ≡ None
unfolding qnx_refusal lacks_qnx_variant
has_variant c h = no_lack (QnxArch c.target.full_arch) (is_gnu_like c.compiler.family) (is_qnx c.target) (qnx_variant c.target.full_arch) h

has_sysroot : (c : CompilationSeen) → HasSysroot c → clang_refusal c ≡ None
unfolding clang_refusal sysroot_refusal
has_sysroot c h = no_lack_within (NotSet (codes "WASM_MUSL_SYSROOT")) (names_target c) (is_wasm_linux c.target) (musl_sysroot c) h

unless_left_out : (no_defaults : Bool) (first second : Option PlanError) → (no_defaults ≡ false → first ≡ None) → (no_defaults ≡ false → second ≡ None) → (if no_defaults then None else first_refusal first second) ≡ None
unless_left_out true first second f s = refl
unless_left_out false first second f s = rw (f refl, s refl) refl

has_words : (c : CompilationSeen) → (has_no_defaults c.set c.env ≡ false → HasVariant c) → (has_no_defaults c.set c.env ≡ false → HasSysroot c) → defaults_refusal c ≡ None
unfolding defaults_refusal
has_words c variant sysroot = unless_left_out (has_no_defaults c.set c.env) (qnx_refusal c.compiler.family c.target) (clang_refusal c) (λ e. has_variant c (variant e)) (λ e. has_sysroot c (sysroot e))

none_found : (test : Pair → Bool) (pairs : List Pair) → list_all (λ pair. not (test pair)) pairs ≡ true → find test pairs ≡ None
none_found test [] h = refl
none_found test (pair ∷ pairs) h = step (test pair) h (none_found test pairs)
  where
    step : (b : Bool) → (not b && list_all (λ p. not (test p)) pairs) ≡ true → (list_all (λ p. not (test p)) pairs ≡ true → find test pairs ≡ None) → (if b then Some pair else find test pairs) ≡ None
    step true e rest = absurd (cc)
    step false e rest = rest e

parsed : (text : Option (List ℕ)) → Parse text → option_map plan_refusal (option_and_then refusal_of text) ≡ None
unfolding invalid_pair
parsed None h = refl
parsed (Some text) h = rw (none_found is_invalid (pairs_of text) h) refl

late_valid : (set : BuildConfig) (env : EnvSeen) (look : Look) (empty : Bool) → IsKnown set env → IsSome (host_of set env) → (empty ≡ false → IsSome (level_of set env)) → (empty ≡ false → defaults_refusal_of set env look ≡ None) → (empty ≡ false → inherited_refusal set.inherit_rustflags env.inherited ≡ None) → (if empty then platform_refusal set env else tool_refusal set env look) ≡ None
unfolding platform_refusal given_refusal refusal_by
late_valid set env look true target host level words rustflags = rw (is_known set env target, is_set _ (host_of set env) host) refl
late_valid set env look false target host level words rustflags =
    rw (is_set _ (level_of set env) (level refl), is_known set env target, words refl, is_set _ (host_of set env) host, rustflags refl) refl

-- valid settings pass the checks before the folder is made
pub early_accepted : (set : BuildConfig) (env : EnvSeen) (look : Look) (output : List ℕ) → Valid set env look output → early_refusal set env output ≡ None
unfolding early_refusal intermediate_refusal
early_accepted set env look output v =
    let dir : out_dir_refusal (out_dir_of set env) ≡ None = dir_set (out_dir_of set env) v.out_dir in
    let sources : sources_after (object_in set env) [] set.files ≡ None = all_taken (object_in set env) [] set.files v.named v.apart in
    let added : added_refusal (library_in set env output) set.objects ≡ None = added_accepted (library_in set env output) set.objects v.others in
    rw (v.name, dir, sources, added) refl

-- what the words of the target need is there
words_accepted : (set : BuildConfig) (env : EnvSeen) (look : Look) (output : List ℕ) → Valid set env look output → is_empty set.files ≡ false → defaults_refusal_of set env look ≡ None
unfolding defaults_refusal_by
words_accepted set env look output v some = has_words (planned set env look) (v.variant some) (v.sysroot some)

-- and the flags of Rust code parse
flags_accepted : (set : BuildConfig) (env : EnvSeen) (look : Look) (output : List ℕ) → Valid set env look output → is_empty set.files ≡ false → inherited_refusal set.inherit_rustflags env.inherited ≡ None
unfolding inherited_refusal
flags_accepted set env look output v some = parsed (inherited_text set.inherit_rustflags env.inherited) (v.rustflags some)

-- and those behind it
pub late_accepted : (set : BuildConfig) (env : EnvSeen) (look : Look) (output : List ℕ) → Valid set env look output → late_refusal set env look ≡ None
unfolding late_refusal
late_accepted set env look output v =
    late_valid set env look (is_empty set.files) v.target v.host v.level (words_accepted set env look output v) (flags_accepted set env look output v)

-- a name that stands where it is needed isn't lacking
no_name_lacks : {X : Type 0} (x : X) (b : Bool) (name : Option (List ℕ)) → (b ≡ true → IsSome name) → (if b && is_none name then Some x else None) ≡ None
no_name_lacks x true None h = let there = h refl in absurd (cc)
no_name_lacks x true (Some name) h = refl
no_name_lacks x false name h = refl

has_arch : (target : Info) → (is_qnx target ≡ true → IsSome (qnx_arch target)) → qnx_arch_refusal target ≡ None
unfolding qnx_arch_refusal lacks_qnx_arch
has_arch target h = no_name_lacks (QnxArch target.full_arch) (is_qnx target) (qnx_arch target) h

-- what isn't refused where there is none
where_none : {X : Type 0} (value : Option X) (refusal : Option PlanError) → (value ≡ None → refusal ≡ None) → (if is_none value then refusal else None) ≡ None
where_none None refusal h = h refl
where_none (Some x) refusal h = refl

both_none : (first second : Option PlanError) → first ≡ None → second ≡ None → first_of first second ≡ None
both_none first second f s = rw (f, s) refl

-- and what the archiver wants
pub archiver_accepted : (set : BuildConfig) (env : EnvSeen) (look : Look) (output : List ℕ) → Valid set env look output → archiver_refusal set env look ≡ None
unfolding archiver_refusal look_up_refusal
archiver_accepted set env look output v =
    let found : set.archiver ≡ None → found_refusal Archiver set env look ≡ None = λ none. where_none (variable_tool Archiver set env look) (qnx_arch_refusal (target_info set env)) (λ unnamed. has_arch (target_info set env) (v.archiver none unnamed)) in
    let known : set.archiver ≡ None → known_refusal Archiver set env look ≡ None = λ none. both_none (target_refusal set env) (found_refusal Archiver set env look) (is_known set env v.target) (found none) in
    let choice : choice_refusal Archiver set env look ≡ None = where_none set.archiver (known_refusal Archiver set env look) known in
    both_none (choice_refusal Archiver set env look) (first_of (unset (codes "TARGET") (target_of set env)) (unset (codes "HOST") (host_of set env))) choice
    (both_none (unset (codes "TARGET") (target_of set env)) (unset (codes "HOST") (host_of set env)) (is_set (codes "TARGET") (target_of set env) v.target.0) (is_set (codes "HOST") (host_of set env) v.host))

-- and what an archiver wants of what it archives
pub archived_accepted : (set : BuildConfig) (env : EnvSeen) (look : Look) (output : List ℕ) → Valid set env look output → archived_refusal set env (archiver_of set env look) (archived_of set env) ≡ None
unfolding archived_refusal
archived_accepted set env look output v =
    both_none (list_refusal (archiver_of set env look) (archived_of set env)) (target_refusal set env)
    (list_accepted (archiver_of set env look) (archived_of set env) v.listed) (is_known set env v.target)

-- and what the archive wants
pub archive_accepted : (set : BuildConfig) (env : EnvSeen) (look : Look) (output : List ℕ) → Valid set env look output → archive_refusal set env look ≡ None
unfolding archive_refusal
archive_accepted set env look output v =
    both_none (archiver_refusal set env look) (archived_refusal set env (archiver_of set env look) (archived_of set env))
    (archiver_accepted set env look output v) (archived_accepted set env look output v)

-- a value that stands where it is needed isn't unset
stands_where : (name : List ℕ) (a b : Bool) (value : Option (List ℕ)) → (a ≡ true → b ≡ true → IsSome value) → (if a && b then unset name value else None) ≡ None
stands_where name true true value h = is_set name value (h refl refl)
stands_where name true false value h = refl
stands_where name false true value h = refl
stands_where name false false value h = refl

has_linked : (set : BuildConfig) (env : EnvSeen) → (links_cpp set ≡ true → is_wasm_linux (target_info set env) ≡ true → IsSome (last_value env.inherited musl_variable)) → cpp_refusal set env ≡ None
unfolding cpp_refusal
has_linked set env h = stands_where musl_variable (links_cpp set) (is_wasm_linux (target_info set env)) (last_value env.inherited musl_variable) h

-- and what the link lines want
pub links_accepted : (set : BuildConfig) (env : EnvSeen) (look : Look) (output : List ℕ) → Valid set env look output → link_refusal set env look ≡ None
unfolding link_refusal
links_accepted set env look output v = has_linked set env v.linked
