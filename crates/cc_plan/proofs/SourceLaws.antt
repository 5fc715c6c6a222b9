-- One source more, in the order in which sources are taken.
use Rattle.std.proofs.Common.{◌≡◌, ℕ, suc, ◌+◌, ◌<◌, List, [], ◌∷◌, ◌++◌, length, take, drop, get_or, map, Bool, true, false, Option, Some, None, is_none, bytes_eq, if◌then◌else◌, refl, sym, ◌∙◌, ap, subst, IsTrue, ◌↔◌, unwrap_or, ◌⊎◌, inl, inr, add-one, arith, zero-add}
use Rattle.std.proofs.Math.Seq.{drop-cons}
use Rattle.std.proofs.lemmas.Grind.{take_at_read}
use Rattle.std.proofs.lemmas.List.{length-take-le}
use Rattle.std.specs.Option.{option_map}
use Rattle.std.specs.Map.{update}
use Rattle.std.specs.Path.{path_file_name}
use Rattle.std.proofs.lemmas.Slice.Eq.{bytes_eq-Decides}
use Rattle.cc_env.specs.Env.{EnvSeen}
use Rattle.cc_flags.specs.Blanks.{nonempty}
use Rattle.cc_flags.specs.Given.{out_dir_of, temp_folder, probe_folder, first_of}
use Rattle.cc_flags.specs.Object.{object_path}
use Rattle.cc_plan.specs.declared.error.PlanError.{PlanError}
use Rattle.cc_flags.specs.declared.settings.BuildConfig.{BuildConfig}
use Rattle.cc_plan.specs.Refusal.{out_dir_refusal, intermediate_refusal, is_empty, place_from, earlier_place, source_refusal, sources_after, sources_refusal}
use Rattle.cc_plan.specs.declared.error.ArgumentCause.{ArgumentCause}
use Rattle.cc_plan.specs.declared.error.ArgumentCause.TheVariants.{NoFileName, SameObject}
use Rattle.cc_plan.specs.declared.error.PlanError.TheVariants.{Argument, NoMemory as WantsMemory}

-- the source at a place, and then the rest
pub next_source : (path : List ℕ → List ℕ) (files : List (List ℕ)) (i : ℕ) (source : List ℕ) → i < length files → source ≡ get_or files i source → sources_after path (take i files) (drop i files) ≡ first_of (source_refusal path (take i files) source) (sources_after path (take (i + 1) files) (drop (i + 1) files))
next_source path files i source within is =
    let d : drop i files ≡ source ∷ drop (i + 1) files = drop-cons files i source within ∙ ap (λ s. s ∷ drop (suc i) files) (sym is) ∙ ap (λ n. source ∷ drop n files) (sym (add-one i)) in
    let t : take (i + 1) files ≡ take i files ++ source ∷ [] = (take_at_read files i source within).1 ∙ ap (λ s. take i files ++ s ∷ []) (sym is) in
    ap (λ l. sources_after path (take i files) l) d ∙ ap (λ l. first_of (source_refusal path (take i files) source) (sources_after path l (drop (i + 1) files))) (sym t)

-- the source at a place is the first one with something wrong
pub refused_source : (path : List ℕ → List ℕ) (files : List (List ℕ)) (i : ℕ) (source : List ℕ) (cause : ArgumentCause) → i < length files → source ≡ get_or files i source → sources_after path (take i files) (drop i files) ≡ sources_after path [] files → source_refusal path (take i files) source ≡ Some cause → sources_refusal path files ≡ Some (Argument cause)
refused_source path files i source cause within is rest refused =
    ap (λ r. option_map Argument r) (sym rest ∙ next_source path files i source within is ∙ ap (λ r. first_of r (sources_after path (take (i + 1) files) (drop (i + 1) files))) refused)

-- nothing is wrong with the source at a place
pub taken_source : (path : List ℕ → List ℕ) (files : List (List ℕ)) (i : ℕ) (source : List ℕ) → i < length files → source ≡ get_or files i source → sources_after path (take i files) (drop i files) ≡ sources_after path [] files → source_refusal path (take i files) source ≡ None → sources_after path (take (i + 1) files) (drop (i + 1) files) ≡ sources_after path [] files
taken_source path files i source within is rest fine =
    ap (λ r. first_of r (sources_after path (take (i + 1) files) (drop (i + 1) files))) (sym fine) ∙ sym (next_source path files i source within is) ∙ rest

pub nameless_source : (path : List ℕ → List ℕ) (files : List (List ℕ)) (i : ℕ) (source : List ℕ) → i < length files → path_file_name source ≡ None → source_refusal path (take i files) source ≡ Some (NoFileName i)
unfolding source_refusal
nameless_source path files i source within none =
    let n : length (take i files) ≡ i = length-take-le i files (omega arith) in
    rw (none, n) refl

pub doubled_source : (path : List ℕ → List ℕ) (files : List (List ℕ)) (i place : ℕ) (source : List ℕ) → i < length files → is_none (path_file_name source) ≡ false → place_from 0 (path source) (map path (take i files)) ≡ Some place → source_refusal path (take i files) source ≡ Some (SameObject place i)
unfolding source_refusal earlier_place
doubled_source path files i place source within named at =
    let n : length (take i files) ≡ i = length-take-le i files (omega arith) in
    rw (named, at, n) refl

pub fresh_source : (path : List ℕ → List ℕ) (files : List (List ℕ)) (i : ℕ) (source : List ℕ) → is_none (path_file_name source) ≡ false → place_from 0 (path source) (map path (take i files)) ≡ None → source_refusal path (take i files) source ≡ None
unfolding source_refusal earlier_place
fresh_source path files i source named at = rw (named, at) refl

-- one text more behind others
place_more : (n : ℕ) (text : List ℕ) (texts : List (List ℕ)) (t : List ℕ) → place_from n text (texts ++ t ∷ []) ≡ first_of (place_from n text texts) (if bytes_eq text t then Some (n + length texts) else None)
place_more n text [] t = grind arith
place_more n text (u ∷ us) t =
    elim (bytes_eq text u) as (λ b. (if b then Some n else place_from (n + 1) text (us ++ t ∷ [])) ≡ first_of (if b then Some n else place_from (n + 1) text us) (if bytes_eq text t then Some (n + length (u ∷ us)) else None)) [
      | true ↦ refl
      | false ↦ place_more (n + 1) text us t ∙ ap (λ k. first_of (place_from (n + 1) text us) (if bytes_eq text t then Some k else None)) (grind arith)
    ]

same : (xs ys : List ℕ) → bytes_eq xs ys ≡ true → xs ≡ ys
same xs ys h = (bytes_eq-Decides xs ys).0 h

turned : (xs ys : List ℕ) → bytes_eq xs ys ≡ false → bytes_eq ys xs ≡ false
turned xs ys h =
    elim (bytes_eq ys xs) as (λ b. (b ≡ true → ys ≡ xs) → b ≡ false) [
      | true ↦ λ f. let e : xs ≡ ys = sym (f refl) in let t : bytes_eq xs ys ≡ true = (bytes_eq-Decides xs ys).1 e in absurd (cc)
      | false ↦ λ f. refl
    ] (same ys xs)

none_first : {X : Type 0} (a b : Option X) → a ≡ None → first_of a b ≡ b
none_first None b h = refl
none_first (Some x) b h = absurd (cc)

first_none : {X : Type 0} (a : Option X) → first_of a None ≡ a
first_none None = refl
first_none (Some x) = refl

-- a look-up that knows the places of some texts knows them with a new one behind
pub places_more : (old : List ℕ → Option ℕ) (texts : List (List ℕ)) (t : List ℕ) (i : ℕ) → i ≡ length texts → ((text : List ℕ) → old text ≡ place_from 0 text texts) → old t ≡ None → (text : List ℕ) → update bytes_eq old t (Some i) text ≡ place_from 0 text (texts ++ t ∷ [])
places_more old texts t i length_is known new text =
    by_test (bytes_eq t text) refl
  where
    by_test : (b : Bool) → bytes_eq t text ≡ b → update bytes_eq old t (Some i) text ≡ place_from 0 text (texts ++ t ∷ [])
    by_test true e =
        let is : t ≡ text = same t text e in
        let none : place_from 0 text texts ≡ None = sym (known text) ∙ ap old (sym is) ∙ new in
        let eq : bytes_eq text t ≡ true = (bytes_eq-Decides text t).1 (sym is) in
        rw e (sym (place_more 0 text texts t ∙ none_first _ _ none ∙ rw eq (ap Some (zero-add (length texts) ∙ sym length_is))))
    by_test false e =
        rw e (known text ∙ sym (place_more 0 text texts t ∙ rw (turned t text e) (first_none (place_from 0 text texts))))

first_some : {X : Type 0} (a b : Option X) (x : X) → a ≡ Some x → first_of a b ≡ Some x
first_some None b x h = absurd (cc)
first_some (Some y) b x h = h

-- where the out dir passes, a refusal of the sources is that of both
pub intermediate_by_sources : (set : BuildConfig) (env : EnvSeen) (dir : List ℕ) (e : PlanError) → out_dir_of set env ≡ Some dir → out_dir_refusal (out_dir_of set env) ≡ None → (e ≡ WantsMemory) ⊎ (sources_refusal (object_path env.inherited set.source_root dir) set.files ≡ Some e) → (e ≡ WantsMemory) ⊎ (intermediate_refusal set env ≡ Some e)
unfolding intermediate_refusal
intermediate_by_sources set env dir e is passed (inl memory) = inl memory
intermediate_by_sources set env dir e is passed (inr refused) =
    let path : unwrap_or (out_dir_of set env) [] ≡ dir = ap (λ d. unwrap_or d []) is in
    inr (rw passed (subst (λ (d : List ℕ). sources_refusal (λ source. object_path env.inherited set.source_root d source) set.files ≡ Some e) (sym path) refused))

-- an out dir that passes is the folder of probe files
probes_in : (value : Option (List ℕ)) (other dir : List ℕ) → value ≡ Some dir → out_dir_refusal value ≡ None → dir ≡ unwrap_or (nonempty value) other
probes_in None other dir is passed = absurd (cc)
probes_in (Some []) other dir is passed = absurd (cc)
probes_in (Some (b ∷ bs)) other dir is passed = cc

pub probes_in_out_dir : (set : BuildConfig) (env : EnvSeen) (dir : List ℕ) → out_dir_of set env ≡ Some dir → out_dir_refusal (out_dir_of set env) ≡ None → dir ≡ probe_folder set env
unfolding probe_folder
probes_in_out_dir set env dir is passed = probes_in (out_dir_of set env) (temp_folder env) dir is passed

-- there is a source, where a test for none says no
pub some_files : (files : List (List ℕ)) (empty : Bool) → (IsTrue empty ↔ (files ≡ [])) → empty ≡ false → is_empty files ≡ false
some_files [] empty same is = absurd (let t : IsTrue empty = same.1 refl in cc)
some_files (file ∷ files) empty same is = refl
