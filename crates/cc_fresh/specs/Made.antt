-- What a compiled source was made of, as its compiler tells it, and which files are read to find it out.
use Rattle.std.specs.Prelude.{◌≡◌, ◌⊎◌, ℕ, List, [], ◌∷◌, ◌++◌, Bool, Option, Some, None, option_map, codes, Result, Ok, Err}
use Rattle.cc_text.specs.Paths.{with_extension}
use Rattle.cc_text.specs.Words.{when}
use Rattle.cc_host.specs.declared.files.Held.{Held}
use Rattle.cc_host.specs.declared.files.Held.TheVariants.{Absent, Bytes}
use Rattle.cc_fresh.specs.Deps.{read_deps}
use Rattle.cc_fresh.specs.Digests.{digest}
use Rattle.cc_fresh.specs.Reads.{Read}
use Rattle.cc_fresh.specs.declared.deps.DepsError.{DepsError}

-- a file and its digest
abbrev pub Dep : Type 0
Dep = List ℕ × List ℕ

-- the digest of what was read, where there is a file
abbrev pub digest_of : Held → Option (List ℕ)
digest_of Absent = None
digest_of (Bytes bytes) = Some (digest bytes)

-- These files were read one after another, up to the first that is absent. Where none is, these are the files, each
-- with its digest.
abbrev pub ReadNames : List (List ℕ) → List Read → Option (List Dep) → Type 0
ReadNames [] told deps = (told ≡ []) × (deps ≡ Some [])
ReadNames (n ∷ ns) told deps =
    (held : Held) × (rest : List Read) × ((told ≡ (n, held) ∷ rest)
    × (((digest_of held ≡ None) × (rest ≡ []) × (deps ≡ None))
    ⊎ ((d : List ℕ) × (more : Option (List Dep)) × ((digest_of held ≡ Some d) × ReadNames ns rest more
    × (deps ≡ option_map (λ ds. (n, d) ∷ ds) more)))))

-- the names that a compiler tells of, where there are some
abbrev pub names_or_none : Result (List (List ℕ)) DepsError → Option (List (List ℕ))
names_or_none (Ok names) = Some names
names_or_none (Err e) = None

abbrev pub names_in : Held → Option (List (List ℕ))
names_in Absent = None
names_in (Bytes text) = names_or_none (read_deps text)

-- the text that the compiler of an object writes of its files
abbrev pub deps_path : List ℕ → List ℕ
deps_path object = with_extension object (codes "d")

-- the files that are digested for an object whose compiler tells of these: where objects are checked, it comes last
abbrev pub digested : Bool → List ℕ → List (List ℕ) → List (List ℕ)
digested checks object names = names ++ when checks (object ∷ [])

-- That text was read, and then the files that it names, up to the first that is absent, and behind them the object,
-- where objects are checked. These are the files, where the text is one and none is absent.
abbrev pub ReadMade : Bool → List ℕ → List Read → Option (List Dep) → Type 0
ReadMade checks object told deps =
    (held : Held) × (rest : List Read) × ((told ≡ (deps_path object, held) ∷ rest)
    × (((names_in held ≡ None) × (rest ≡ []) × (deps ≡ None))
    ⊎ ((names : List (List ℕ)) × ((names_in held ≡ Some names) × ReadNames (digested checks object names) rest deps))))
