-- What a user is warned of, as far as the settings and the compiler decide it.
use Rattle.std.specs.Prelude.{ℕ, Bool, List, [], ◌∷◌, ◌++◌, ◌&&◌, ◌||◌, is_none, codes, if◌then◌else◌}
use Rattle.cc_env.specs.Env.{EnvSeen}
use Rattle.cc_text.specs.Words.{when}
use Rattle.cc_text.specs.declared.family.ToolFamily.{ToolFamily}
use Rattle.cc_text.specs.Families.{is_cl, is_gnu}
use Rattle.cc_flags.specs.declared.maps.Maps.{Maps}
use Rattle.cc_flags.specs.Compilation.{CompilationSeen}
use Rattle.cc_flags.specs.Given.{environment_flags}
use Rattle.cc_flags.specs.Texts.{is}
use Rattle.cc_flags.specs.Inherited.{lost_words}
use Rattle.cc_flags.specs.MapWords.{map_lacks}
use Rattle.cc_flags.specs.SettingWords.{leaves_off}
use Rattle.cc_flags.specs.ToolWords.{rust_words, trimmed, remapped}
use Rattle.cc_flags.specs.declared.settings.BuildConfig.{BuildConfig}

-- messages of the compiler are not translated
abbrev pub language_variable : ToolFamily → List ℕ × List ℕ
language_variable family = if is_cl family then (codes "VSLANG", codes "1033") else (codes "LC_ALL", codes "C")

-- GCC was found for a target of the Visual Studio tools
unfoldable pub gnu_warnings : CompilationSeen → List (List ℕ)
gnu_warnings c =
    when (is_none c.set.compiler && is c.target.env "msvc" && is_gnu c.compiler.family)
    (codes "GNU compiler is not supported for this target" ∷ [])

-- what the compiler lacks of some maps of paths
abbrev pub lacks_of : CompilationSeen → List (List ℕ) → Maps → List (List ℕ)
lacks_of c supported maps = map_lacks c.compiler.choice.path c.compiler.family supported maps

-- what the compiler lacks of what it is asked about
unfoldable pub lacks_by : CompilationSeen → List (List ℕ) → List (List ℕ)
lacks_by c supported =
    lost_words supported (rust_words c) ++ lacks_of c supported (trimmed c) ++ lacks_of c supported (remapped c)

-- the text of the warning of flags that are left off
abbrev pub link_warning : Bool → List (List ℕ)
link_warning warns = when warns (codes "Ignoring linker flags after /link" ∷ [])

-- flags are left off that are for the linker: a user is warned of it at each call, or at the first
unfoldable pub link_warnings : BuildConfig → EnvSeen → ToolFamily → Bool → List (List ℕ)
link_warnings set env family is_first =
    link_warning (leaves_off family set.flags (environment_flags set env) && (set.repeat_lines || is_first))
