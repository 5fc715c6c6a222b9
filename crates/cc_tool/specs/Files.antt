-- Probe files: which of them a question needs, their names and their contents.
use Rattle.std.specs.Prelude.{◌≡◌, ℕ, Bool, List, [], ◌++◌, Option, Some, None, is_some, codes, if◌then◌else◌}
use Rattle.std.specs.Fmt.{decimal}
use Rattle.std.specs.Path.{path_join}
use Rattle.cc_host.specs.declared.question.Ask.{Ask}
use Rattle.cc_host.specs.declared.question.Ask.TheVariants.{Preprocess, PreprocessDashes, Flag, Libcxx as AsksLibcxx}
use Rattle.cc_tool.specs.declared.kinds.FileKind.{FileKind}
use Rattle.cc_tool.specs.declared.kinds.FileKind.TheVariants.{Family, FlagCheck, CppFlagCheck, Libcxx, Object}

-- what the name of a probe file ends with
abbrev pub suffix_of : FileKind → List ℕ
suffix_of Family = codes "detect_compiler_family.c"
suffix_of FlagCheck = codes "flag_check.c"
suffix_of CppFlagCheck = codes "flag_check.cpp"
suffix_of Libcxx = codes "detect_cpp_stdlib.cpp"
suffix_of Object = codes "flag_check"

-- the source that shows the macros of a family
unfoldable pub family_source : List ℕ
family_source =
    codes "#ifdef __clang__\n\"clang\"\n#endif\n#ifdef __GNUC__\n\"gcc\"\n#endif\n#ifdef __EMSCRIPTEN__\n\"emscripten\"\n#endif\n#ifdef __VXWORKS__\n\"VxWorks\"\n#endif\n"

-- the source that shows the C++ library
unfoldable pub libcxx_source : List ℕ
libcxx_source = codes "#include <cstddef>\n#ifdef _LIBCPP_VERSION\n\"libcxx\"\n#endif\n"

-- the source that each compiler takes
unfoldable pub flag_source : List ℕ
flag_source = codes "int main(void) { return 0; }"

-- what a probe file holds
abbrev pub contents_of : FileKind → List ℕ
contents_of Family = family_source
contents_of FlagCheck = flag_source
contents_of CppFlagCheck = flag_source
contents_of Libcxx = libcxx_source
contents_of Object = []

-- the source that a question needs
abbrev pub source_of : Ask → Option FileKind
source_of Preprocess = Some Family
source_of PreprocessDashes = Some Family
source_of (Flag cpp family) = if cpp then Some CppFlagCheck else Some FlagCheck
source_of AsksLibcxx = Some Libcxx
source_of _ = None

-- the object that a question needs
abbrev pub object_of : Ask → Option FileKind
object_of (Flag cpp family) = Some Object
object_of _ = None

abbrev pub needs_files : Ask → Bool
needs_files ask = is_some (source_of ask)

-- the path of the probe file of a drawn word
abbrev pub probe_path : List ℕ → ℕ → List ℕ → List ℕ
probe_path dir word suffix = path_join dir (decimal word ++ suffix)

-- the path is one of a probe file of this kind
abbrev pub IsPath : List ℕ → FileKind → List ℕ → Type 0
IsPath dir kind path = (word : ℕ) × (path ≡ probe_path dir word (suffix_of kind))
