-- The families of compilers: what takes the words of which.
use Rattle.std.specs.Prelude.{Bool, true, false, not}
use Rattle.cc_text.specs.declared.family.ToolFamily.{ToolFamily}
use Rattle.cc_text.specs.declared.family.ToolFamily.TheVariants.{Gnu, Clang, Msvc}

abbrev pub is_gnu : ToolFamily → Bool
is_gnu Gnu = true
is_gnu (Clang zig_cc) = false
is_gnu (Msvc clang_cl) = false

abbrev pub is_clang : ToolFamily → Bool
is_clang Gnu = false
is_clang (Clang zig_cc) = true
is_clang (Msvc clang_cl) = false

-- the Visual Studio compiler, or Clang in its form
abbrev pub is_visual_studio : ToolFamily → Bool
is_visual_studio Gnu = false
is_visual_studio (Clang zig_cc) = false
is_visual_studio (Msvc clang_cl) = true

-- Clang in the form of the Visual Studio compiler
abbrev pub is_clang_cl : ToolFamily → Bool
is_clang_cl Gnu = false
is_clang_cl (Clang zig_cc) = false
is_clang_cl (Msvc clang_cl) = clang_cl

-- the Visual Studio compiler itself
abbrev pub is_cl : ToolFamily → Bool
is_cl Gnu = false
is_cl (Clang zig_cc) = false
is_cl (Msvc clang_cl) = not clang_cl

-- GCC, Clang and what takes their words
abbrev pub is_gnu_like : ToolFamily → Bool
is_gnu_like family = not (is_visual_studio family)

-- Clang itself, and not the one of Zig
abbrev pub is_plain_clang : ToolFamily → Bool
is_plain_clang Gnu = false
is_plain_clang (Clang zig_cc) = not zig_cc
is_plain_clang (Msvc clang_cl) = false
