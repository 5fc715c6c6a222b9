-- A compile command, as a compilation database has it.
use Rattle.std.specs.Prelude.{ℕ, Bool, List, ◌∷◌}
use Rattle.std.specs.Cmp.{IsEquivalence}
use Rattle.std.specs.Ordering.{on}
use Rattle.std.specs.Path.{path_join}
use Rattle.cc_text.specs.Words.{same_words, same_words-equiv}
use Rattle.cc_host.specs.Command.{CommandSeen}

-- what a compile command is seen as: folder, source, words with the program first, and object
pub record CompileCommandSeen : Type 0 where
  pub directory : List ℕ
  pub file : List ℕ
  pub arguments : List (List ℕ)
  pub output : List ℕ

-- the command that compiles a source to an object in a folder
abbrev pub compile_command : CommandSeen → List ℕ → List ℕ → List ℕ → CompileCommandSeen
compile_command cmd src dst directory = record {
  directory = directory;
  file = path_join directory src;
  arguments = cmd.program ∷ cmd.args;
  output = path_join directory dst;
}

-- its texts in one list: the folder, the source, the object, and the words
abbrev pub texts_of : CompileCommandSeen → List (List ℕ)
texts_of c = c.directory ∷ c.file ∷ c.output ∷ c.arguments

-- the two have the same folder, source, object and words
abbrev pub same_compile_command : CompileCommandSeen → CompileCommandSeen → Bool
same_compile_command = on texts_of same_words

pub same_compile_command-equiv : IsEquivalence same_compile_command
same_compile_command-equiv = record {
  refl = λ c. same_words-equiv.refl (texts_of c);
  symm = λ c d. same_words-equiv.symm (texts_of c) (texts_of d);
  congr = λ c d e. same_words-equiv.congr (texts_of c) (texts_of d) (texts_of e);
}
