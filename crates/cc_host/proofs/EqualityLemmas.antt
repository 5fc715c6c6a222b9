-- Compile commands that are equal by the test are equal.
use Rattle.std.proofs.Common.{◌≡◌, ℕ, List, [], ◌∷◌, ap}
use Rattle.std.specs.Bool.{Decides}
use Rattle.cc_text.proofs.EqualityLemmas.{same_words-Decides}
use Rattle.cc_host.specs.CompileCommand.{CompileCommandSeen, texts_of, same_compile_command}

-- the command that has these texts
of_texts : List (List ℕ) → CompileCommandSeen
of_texts (directory ∷ file ∷ output ∷ arguments) =
    record { directory = directory; file = file; arguments = arguments; output = output }
of_texts _ = record { directory = []; file = []; arguments = []; output = [] }

pub same_compile_command-Decides : (c d : CompileCommandSeen) → Decides (same_compile_command c d) (c ≡ d)
unfolding of_texts
same_compile_command-Decides c d = (
  λ h. ap of_texts ((same_words-Decides (texts_of c) (texts_of d)).0 h),
  λ e. (same_words-Decides (texts_of c) (texts_of d)).1 (ap texts_of e),
)
