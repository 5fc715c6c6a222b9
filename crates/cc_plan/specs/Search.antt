-- Where programs are: which files are there, and in which folder a tool is found.
use Rattle.std.specs.Prelude.{ℕ, Bool, List, Option}
use Rattle.cc_env.specs.Env.{EnvSeen}
use Rattle.cc_host.specs.Question.{is_yes, exists_question}
use Rattle.cc_tool.specs.Plans.{Plan, ask, bind, done, seek}
use Rattle.cc_flags.specs.Folders.{listed_folders, path_folders, places_of}

-- a file of this path is there
unfoldable pub is_there : List ℕ → Plan Bool
is_there path = bind (ask (exists_question path)) (λ verdict. done (is_yes verdict))

-- where a tool is, which a shell would find
unfoldable pub which : EnvSeen → List ℕ → Plan (Option (List ℕ))
which env tool = seek exists_question (places_of (path_folders env) tool)

-- where a tool is in those folders
unfoldable pub which_in : EnvSeen → Option (List ℕ) → List ℕ → Plan (Option (List ℕ))
which_in env list tool = seek exists_question (places_of (listed_folders env list) tool)
