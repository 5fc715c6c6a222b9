-- The order of a compile run.
use Rattle.std.specs.Prelude.{◌≡◌, List, ◌∷◌, ◌++◌, Bool, true, false}
use Rattle.cc_host.specs.declared.event.Event.{Event}
use Rattle.cc_host.specs.declared.event.Event.TheVariants.{Started, Ran, Missing}
use Rattle.cc_host.specs.declared.event.Role.{Role}
use Rattle.cc_host.specs.declared.event.Role.TheVariants.{Archive, Index}
use Rattle.cc_env.specs.Env.{EnvSeen}
use Rattle.cc_host.specs.Question.{Look}
use Rattle.cc_flags.specs.declared.settings.BuildConfig.{BuildConfig}
use Rattle.cc_build.specs.Stage.{folder_stages, compile_stages}
use Rattle.cc_build.specs.Stage.Stage.{Asks}
use Rattle.cc_build.specs.Way.{Found}
use Rattle.cc_build.specs.Went.{Terms, Goes}

-- the roles of commands that write the library and its index
abbrev pub is_archive_role : Role → Bool
is_archive_role Archive = true
is_archive_role Index = true
is_archive_role _ = false

-- such a command that was started or ran, or whose program is missing
abbrev pub is_archive_event : Event → Bool
is_archive_event (Started id role cmd pipes held) = is_archive_role role
is_archive_event (Ran role cmd pipes status out err) = is_archive_role role
is_archive_event (Missing role cmd) = is_archive_role role
is_archive_event _ = false

-- before a command of the archive the folder was made, and the compile command of every source ended with 0
pub record CompiledBefore (t : Terms) (set : BuildConfig) (env : EnvSeen) (found : Found) (look : Look)
    (before : List Event) : Type 0 where
  pub runs : List Event
  pub rest : List Event
  pub cut : before ≡ runs ++ rest
  pub compiled : Goes t (folder_stages set env ++ Asks ∷ compile_stages set env found look) runs

-- No command of the archive or its index stands in the part unless that stands before it.
abbrev pub ArchivesLast : Terms → BuildConfig → EnvSeen → Found → Look → List Event → Type 0
ArchivesLast t set env found look part =
    (before after : List Event) (event : Event) → part ≡ before ++ event ∷ after → is_archive_event event ≡ true
    → CompiledBefore t set env found look before
