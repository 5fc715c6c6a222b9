-- What a part says of one command that was to be started.
use Rattle.std.specs.Prelude.{◌≡◌, ◌≤◌, ◌<◌, ℕ, List, length, take, [], ◌∷◌, ◌++◌, Option, None, Some, IfSome, Result, Ok, Err}
use Rattle.cc_host.specs.declared.event.Event.{Event}
use Rattle.cc_host.specs.declared.event.Event.TheVariants.{Started, Missing, Fault}
use Rattle.cc_host.specs.declared.event.HostCall.TheVariants.{Start}
use Rattle.cc_host.specs.declared.event.Why.{Why}
use Rattle.cc_run.specs.Children.{Kept}
use Rattle.cc_run.specs.Messages.{before}
use Rattle.cc_run.specs.Outcome.{IsNotice}
use Rattle.cc_run.specs.Plan.{Plan, next_place}
use Rattle.cc_run.specs.Planned.{pipes_of}
use Rattle.cc_run.specs.Printing.{with_child}
use Rattle.cc_run.specs.Prints.{prints}
use Rattle.cc_run.specs.declared.error.RunError.{RunError}
use Rattle.cc_run.specs.declared.error.RunError.TheVariants.{ToolNotFound, StartFault, HostFault, NoMemory}
use Rattle.cc_run.specs.declared.error.Step.{Step}
use Rattle.cc_run.specs.declared.error.Step.TheVariants.{Ready, Pending}
use Rattle.cc_run.specs.declared.planned.Planned.{Planned}
use Rattle.cc_run.specs.declared.planned.Shows.{Shows}

-- what comes before the command at a place, and then its start, or what came in its stead
abbrev pub IsStart : Shows → Planned → ℕ → ℕ → Kept → Result ℕ RunError → Kept → List Event → Type 0
IsStart shows p place held old (Ok id) new part =
    (part ≡ prints (before shows p) ++ Started id p.role p.cmd (pipes_of shows) held ∷ [])
    × (new ≡ with_child id (Some place) old)
IsStart shows p place held old (Err (ToolNotFound at)) new part =
    (part ≡ prints (before shows p) ++ Missing p.role p.cmd ∷ []) × (at ≡ place) × (new ≡ old)
IsStart shows p place held old (Err (StartFault at)) new part = (why : Why)
    × ((part ≡ prints (before shows p) ++ Fault Start why ∷ []) × (at ≡ place) × (new ≡ old))
IsStart shows p place held old (Err (HostFault call why)) new part = (count : ℕ)
    × ((part ≡ prints (take count (before shows p)) ++ Fault call why ∷ []) × IsNotice call × (new ≡ old))
IsStart shows p place held old (Err NoMemory) new part = (count : ℕ)
    × ((part ≡ prints (take count (before shows p))) × (new ≡ old))
IsStart shows p place held old (Err _) new part = ⊥

-- the next command was started, or none: no token came, and where one caller owns the pool all are held
abbrev pub StartsOne : Plan → Option ℕ → Kept → Kept → Step → Type 0
StartsOne plan total old new Ready =
    (id p : ℕ) × ((next_place plan old.marks ≡ Some p) × (new ≡ with_child id (Some p) old))
StartsOne plan total old new Pending = (new ≡ old) × IfSome total (λ t. (1 ≤ t) × (length old.children ≡ t))

-- Why no command more was started: none may be, or no token came for the next. Where one caller owns the pool, all its
-- tokens are held then.
abbrev pub IsFilled : Plan → Option ℕ → Kept → Step → Type 0
IsFilled plan total kept Ready = next_place plan kept.marks ≡ None
IsFilled plan total kept Pending = ((p : ℕ) × (next_place plan kept.marks ≡ Some p))
    × IfSome total (λ t. (1 ≤ t) × (length kept.children ≡ t))

-- whether children of the run are left
abbrev pub IsLeft : Kept → Step → Type 0
IsLeft kept Ready = kept.children ≡ []
IsLeft kept Pending = 0 < length kept.children
