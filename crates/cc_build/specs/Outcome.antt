-- What a run answers, by the settings' refusal, the steps that it had to do, and its part of the log.
use Rattle.std.specs.Prelude.{◌≡◌, ◌⊎◌, List, Option, Some, None, Result, Ok, Err}
use Rattle.cc_host.specs.Part.{Step, IsPartly, IsWhole, left, stops}
use Rattle.cc_host.specs.declared.event.Event.{Event}
use Rattle.cc_build.specs.Error.{ErrorSeen, no_memory}
use Rattle.cc_build.specs.Stop.{stopped_by}

-- The error is want of memory, or that of the refused settings, or that of the event that ended the run.
abbrev pub IsCausedBy : Option ErrorSeen → List Step → List Event → ErrorSeen → Type 0
IsCausedBy refusal steps part e =
    (e ≡ no_memory) ⊎ ((refusal ≡ Some e) ⊎ (stopped_by (left steps part) (stops part) ≡ Some e))

-- The first steps were done, and the error has its cause.
abbrev pub IsRefused : Option ErrorSeen → List Step → List Event → ErrorSeen → Type 0
IsRefused refusal steps part e = IsPartly steps part × IsCausedBy refusal steps part e

-- Ok: nothing is refused, and all steps were done. Else the first steps were, and the error has its cause.
abbrev pub Outcome : {T : Type 0} → Option ErrorSeen → List Step → List Event → Result T ErrorSeen → Type 0
Outcome refusal steps part (Ok _) = (refusal ≡ None) × IsWhole steps part
Outcome refusal steps part (Err e) = IsRefused refusal steps part e
