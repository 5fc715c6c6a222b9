-- Each question that couldn't be asked has its cause.
use Rattle.std.specs.Prelude.{◌≡◌, ◌≤◌, ◌+◌, ℕ, List, [], ◌∷◌, true}
use Rattle.cc_host.specs.declared.event.Event.{Event}
use Rattle.cc_host.specs.declared.event.Event.TheVariants.{Answered, Reused, Unasked, Taken, Fault}
use Rattle.cc_host.specs.declared.event.Scope.TheVariants.{Probe as ForProbes}
use Rattle.cc_host.specs.declared.event.HostCall.TheVariants.{CreateProbe, MakeDir}
use Rattle.cc_tool.specs.Files.{needs_files}

-- How much an event excuses. Ten is enough: a fault of the folder or of a file, or ten names that were taken.
abbrev pub weight_of : Event → ℕ
weight_of (Taken path) = 1
weight_of (Fault CreateProbe why) = 10
weight_of (Fault (MakeDir ForProbes) why) = 10
weight_of _ = 0

-- what is excused behind an event: a verdict begins anew
abbrev pub weight_after : ℕ → Event → ℕ
weight_after n (Answered question files outcome) = 0
weight_after n (Reused question verdict) = 0
weight_after n (Unasked question) = 0
weight_after n event = n + weight_of event

-- what is excused behind a part
abbrev pub weight : ℕ → List Event → ℕ
weight n [] = n
weight n (event ∷ part) = weight (weight_after n event) part

-- a question that couldn't be asked needs files and is excused
abbrev pub IsExcused : ℕ → Event → Type 0
IsExcused n (Unasked question) = (10 ≤ n) × (needs_files question.ask ≡ true)
IsExcused n _ = Unit {0}

-- Between each `Unasked` and the last verdict before it, or the part's start, stands its cause.
abbrev pub Excused : ℕ → List Event → Type 0
Excused n [] = Unit {0}
Excused n (event ∷ part) = IsExcused n event × Excused (weight_after n event) part
