-- Laws on the start of one command.
use Rattle.std.proofs.Common.{◌≡◌, ℕ, List, [], subst, take, refl, sym, ◌∙◌}
use Rattle.std.specs.Prelude.{Result, Ok, Err}
use Rattle.std.proofs.lemmas.List.{append-nil}
use Rattle.cc_host.specs.declared.event.Event.{Event}
use Rattle.cc_run.specs.Children.{Kept}
use Rattle.cc_run.specs.Messages.{before}
use Rattle.cc_run.specs.Prints.{ArePrinted, IsPrintError, prints}
use Rattle.cc_run.specs.Started.{IsStart}
use Rattle.cc_run.specs.declared.error.RunError.{RunError}
use Rattle.cc_run.specs.declared.error.RunError.TheVariants.{ToolNotFound, Failed, StartFault, WaitFault, HostFault, JobFault, TurnsSpent, NoMemory}
use Rattle.cc_run.specs.declared.planned.Planned.{Planned}
use Rattle.cc_run.specs.declared.planned.Shows.{Shows}

-- what comes before it was refused
pub start_unprinted : (shows : Shows) (p : Planned) (place held : ℕ) (old : Kept) (e : RunError) (part : List Event) → ArePrinted {T = Unit {0}} (before shows p) (Err e) part → IsPrintError e → IsStart shows p place held old (Err e) old part
start_unprinted shows p place held old (HostFault call why) part (n, h) k = (n, (h.2, k, refl))
start_unprinted shows p place held old NoMemory part (n, h) k = (n, (h.2 ∙ append-nil (prints (take n (before shows p))), refl))
start_unprinted shows p place held old (ToolNotFound n) part h k = absurd k
start_unprinted shows p place held old (Failed n s) part h k = absurd k
start_unprinted shows p place held old (StartFault n) part h k = absurd k
start_unprinted shows p place held old WaitFault part h k = absurd k
start_unprinted shows p place held old JobFault part h k = absurd k
start_unprinted shows p place held old TurnsSpent part h k = absurd k

-- there was no memory for what comes before it
pub start_wanting : (shows : Shows) (p : Planned) (place held : ℕ) (old new : Kept) (result : Result ℕ RunError) (part : List Event) → result ≡ Err NoMemory → part ≡ [] → new ≡ old → IsStart shows p place held old result new part
start_wanting shows p place held old new result part r e k = subst (λ x. IsStart shows p place held old x new part) (sym r) (0, (e, k))
