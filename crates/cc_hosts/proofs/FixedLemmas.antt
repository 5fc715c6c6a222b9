-- No call of the trait gives a host in memory an outcome.
use Rattle.std.proofs.Common.{◌≡◌, ◌∙◌, ap, Result, Ok, Err, List}
use Rattle.cc_text.specs.declared.memory.NoMemory.{NoMemory as WantsMemory}
use Rattle.cc_host.specs.Bench.{BenchSeen, IsFailure, Answers, Replies, IsStart, IsTurn}
use Rattle.cc_host.specs.Command.{CommandSeen}
use Rattle.cc_host.specs.declared.event.HostCall.{HostCall}
use Rattle.cc_host.specs.declared.event.HostCall.TheVariants.{Start as Starts, Turn as Turns}
use Rattle.cc_host.specs.declared.event.HostError.{HostError}
use Rattle.cc_host.specs.declared.event.HostError.TheVariants.{Fault as Failed, NoMemory}
use Rattle.cc_host.specs.declared.event.News.{News}
use Rattle.cc_host.specs.declared.event.Role.{Role}
use Rattle.cc_host.specs.declared.event.Start.{Start}
use Rattle.cc_host.specs.declared.event.Start.TheVariants.{Child, Missing}

given_failed : (call : HostCall) (old new : BenchSeen) (e : HostError) → IsFailure call old new e → new.given ≡ old.given
given_failed call old new (Failed c why) h = ap (λ (s : BenchSeen). s.given) h.1
given_failed call old new NoMemory h = ap (λ (s : BenchSeen). s.given) h

pub answers_given : {T : Type 0} (call : HostCall) (x : T) (after old new : BenchSeen) (r : Result T HostError) → Answers call x after old new r → after.given ≡ old.given → new.given ≡ old.given
answers_given call x after old new (Ok y) h e = ap (λ (s : BenchSeen). s.given) h.2 ∙ e
answers_given call x after old new (Err e) h f = given_failed call old new e h.1

pub uncounted_given : {T : Type 0} (x : T) (after old new : BenchSeen) (r : Result T WantsMemory) → Replies x after old new r → after.given ≡ old.given → new.given ≡ old.given
uncounted_given x after old new (Ok y) h e = ap (λ (s : BenchSeen). s.given) h.1 ∙ e
uncounted_given x after old new (Err e) h f = ap (λ (s : BenchSeen). s.given) h

pub start_given : (role : Role) (cmd : CommandSeen) (old new : BenchSeen) (r : Result Start HostError) → IsStart role cmd old new r → new.given ≡ old.given
start_given role cmd old new (Ok Missing) h = ap (λ (s : BenchSeen). s.given) h.2
start_given role cmd old new (Ok (Child id)) h = ap (λ (s : BenchSeen). s.given) h.2.2
start_given role cmd old new (Err e) h = given_failed Starts old new e h.1

pub turn_given : (old new : BenchSeen) (r : Result (List News) HostError) → IsTurn old new r → new.given ≡ old.given
turn_given old new (Ok news) h = ap (λ (s : BenchSeen). s.given) h.2
turn_given old new (Err e) h = given_failed Turns old new e h.1
