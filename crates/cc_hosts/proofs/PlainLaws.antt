-- No call of the trait sets anything on a host in memory, and none leaves more in its log than such a host does.
use Rattle.std.proofs.Common.{◌≡◌, ◌≢◌, ◌∙◌, refl, sym, ap, subst, ℕ, pos, List, [], ◌∷◌, ◌++◌, Bool, true, false, Option, Some, None, Result, Ok, Err, IfOk, IfErr, ◌&&◌}
use Rattle.std.specs.List.{list_all, flat_map, All, AllByRecursion}
use Rattle.std.specs.Result.{result_map_both}
use Rattle.std.proofs.lemmas.List.Folds.{list_all-append}
use Rattle.std.proofs.lemmas.List.Elements.{recursion_from_All}
use Rattle.cc_text.specs.declared.memory.NoMemory.{NoMemory as WantsMemory}
use Rattle.cc_host.specs.Bench.{BenchSeen, IsPlain, is_fault, Replies, Gives, IsPlainStart, IsPlainTurn, plain_end}
use Rattle.cc_host.specs.Command.{CommandSeen}
use Rattle.cc_host.specs.Event.{refused, started, reported, turned, ran, made, wrote, removed, printed, listed, probed, found, reused, unasked, drawn, created, heard, unread, ended}
use Rattle.cc_host.specs.declared.event.Created.{Created}
use Rattle.cc_host.specs.declared.event.Created.TheVariants.{New, Exists as Stands}
use Rattle.cc_host.specs.declared.event.Event.{Event}
use Rattle.cc_host.specs.declared.event.HostError.{HostError}
use Rattle.cc_host.specs.declared.event.HostError.TheVariants.{Fault as Failed, NoMemory}
use Rattle.cc_host.specs.declared.event.LineKind.{LineKind}
use Rattle.cc_host.specs.declared.event.News.{News}
use Rattle.cc_host.specs.declared.event.Pipes.{Pipes}
use Rattle.cc_host.specs.declared.event.Ran.{Ran}
use Rattle.cc_host.specs.declared.event.Removal.{Removal}
use Rattle.cc_host.specs.declared.event.Role.{Role}
use Rattle.cc_host.specs.declared.event.Scope.{Scope}
use Rattle.cc_host.specs.declared.event.Start.{Start}
use Rattle.cc_host.specs.declared.event.Start.TheVariants.{Child, Missing as NoProgram}
use Rattle.cc_host.specs.declared.event.Status.{Status}
use Rattle.cc_host.specs.declared.event.Status.TheVariants.{Code}
use Rattle.cc_host.specs.declared.event.Why.{Why}
use Rattle.cc_host.specs.declared.question.Outcome.{Outcome}
use Rattle.cc_host.specs.declared.question.Outcome.TheVariants.{Unanswered, Missing as NoTool, Exists, Done as Finished}
use Rattle.cc_host.specs.declared.question.ProbeFiles.{ProbeFiles}
use Rattle.cc_host.specs.declared.question.Question.{Question}
use Rattle.cc_host.specs.declared.question.Verdict.{Verdict}
use Rattle.cc_hosts.specs.Plain.{is_plain, IsPlainLog, IsPlainHost}

pub plain_then : (a b : List Event) → IsPlainLog a → IsPlainLog b → IsPlainLog (a ++ b)
plain_then a b p q = list_all-append is_plain a b ∙ ap (λ x. x && list_all is_plain b) p ∙ q

plain_refused : (e : HostError) → is_fault e ≡ false → IsPlainLog (refused e)
plain_refused (Failed call why) p = absurd (cc)
plain_refused NoMemory p = refl

-- a call that answers or wants memory adds no fault
gives_calm : {T : Type 0} (answer : T) (e : HostError) → Gives answer (Err e) → IsPlainLog (refused e)
gives_calm answer (Failed call why) p = absurd p
gives_calm answer NoMemory p = refl

pub plain_started : (role : Role) (cmd : CommandSeen) (pipes : Pipes) (held : ℕ) (r : Result Start HostError) → IsPlainStart r → IsPlainLog (started role cmd pipes held r)
plain_started role cmd pipes held (Ok NoProgram) p = absurd p
plain_started role cmd pipes held (Ok (Child id)) p = refl
plain_started role cmd pipes held (Err e) p = plain_refused e p

plain_heard : (id : ℕ) (piece : Option (List ℕ)) → IsPlainLog (heard id piece)
plain_heard id None = refl
plain_heard id (Some piece) = refl

plain_unread : (id : ℕ) (b : Bool) → IsPlainLog (unread id b)
plain_unread id false = refl
plain_unread id true = refl

plain_ended : (id : ℕ) (end : Option Status) → end ≡ Some (Code (pos 0)) → IsPlainLog (ended id end)
plain_ended id end e = subst (λ s. IsPlainLog (ended id s)) (sym e) refl

plain_reported : (n : News) → n.ended ≡ Some (Code (pos 0)) → IsPlainLog (reported n)
plain_reported n e =
    plain_then (heard n.id n.piece ++ unread n.id n.unread) (ended n.id n.ended)
    (plain_then (heard n.id n.piece) (unread n.id n.unread) (plain_heard n.id n.piece) (plain_unread n.id n.unread)) (plain_ended n.id n.ended e)

plain_told : (news : List News) → AllByRecursion (λ n. n.ended ≡ Some (Code (pos 0))) news → IsPlainLog (flat_map reported news)
plain_told [] p = refl
plain_told (n ∷ news) p = plain_then (reported n) (flat_map reported news) (plain_reported n p.0) (plain_told news p.1)

plain_turned : (news : List News) → All (λ n. n.ended ≡ Some (Code (pos 0))) news → IsPlainLog (turned news)
plain_turned news p = plain_told news (recursion_from_All (λ n. n.ended ≡ Some (Code (pos 0))) news p)

pub plain_ran : (role : Role) (cmd : CommandSeen) (pipes : Pipes) (r : Result Ran HostError) → Gives plain_end r → IsPlainLog (ran role cmd pipes r)
plain_ran role cmd pipes (Ok end) e = subst (λ end. IsPlainLog (ran role cmd pipes (Ok end))) (sym e) refl
plain_ran role cmd pipes (Err e) p = gives_calm plain_end e p

pub plain_probed : (q : Question) (files : ProbeFiles) (why : Why) (r : Result Outcome WantsMemory) → IfOk r (λ o. o ≢ Unanswered) → IsPlainLog (probed q files why r)
plain_probed q files why (Ok Unanswered) p = absurd (p refl)
plain_probed q files why (Ok NoTool) p = refl
plain_probed q files why (Ok (Exists there)) p = refl
plain_probed q files why (Ok (Finished status out err)) p = refl
plain_probed q files why (Err e) p = refl

pub plain_found : (path : List ℕ) (r : Result Bool WantsMemory) → IsPlainLog (found path r)
plain_found path (Ok there) = refl
plain_found path (Err e) = refl

pub plain_reused : {T : Type 0} (q : Question) (verdict : Verdict) (r : Result T WantsMemory) → IsPlainLog (reused q verdict r)
plain_reused q verdict (Ok x) = refl
plain_reused q verdict (Err e) = refl

pub plain_unasked : {T : Type 0} (q : Question) (r : Result T WantsMemory) → IsPlainLog (unasked q r)
plain_unasked q (Ok x) = refl
plain_unasked q (Err e) = refl

pub plain_drawn : (r : Result ℕ WantsMemory) → IsPlainLog (drawn r)
plain_drawn (Ok word) = refl
plain_drawn (Err e) = refl

pub plain_created : (path bytes : List ℕ) (answer : Created) (r : Result Created HostError) → Gives answer r → IsPlainLog (created path bytes r)
plain_created path bytes answer (Ok New) p = refl
plain_created path bytes answer (Ok Stands) p = refl
plain_created path bytes answer (Err e) p = gives_calm answer e p

pub plain_made : {T : Type 0} (scope : Scope) (path : List ℕ) (answer : T) (r : Result T HostError) → Gives answer r → IsPlainLog (made scope path r)
plain_made scope path answer (Ok x) p = refl
plain_made scope path answer (Err e) p = gives_calm answer e p

pub plain_wrote : {T : Type 0} (path bytes : List ℕ) (answer : T) (r : Result T HostError) → Gives answer r → IsPlainLog (wrote path bytes r)
plain_wrote path bytes answer (Ok x) p = refl
plain_wrote path bytes answer (Err e) p = gives_calm answer e p

pub plain_removed : (path : List ℕ) (answer : Removal) (r : Result Removal HostError) → Gives answer r → IsPlainLog (removed path r)
plain_removed path answer (Ok how) p = refl
plain_removed path answer (Err e) p = gives_calm answer e p

pub plain_printed : {T : Type 0} (kind : LineKind) (bytes : List ℕ) (answer : T) (r : Result T HostError) → Gives answer r → IsPlainLog (printed kind bytes r)
plain_printed kind bytes answer (Ok x) p = refl
plain_printed kind bytes answer (Err e) p = gives_calm answer e p

pub plain_listed : (answer : List (List ℕ × List ℕ)) (r : Result (List (List ℕ × List ℕ)) HostError) → Gives answer r → IsPlainLog (listed r)
plain_listed answer (Ok vars) p = refl
plain_listed answer (Err e) p = gives_calm answer e p

-- a host on which nothing was set, after a call that sets nothing and adds such events
pub plain_after : (old new : BenchSeen) (more : List Event) → IsPlainHost old → IsPlain new → new.log ≡ old.log ++ more → IsPlainLog more → IsPlainHost new
plain_after old new more p q adds r = (q, subst IsPlainLog (sym adds) (plain_then old.log more p.1 r))

-- a call that isn't counted sets nothing where its host after it doesn't
pub replied_plain : {T : Type 0} (x : T) (after old new : BenchSeen) (r : Result T WantsMemory) → Replies x after old new r → IsPlain after → IsPlain old → IsPlain new
replied_plain x after old new (Ok y) h a p = subst IsPlain (sym h.1) a
replied_plain x after old new (Err e) h a p = subst IsPlain (sym h) p

-- a turn in which each child that does something ends with 0
pub plain_turn : {T : Type 0} (r : Result T HostError) (items : T → List News) (old new : BenchSeen)
    → IfOk r (λ news. new.log ≡ old.log ++ turned (items news)) → IfErr r (λ e. new.log ≡ old.log ++ refused e)
    → IsPlainHost old → IsPlain new → IsPlainTurn (result_map_both items (λ e. e) r) → IsPlainHost new
plain_turn (Ok news) items old new adds refuses p q t = plain_after old new (turned (items news)) p q adds (plain_turned (items news) t)
plain_turn (Err e) items old new adds refuses p q t = plain_after old new (refused e) p q refuses (plain_refused e t)
