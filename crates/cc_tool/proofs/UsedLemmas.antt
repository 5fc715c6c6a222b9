-- Laws on the words that a question draws.
use Rattle.std.proofs.Common.{◌≡◌, ℕ, true, List, [], ◌∷◌, ◌++◌, Option, Some, None, Result, Ok, Err, OnOk, refl, sym, ap, subst, ◌∙◌, append_assoc}
use Rattle.cc_text.specs.declared.memory.NoMemory.{NoMemory}
use Rattle.cc_host.specs.declared.event.Event.{Event}
use Rattle.cc_host.specs.declared.event.Event.TheVariants.{Drawn}
use Rattle.cc_host.specs.declared.event.HostCall.{HostCall}
use Rattle.cc_host.specs.declared.event.HostError.{HostError}
use Rattle.cc_host.specs.declared.event.HostError.TheVariants.{Fault as Failed, NoMemory as WantsMemory}
use Rattle.cc_host.specs.declared.event.Why.{Why}
use Rattle.cc_host.specs.declared.question.Outcome.{Outcome}
use Rattle.cc_host.specs.declared.question.Outcome.TheVariants.{Unanswered as NoAnswer, Missing as NoTool, Exists, Done}
use Rattle.cc_host.specs.declared.question.ProbeFiles.{ProbeFiles}
use Rattle.cc_host.specs.declared.question.Question.{Question}
use Rattle.cc_host.specs.declared.question.Verdict.{Verdict}
use Rattle.cc_host.specs.Event.{probed, reused, unasked, refused}
use Rattle.cc_host.specs.Part.{since}
use Rattle.cc_host.specs.Question.{Answer}
use Rattle.cc_tool.specs.Own.{begins_with_try, WordsUsed}
use Rattle.cc_tool.specs.Probing.{File, Probes}
use Rattle.cc_tool.specs.Tempfile.{all_taken, Tried}
use Rattle.cc_tool.proofs.OwnLemmas.{part_is, since_none}

try_then : (part more : List Event) → begins_with_try part ≡ true → begins_with_try (part ++ more) ≡ true
try_then [] more h = absurd (cc)
try_then (event ∷ part) more h = h

used_then : (part more : List Event) → WordsUsed part → WordsUsed more → WordsUsed (part ++ more)
used_then [] more h k = k
used_then (Drawn word ∷ part) more h k = (try_then part more h.0, used_then part more h.1 k)
used_then (event ∷ part) more h k = used_then part more h k

pub used_since : (l m part : List Event) → m ≡ l ++ part → WordsUsed part → WordsUsed (since l m)
used_since l m part e h = subst WordsUsed (sym (part_is l m part e)) h

pub used_none : (log : List Event) → WordsUsed (since log log)
used_none log = subst WordsUsed (sym (since_none log)) tt

-- what was added to a log
abbrev pub Part : List Event → List Event → Type 0
Part l m = (part : List Event) × (m ≡ l ++ part)

pub part_of : {dir : List ℕ} {l m : List Event} {from to : List File} {new : List Answer} {excuse : ℕ} → Probes dir l m from to new excuse → Part l m
part_of p = (p.part, p.extends)

abbrev pub part_then : (l m n : List Event) → Part l m → Part m n → Part l n
part_then l m n p q = (p.0 ++ q.0, q.1 ∙ ap (λ x. x ++ q.0) p.1 ∙ append_assoc l p.0 q.0)

-- one part behind the other
pub used_parts : (l m n : List Event) → Part l m → Part m n → WordsUsed (since l m) → WordsUsed (since m n) → WordsUsed (since l n)
used_parts l m n p q h k =
    let used = used_then p.0 q.0 (subst WordsUsed (part_is l m p.0 p.1) h) (subst WordsUsed (part_is m n q.0 q.1) k) in
    used_since l n (p.0 ++ q.0) (part_then l m n p q).1 used

pub used_always : {T : Type 0} (r : Result T NoMemory) (part : List Event) → WordsUsed part → OnOk r (WordsUsed part)
used_always (Ok x) part h = h
used_always (Err e) part h = tt

-- a last part that may be refused
pub used_last : {T : Type 0} (l m n : List Event) (r : Result T NoMemory) → Part l m → Part m n → WordsUsed (since l m) → OnOk r (WordsUsed (since m n)) → OnOk r (WordsUsed (since l n))
used_last l m n (Ok x) p q h k = used_parts l m n p q h k
used_last l m n (Err e) p q h k = tt

pub used_still : {T : Type 0} (r : Result T NoMemory) (log : List Event) → OnOk r (WordsUsed (since log log))
used_still (Ok x) log = used_none log
used_still (Err e) log = tt

-- ---- single steps

pub used_probed : (q : Question) (files : ProbeFiles) (why : Why) (r : Result Outcome NoMemory) → WordsUsed (probed q files why r)
used_probed q files why (Ok NoAnswer) = tt
used_probed q files why (Ok NoTool) = tt
used_probed q files why (Ok (Exists there)) = tt
used_probed q files why (Ok (Done status out err)) = tt
used_probed q files why (Err e) = tt

pub used_reused : {T : Type 0} (q : Question) (v : Verdict) (r : Result T NoMemory) → WordsUsed (reused q v r)
used_reused q v (Ok x) = tt
used_reused q v (Err e) = tt

pub used_unasked : {T : Type 0} (q : Question) (r : Result T NoMemory) → WordsUsed (unasked q r)
used_unasked q (Ok x) = tt
used_unasked q (Err e) = tt

pub used_refused : (e : HostError) → WordsUsed (refused e)
used_refused (Failed call why) = tt
used_refused WantsMemory = tt

-- ---- the making of a file

used_taken : (dir suffix : List ℕ) (words : List ℕ) → WordsUsed (all_taken dir suffix words)
used_taken dir suffix [] = tt
used_taken dir suffix (word ∷ words) = (refl, used_taken dir suffix words)

used_rest : {dir suffix contents : List ℕ} {before after : List Event} {r : Result (Option (List ℕ)) HostError} (t : Tried dir suffix contents before after r) → WordsUsed t.rest → WordsUsed (since before after)
used_rest {dir} {suffix} {contents} {before} {after} t h = used_since before after (all_taken dir suffix t.words ++ t.rest) t.extends (used_then (all_taken dir suffix t.words) t.rest (used_taken dir suffix t.words) h)

pub used_file : {dir suffix contents : List ℕ} {before after : List Event} (file : Option (List ℕ)) → Tried dir suffix contents before after (Ok file) → WordsUsed (since before after)
used_file None t = used_rest t (subst WordsUsed (sym t.finishes.1) tt)
used_file (Some path) t = used_rest t (subst WordsUsed (sym t.finishes.1.2) (refl, tt))

pub used_fault : {dir suffix contents : List ℕ} {before after : List Event} (e : HostError) (call : HostCall) (why : Why) → Tried dir suffix contents before after (Err e) → e ≡ Failed call why → WordsUsed (since before after)
used_fault {dir} {suffix} {contents} {before} {after} e call why tried is =
    let t = subst (λ (x : HostError). Tried dir suffix contents before after (Err x)) is tried in
    used_rest t (subst WordsUsed (sym t.finishes.1.1.1) (refl, tt))
