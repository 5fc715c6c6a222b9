-- What the making of a probe file is to a question.
use Rattle.std.proofs.Common.{◌≡◌, inl, inr, ℕ, List, [], ◌∷◌, ◌++◌, Option, Some, None, Ok, Err, length, refl, sym, ap, subst, ◌∙◌, append_assoc, append-nil, arith}
use Rattle.cc_host.specs.declared.event.Event.{Event}
use Rattle.cc_host.specs.declared.event.HostCall.{HostCall}
use Rattle.cc_host.specs.declared.event.HostError.{HostError}
use Rattle.cc_host.specs.declared.event.HostError.TheVariants.{Fault as Failed, NoMemory as WantsMemory}
use Rattle.cc_host.specs.declared.event.Why.{Why}
use Rattle.cc_tool.specs.declared.kinds.FileKind.{FileKind}
use Rattle.cc_tool.specs.Files.{suffix_of, contents_of}
use Rattle.cc_tool.specs.Tempfile.{taken, all_taken, Ends, Tried}
use Rattle.cc_tool.specs.Probing.{File, Probes, made_of, lack, IsMade}
use Rattle.cc_tool.proofs.ProbingLemmas.{probes_none, probes_drawn, probes_opened, probes_taken, probes_file_fault, probes_then, probes_more}

-- names that are taken
taken_probes : {dir : List ℕ} (kind : FileKind) (files : List File) (words : List ℕ) (before after : List Event) → after ≡ before ++ all_taken dir (suffix_of kind) words → Probes dir before after files files [] (length words)
taken_probes {dir} kind files [] before after e = subst (λ (l : List Event). Probes dir before l files files [] 0) (sym (e ∙ append-nil before)) (probes_none before files)
taken_probes {dir} kind files (w ∷ words) before after e =
    let mid = before ++ taken dir (suffix_of kind) w in
    let rest = taken_probes kind files words mid after (e ∙ sym (append_assoc before (taken dir (suffix_of kind) w) (all_taken dir (suffix_of kind) words))) in
    subst (λ (n : ℕ). Probes dir before after files files [] n) (omega arith) (probes_more (probes_taken files w kind refl refl) rest)

abbrev Middle : List ℕ → List Event → FileKind → List ℕ → List Event
Middle dir before kind words = before ++ all_taken dir (suffix_of kind) words

behind : (dir : List ℕ) (kind : FileKind) (words : List ℕ) (before after rest : List Event) → after ≡ before ++ (all_taken dir (suffix_of kind) words ++ rest) → after ≡ Middle dir before kind words ++ rest
behind dir kind words before after rest e = e ∙ sym (append_assoc before (all_taken dir (suffix_of kind) words) rest)

-- a file that was made, or ten names that are taken
pub file_probes : {dir suffix contents : List ℕ} {before after : List Event} (file : Option (List ℕ)) (kind : FileKind) (from : List File) → Tried dir suffix contents before after (Ok file) → suffix ≡ suffix_of kind → contents ≡ contents_of kind → Probes dir before after from (from ++ made_of kind (Ok file)) [] (lack (Ok file))
file_probes {dir} {suffix} {contents} {before} {after} None kind from t s c =
    let u = subst (λ (x : List ℕ). Tried dir x contents before after (Ok None)) s t in
    let e : after ≡ before ++ all_taken dir (suffix_of kind) u.words = u.extends ∙ ap (λ l. before ++ (all_taken dir (suffix_of kind) u.words ++ l)) u.finishes.1 ∙ ap (λ l. before ++ l) (append-nil (all_taken dir (suffix_of kind) u.words)) in
    subst (λ (l : List File). Probes dir before after from l [] 10) (sym (append-nil from)) (subst (λ (n : ℕ). Probes dir before after from from [] n) u.finishes.0 (taken_probes kind from u.words before after e))
file_probes {dir} {suffix} {contents} {before} {after} (Some path) kind from t s c =
    let u = subst (λ (x : List ℕ). Tried dir x contents before after (Ok (Some path))) s t in
    let ends = u.finishes.1 in
    let e : after ≡ Middle dir before kind u.words ++ u.rest = behind dir kind u.words before after u.rest u.extends in
    probes_then (taken_probes kind from u.words before (Middle dir before kind u.words) refl) (probes_opened from ends.0 kind ends.1 c (e ∙ ap (λ l. Middle dir before kind u.words ++ l) ends.2))

-- the host failed
pub fault_probes : {dir suffix contents : List ℕ} {before after : List Event} (e : HostError) (call : HostCall) (why : Why) (kind : FileKind) (from : List File) → Tried dir suffix contents before after (Err e) → e ≡ Failed call why → suffix ≡ suffix_of kind → Probes dir before after from (from ++ []) [] 10
fault_probes {dir} {suffix} {contents} {before} {after} failed call why kind from tried is s =
    let t = subst (λ (x : HostError). Tried dir suffix contents before after (Err x)) is tried in
    let u = subst (λ (x : List ℕ). Tried dir x contents before after (Err (Failed call why))) s t in
    let e : after ≡ Middle dir before kind u.words ++ u.rest = behind dir kind u.words before after u.rest u.extends in
    let ends = u.finishes.1.1 in
    subst (λ (l : List File). Probes dir before after from l [] 10) (sym (append-nil from))
    (probes_then (taken_probes kind from u.words before (Middle dir before kind u.words) refl) (probes_file_fault from ends.0 why (e ∙ ap (λ l. Middle dir before kind u.words ++ l) ends.1)))

memory_rest : {dir : List ℕ} {mid after : List Event} (from : List File) (rest : List Event) → after ≡ mid ++ rest → (suffix contents : List ℕ) → Ends dir suffix contents rest (Err WantsMemory) → Probes dir mid after from from [] 0
memory_rest {dir} {mid} {after} from rest e suffix contents (inl none) = subst (λ (l : List Event). Probes dir mid l from from [] 0) (sym (e ∙ ap (λ l. mid ++ l) none ∙ append-nil mid)) (probes_none mid from)
memory_rest {dir} {mid} {after} from rest e suffix contents (inr drew) = probes_drawn from drew.0 (e ∙ ap (λ l. mid ++ l) drew.1)

-- memory was refused
pub memory_probes : {dir suffix contents : List ℕ} {before after : List Event} (e : HostError) (kind : FileKind) (from : List File) → Tried dir suffix contents before after (Err e) → e ≡ WantsMemory → suffix ≡ suffix_of kind → Probes dir before after from (from ++ []) [] 0
memory_probes {dir} {suffix} {contents} {before} {after} refused kind from tried is s =
    let t = subst (λ (x : HostError). Tried dir suffix contents before after (Err x)) is tried in
    let u = subst (λ (x : List ℕ). Tried dir x contents before after (Err WantsMemory)) s t in
    let e : after ≡ Middle dir before kind u.words ++ u.rest = behind dir kind u.words before after u.rest u.extends in
    subst (λ (l : List File). Probes dir before after from l [] 0) (sym (append-nil from))
    (probes_then (taken_probes kind from u.words before (Middle dir before kind u.words) refl) (memory_rest from u.rest e (suffix_of kind) contents u.finishes.1))

-- a file that was made has a name of its kind
pub file_made : {dir suffix contents : List ℕ} {before after : List Event} (file : Option (List ℕ)) (kind : FileKind) → Tried dir suffix contents before after (Ok file) → suffix ≡ suffix_of kind → IsMade dir kind (Ok file)
file_made None kind t s = tt
file_made {dir} {suffix} {contents} {before} {after} (Some path) kind t s = let u = subst (λ (x : List ℕ). Tried dir x contents before after (Ok (Some path))) s t in (u.finishes.1.0, u.finishes.1.1)
