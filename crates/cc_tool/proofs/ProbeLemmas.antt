-- Questions with their files, step by step.
use Rattle.std.proofs.Common.{◌≡◌, ℕ, Bool, true, false, if◌then◌else◌, List, [], ◌∷◌, ◌++◌, Option, Some, None, is_some, Result, Ok, Err, IfOk, refl, sym, ap, subst, ◌∙◌, append-nil, arith}
use Rattle.std.specs.List.{Contains}
use Rattle.cc_text.specs.declared.memory.NoMemory.{NoMemory}
use Rattle.cc_host.specs.declared.event.Event.{Event}
use Rattle.cc_host.specs.declared.event.Event.TheVariants.{Dropped}
use Rattle.cc_host.specs.declared.event.Why.{Why}
use Rattle.cc_host.specs.declared.question.Ask.{Ask}
use Rattle.cc_host.specs.declared.question.Question.{Question}
use Rattle.cc_host.specs.declared.question.ProbeFiles.{ProbeFiles}
use Rattle.cc_host.specs.declared.question.Outcome.{Outcome}
use Rattle.cc_host.specs.declared.question.Outcome.TheVariants.{Unanswered}
use Rattle.cc_host.specs.Event.{probed, unasked}
use Rattle.cc_host.specs.Probe.{IsOpen}
use Rattle.cc_host.specs.Question.{Answer}
use Rattle.cc_host.specs.declared.question.Verdict.TheVariants.{Unanswered as NoVerdict}
use Rattle.cc_host.specs.Verdict as verdicts
use Rattle.cc_host.specs.declared.question.Ask.TheVariants.{Flag}
use Rattle.cc_tool.specs.declared.kinds.FileKind.{FileKind}
use Rattle.cc_tool.specs.declared.kinds.FileKind.TheVariants.{CppFlagCheck, FlagCheck}
use Rattle.cc_tool.specs.Files.{contents_of, source_of, object_of, needs_files, IsPath}
use Rattle.cc_tool.specs.Probing.{File, IsServed, IsReady, folder_for, Probes, AreOpen, heard, made_of, lack}
use Rattle.cc_tool.proofs.OpenLemmas.{open_then, open_first}
use Rattle.cc_tool.proofs.ProbingLemmas.{probes_probed, probes_dropped, probes_unasked, probes_last, probes_less}

first : (x : File) (xs : List File) → Contains (x ∷ xs) x
first x xs = (0, omega arith, refl)

second : (x y : File) → Contains (x ∷ y ∷ []) y
second x y = (1, omega arith, refl)

abbrev file : FileKind → List ℕ → File
file kind path = (path, contents_of kind)

-- a question with its source
pub served_source : {dir : List ℕ} (kind : FileKind) (q : Question) (files : ProbeFiles) → source_of q.ask ≡ Some kind → object_of q.ask ≡ None → files.dir ≡ dir → files.object ≡ [] → IsPath dir kind files.source → IsServed dir (file kind files.source ∷ []) q (Some files)
served_source {dir} kind q files s o d n p = (
  subst (λ (k : Option FileKind). files.dir ≡ folder_for dir k) (sym s) d,
  subst (λ (k : Option FileKind). IsReady dir (file kind files.source ∷ []) k files.source) (sym s) (p, first (file kind files.source) []),
  subst (λ (k : Option FileKind). IsReady dir (file kind files.source ∷ []) k files.object) (sym o) n,
)

-- a question with its source and its object
pub served_both : {dir : List ℕ} (kind object : FileKind) (q : Question) (files : ProbeFiles) → source_of q.ask ≡ Some kind → object_of q.ask ≡ Some object → files.dir ≡ dir → IsPath dir kind files.source → IsPath dir object files.object → IsServed dir (file kind files.source ∷ file object files.object ∷ []) q (Some files)
served_both {dir} kind object q files s o d p r =
    let all = file kind files.source ∷ file object files.object ∷ [] in (
      subst (λ (k : Option FileKind). files.dir ≡ folder_for dir k) (sym s) d,
      subst (λ (k : Option FileKind). IsReady dir all k files.source) (sym s) (p, first (file kind files.source) (file object files.object ∷ [])),
      subst (λ (k : Option FileKind). IsReady dir all k files.object) (sym o) (r, second (file kind files.source) (file object files.object)),
    )

flag_source : (cpp : Bool) → (if cpp then Some CppFlagCheck else Some FlagCheck) ≡ None → ⊥
flag_source true s = cc
flag_source false s = cc

none_of : (ask : Ask) → source_of ask ≡ None → object_of ask ≡ None
none_of (Flag cpp family) s = absurd (flag_source cpp s)
none_of ask s = refl

-- a question that needs no file
pub served_bare : (dir : List ℕ) (q : Question) (files : ProbeFiles) → source_of q.ask ≡ None → files.dir ≡ [] → files.source ≡ [] → files.object ≡ [] → IsServed dir [] q (Some files)
served_bare dir q files s d p o = (
  subst (λ (k : Option FileKind). files.dir ≡ folder_for dir k) (sym s) d,
  subst (λ (k : Option FileKind). IsReady dir [] k files.source) (sym s) p,
  subst (λ (k : Option FileKind). IsReady dir [] k files.object) (sym (none_of q.ask s)) o,
)

-- the source is dropped behind the question
pub source_asked : {dir : List ℕ} {l m n : List Event} {files : List File} {path bytes : List ℕ} (q : Question) (carried : ProbeFiles) (why : Why) (r : Result Outcome NoMemory) → IsServed dir ((path, bytes) ∷ files) q (Some carried) → m ≡ l ++ probed q carried why r → n ≡ m ++ Dropped path ∷ [] → Probes dir l n ((path, bytes) ∷ files) files (heard q r) 0
source_asked {dir} {l} {m} {n} {files} {path} {bytes} q carried why r s e f = probes_last (probes_probed ((path, bytes) ∷ files) q carried why r s e) (probes_dropped path bytes files f)

-- the source is open until then
pub open_asked : (dir : List ℕ) {l m : List Event} {files : List File} {path bytes : List ℕ} (q : Question) (carried : ProbeFiles) (why : Why) (r : Result Outcome NoMemory) → AreOpen ((path, bytes) ∷ files) l → IsServed dir ((path, bytes) ∷ files) q (Some carried) → m ≡ l ++ probed q carried why r → IsOpen path m
open_asked dir {l} {m} {files} {path} {bytes} q carried why r o s e = open_first m path bytes files (open_then o (probes_probed ((path, bytes) ∷ files) q carried why r s e))

-- so is the object
pub open_dropped : {dir : List ℕ} {l n : List Event} {path bytes object other : List ℕ} {t : List Answer} → AreOpen ((path, bytes) ∷ (object, other) ∷ []) l → Probes dir l n ((path, bytes) ∷ (object, other) ∷ []) ((object, other) ∷ []) t 0 → IsOpen object n
open_dropped {dir} {l} {n} {path} {bytes} {object} {other} o p = open_first n object other [] (open_then o p)

needs : (ask : Ask) (kind : FileKind) → source_of ask ≡ Some kind → needs_files ask ≡ true
needs ask kind s = ap is_some s

same_log : {dir : List ℕ} {l m n : List Event} {a b : List File} {t : List Answer} {i : ℕ} → Probes dir l m a b t i → n ≡ m ++ [] → Probes dir l n a b t i
same_log {dir} {l} {m} {n} {a} {b} {t} {i} p e = subst (λ (x : List Event). Probes dir l x a b t i) (sym (e ∙ append-nil m)) p

unanswered : {dir : List ℕ} {l n : List Event} {a b : List File} {q : Question} → Probes dir l n a b ((q, NoVerdict) ∷ []) 0 → Probes dir l n a b (heard q (Ok Unanswered)) 0
unfolding verdicts.verdict_of
unanswered p = p

-- a question whose files can't be made
pub left_asked : {dir : List ℕ} {l m n : List Event} {a b : List File} (kind : FileKind) (q : Question) (r : Result Outcome NoMemory) → source_of q.ask ≡ Some kind → Probes dir l m a b [] 10 → n ≡ m ++ unasked q r → IfOk r (λ o. o ≡ Unanswered) → Probes dir l n a b (heard q r) 0
left_asked {dir} {l} {m} {n} {a} {b} kind q (Ok outcome) s p e is = subst (λ (o : Outcome). Probes dir l n a b (heard q (Ok o)) 0) (sym is) (unanswered (probes_unasked q p (omega arith) (needs q.ask kind s) e))
left_asked {dir} {l} {m} {n} {a} {b} kind q (Err x) s p e is = probes_less (same_log p e)

-- a file that was made
pub made_file : {dir : List ℕ} {l m : List Event} {f : List File} (kind : FileKind) (made : Option (List ℕ)) (path : List ℕ) → made ≡ Some path → Probes dir l m f (f ++ made_of kind (Ok made)) [] (lack (Ok made)) → Probes dir l m f (f ++ file kind path ∷ []) [] 0
made_file {dir} {l} {m} {f} kind made path is p = subst (λ (r : Option (List ℕ)). Probes dir l m f (f ++ made_of kind (Ok r)) [] (lack (Ok r))) is p

-- a file that couldn't be made
pub made_none : {dir : List ℕ} {l m : List Event} {f : List File} (kind : FileKind) (made : Option (List ℕ)) → made ≡ None → Probes dir l m f (f ++ made_of kind (Ok made)) [] (lack (Ok made)) → Probes dir l m f f [] 10
made_none {dir} {l} {m} {f} kind made is p = subst (λ (g : List File). Probes dir l m f g [] 10) (append-nil f) (subst (λ (r : Option (List ℕ)). Probes dir l m f (f ++ made_of kind (Ok r)) [] (lack (Ok r))) is p)
