-- Laws on parts of questions: one event, and parts one after the other.
use Rattle.std.proofs.Common.{◌≡◌, ◌≤◌, ◌+◌, ℕ, Bool, true, false, if◌then◌else◌, List, [], ◌∷◌, ◌++◌, Option, Some, None, Result, Ok, Err, bytes_eq, refl, sym, ap, subst, ◌∙◌, append_assoc, append-nil, arith}
use Rattle.std.proofs.lemmas.List.{map-append}
use Rattle.std.proofs.lemmas.List.Folds.{list_all-append}
use Rattle.std.proofs.lemmas.Grind.{flat_map-append}
use Rattle.std.proofs.lemmas.Slice.Eq.{bytes_eq-Decides}
use Rattle.std.proofs.lemmas.Bool.{and_from}
use Rattle.cc_text.specs.declared.memory.NoMemory.{NoMemory}
use Rattle.cc_host.specs.declared.event.Event.{Event}
use Rattle.cc_host.specs.declared.event.Event.TheVariants.{Answered, Reused, Unasked, Drawn, Opened, Taken, Dropped, Made, Fault}
use Rattle.cc_host.specs.declared.event.Why.{Why}
use Rattle.cc_host.specs.declared.event.Scope.TheVariants.{Probe as ForProbes}
use Rattle.cc_host.specs.declared.event.HostCall.TheVariants.{CreateProbe, MakeDir}
use Rattle.cc_host.specs.declared.question.Question.{Question}
use Rattle.cc_host.specs.declared.question.ProbeFiles.{ProbeFiles}
use Rattle.cc_host.specs.declared.question.Outcome.{Outcome}
use Rattle.cc_host.specs.declared.question.Outcome.TheVariants.{Unanswered, Missing as NoTool, Exists, Done}
use Rattle.cc_host.specs.declared.question.Verdict.{Verdict}
use Rattle.cc_host.specs.declared.question.Verdict.TheVariants.{Unanswered as NoVerdict}
use Rattle.cc_host.specs.Event.{probed}
use Rattle.cc_host.specs.Probe.{opens, drops, open_of, drop_of}
use Rattle.cc_host.specs.Question.{Answer, answers, answer_of, exists_question}
use Rattle.cc_host.specs.Verdict.{verdict_of}
use Rattle.cc_tool.specs.declared.kinds.FileKind.{FileKind}
use Rattle.cc_tool.specs.Excused.{weight_of, weight_after, weight, IsExcused, Excused}
use Rattle.cc_tool.specs.Founded.{Founded, IsFounded, is_probe_fault}
use Rattle.cc_tool.specs.Known.{MayKeep}
use Rattle.cc_tool.specs.Files.{suffix_of, contents_of, needs_files, probe_path}
use Rattle.cc_tool.specs.Probing.{is_asked, File, without, Stand, stand_after, stand, May, Follows, IsServed, paths, Probes, heard}

abbrev at : Option ℕ → List File → Stand
at word files = record { word = word; files = files }

-- ---- where a part stands

after_word : (word : Option ℕ) (files : List File) (e : Event) → stand_after (at None files) e ≡ stand_after (at word files) e
after_word word files (Drawn w) = refl
after_word word files (Opened path bytes) = refl
after_word word files (Dropped path) = refl
after_word word files e = refl

may_word : (dir : List ℕ) (word : Option ℕ) (files : List File) (e : Event) → May dir (at None files) e → May dir (at word files) e
may_word dir word files (Opened path bytes) m = absurd m.1
may_word dir word files (Taken path) m = absurd m.1
may_word dir word files (Made ForProbes path) m = m
may_word dir word files (Answered q f o) m = m
may_word dir word files e m = tt

follows_word : (dir : List ℕ) (word : Option ℕ) (files : List File) (part : List Event) → Follows dir (at None files) part → Follows dir (at word files) part
follows_word dir word files [] f = tt
follows_word dir word files (e ∷ part) f = (may_word dir word files e f.0, subst (λ (s : Stand). Follows dir s part) (after_word word files e) f.1)

files_word : (word : Option ℕ) (files : List File) (part : List Event) → (stand (at word files) part).files ≡ (stand (at None files) part).files
files_word word files [] = refl
files_word word files (e ∷ part) = ap (λ (s : Stand). (stand s part).files) (sym (after_word word files e))

follows_both : (dir : List ℕ) (s : Stand) (a b : List Event) → Follows dir s a → Follows dir (stand s a) b → Follows dir s (a ++ b)
follows_both dir s [] b f g = g
follows_both dir s (e ∷ a) b f g = (f.0, follows_both dir (stand_after s e) a b f.1 g)

stand_both : (s : Stand) (a b : List Event) → stand s (a ++ b) ≡ stand (stand s a) b
stand_both s [] b = refl
stand_both s (e ∷ a) b = stand_both (stand_after s e) a b

-- parts one after the other, the second from the files that the first leaves
pub follows_then : (dir : List ℕ) (from mid to : List File) (a b : List Event) → Follows dir (at None from) a → (stand (at None from) a).files ≡ mid → Follows dir (at None mid) b → (stand (at None mid) b).files ≡ to → Follows dir (at None from) (a ++ b) × ((stand (at None from) (a ++ b)).files ≡ to)
follows_then dir from mid to a b f e g h =
    let s = stand (at None from) a in
    let g2 : Follows dir (at None s.files) b = subst (λ (l : List File). Follows dir (at None l) b) (sym e) g in
    let h2 : (stand (at None s.files) b).files ≡ to = subst (λ (l : List File). (stand (at None l) b).files ≡ to) (sym e) h in
    (follows_both dir (at None from) a b f (follows_word dir s.word s.files b g2), ap (λ (t : Stand). t.files) (stand_both (at None from) a b) ∙ files_word s.word s.files b ∙ h2)

-- ---- what is excused

after_more : (n m : ℕ) (e : Event) → n ≤ m → weight_after n e ≤ weight_after m e
after_more n m (Answered q f o) l = omega arith
after_more n m (Reused q v) l = omega arith
after_more n m (Unasked q) l = omega arith
after_more n m e l = omega arith

weight_more : (n m : ℕ) (part : List Event) → n ≤ m → weight n part ≤ weight m part
weight_more n m [] l = l
weight_more n m (e ∷ part) l = weight_more (weight_after n e) (weight_after m e) part (after_more n m e l)

pub weight_both : (n : ℕ) (a b : List Event) → weight n (a ++ b) ≡ weight (weight n a) b
weight_both n [] b = refl
weight_both n (e ∷ a) b = weight_both (weight_after n e) a b

is_excused_more : (n m : ℕ) (e : Event) → n ≤ m → IsExcused n e → IsExcused m e
is_excused_more n m (Unasked q) l h = (omega (arith, l, h.0), h.1)
is_excused_more n m e l h = tt

excused_more : (n m : ℕ) (part : List Event) → n ≤ m → Excused n part → Excused m part
excused_more n m [] l h = tt
excused_more n m (e ∷ part) l h = (is_excused_more n m e l h.0, excused_more (weight_after n e) (weight_after m e) part (after_more n m e l) h.1)

excused_both : (n : ℕ) (a b : List Event) → Excused n a → Excused (weight n a) b → Excused n (a ++ b)
excused_both n [] b h k = k
excused_both n (e ∷ a) b h k = (h.0, excused_both (weight_after n e) a b h.1 k)

-- what is excused in two parts is in both together
pub excused_then : (a b : List Event) → Excused 0 a → Excused 0 b → Excused 0 (a ++ b)
excused_then a b h k = excused_both 0 a b h (excused_more 0 (weight 0 a) b (omega arith) k)

no_answer : (a : Answer) (rest : List Answer) → a ∷ rest ≡ [] → ⊥
no_answer a rest e = cc

-- an event that tells nothing adds its weight
adds_weight : (n : ℕ) (e : Event) → answer_of e ≡ [] → weight_after n e ≡ n + weight_of e
adds_weight n (Answered q f o) none = absurd (no_answer (q, verdict_of q o) [] none)
adds_weight n (Reused q v) none = absurd (no_answer (q, v) [] none)
adds_weight n (Unasked q) none = absurd (no_answer (q, NoVerdict) [] none)
adds_weight n e none = refl

first_none : (xs ys : List Answer) → xs ++ ys ≡ [] → (xs ≡ []) × (ys ≡ [])
first_none [] ys e = (refl, e)
first_none (x ∷ xs) ys e = absurd (no_answer x (xs ++ ys) e)

-- so does a part that tells nothing, on top of what was there
weight_shift : (n m : ℕ) (part : List Event) → answers part ≡ [] → n + weight m part ≤ weight (n + m) part
weight_shift n m [] none = omega arith
weight_shift n m (e ∷ part) none =
    let both = first_none (answer_of e) (answers part) none in
    let a : weight m (e ∷ part) ≡ weight (m + weight_of e) part = ap (λ k. weight k part) (adds_weight m e both.0) in
    let sum : (n + m) + weight_of e ≡ n + (m + weight_of e) = omega arith in
    let b : weight (n + m) (e ∷ part) ≡ weight (n + (m + weight_of e)) part = ap (λ k. weight k part) (adds_weight (n + m) e both.0 ∙ sum) in
    let c = weight_shift n (m + weight_of e) part both.1 in
    omega (arith, a, b, c)

weight_adds : (n : ℕ) (part : List Event) → answers part ≡ [] → n + weight 0 part ≤ weight n part
weight_adds n part none = let zero_more : n + 0 ≡ n = omega arith in subst (λ (k : ℕ). n + weight 0 part ≤ weight k part) zero_more (weight_shift n 0 part none)

-- ---- what verdicts rest on

is_founded_more : (failed : Bool) (e : Event) → IsFounded false e → IsFounded failed e
is_founded_more failed (Answered q f Unanswered) h = absurd (cc)
is_founded_more failed (Reused q v) h = h
is_founded_more failed e h = tt

founded_more : (failed : Bool) (part : List Event) → Founded false part → Founded failed part
founded_more failed [] h = tt
founded_more failed (e ∷ part) h = (is_founded_more failed e h.0, h.1)

founded_both : (failed : Bool) (a b : List Event) → Founded failed a → Founded false b → Founded failed (a ++ b)
founded_both failed [] b h k = founded_more failed b k
founded_both failed (e ∷ a) b h k = (h.0, founded_both (is_probe_fault e) a b h.1 k)

-- what is founded in two parts is in both together
pub founded_then : (a b : List Event) → Founded false a → Founded false b → Founded false (a ++ b)
founded_then a b h k = founded_both false a b h k

-- ---- parts one after the other

queue_then : (f m t oa ob da db : List (List ℕ)) → f ++ oa ≡ da ++ m → m ++ ob ≡ db ++ t → f ++ (oa ++ ob) ≡ (da ++ db) ++ t
queue_then f m t oa ob da db e g =
    sym (append_assoc f oa ob) ∙ ap (λ l. l ++ ob) e ∙ append_assoc da m ob ∙ ap (λ l. da ++ l) g ∙ sym (append_assoc da db t)

both_excuse : {dir : List ℕ} {l m n : List Event} {a b c : List File} {t u : List Answer} {i j k : ℕ} (p : Probes dir l m a b t i) (q : Probes dir m n b c u j) → k ≤ weight (weight 0 p.part) q.part → Probes dir l n a c (t ++ u) k
both_excuse {dir} {l} {m} {n} {a} {b} {c} {t} {u} {i} {j} {k} p q w =
    let f = follows_then dir a b c p.part q.part p.follows p.files q.follows q.files in
    record {
      part = p.part ++ q.part;
      extends = q.extends ∙ ap (λ x. x ++ q.part) p.extends ∙ append_assoc l p.part q.part;
      asked = list_all-append is_asked p.part q.part ∙ and_from _ _ p.asked q.asked;
      follows = f.0;
      files = f.1;
      queue =
          ap (λ x. paths a ++ x) (flat_map-append open_of p.part q.part) ∙ queue_then (paths a) (paths b) (paths c) (opens p.part) (opens q.part) (drops p.part) (drops q.part) p.queue q.queue ∙ ap (λ x. x ++ paths c) (sym (flat_map-append drop_of p.part q.part));
      excused = excused_then p.part q.part p.excused q.excused;
      weighs = subst (λ (x : ℕ). k ≤ x) (sym (weight_both 0 p.part q.part)) w;
      founded = founded_then p.part q.part p.founded q.founded;
      answered = flat_map-append answer_of p.part q.part ∙ ap (λ x. x ++ answers q.part) p.answered ∙ ap (λ x. t ++ x) q.answered;
    }

-- two parts, one after the other
pub probes_then : {dir : List ℕ} {l m n : List Event} {a b c : List File} {t u : List Answer} {i j : ℕ} → Probes dir l m a b t i → Probes dir m n b c u j → Probes dir l n a c (t ++ u) j
probes_then {dir} {l} {m} {n} {a} {b} {c} {t} {u} {i} {j} p q = let w = weight_more 0 (weight 0 p.part) q.part (omega arith) in both_excuse p q (omega (arith, w, q.weighs))

-- a second part that tells nothing adds what it excuses
pub probes_more : {dir : List ℕ} {l m n : List Event} {a b c : List File} {t : List Answer} {i j : ℕ} → Probes dir l m a b t i → Probes dir m n b c [] j → Probes dir l n a c t (i + j)
probes_more {dir} {l} {m} {n} {a} {b} {c} {t} {i} {j} p q =
    let w = weight_adds (weight 0 p.part) q.part q.answered in
    let all = both_excuse {k = i + j} p q (omega (arith, w, p.weighs, q.weighs)) in
    subst (λ (x : List Answer). Probes dir l n a c x (i + j)) (append-nil t) all

-- ---- single events

pub probes_none : {dir : List ℕ} (log : List Event) (files : List File) → Probes dir log log files files [] 0
probes_none log files = record { part = []; extends = sym (append-nil log); asked = refl; follows = tt; files = refl; queue = append-nil (paths files); excused = tt; weighs = omega arith; founded = tt; answered = refl }

pub probes_drawn : {dir : List ℕ} {before after : List Event} (files : List File) (word : ℕ) → after ≡ before ++ Drawn word ∷ [] → Probes dir before after files files [] 0
probes_drawn files word e = record { part = Drawn word ∷ []; extends = e; asked = refl; follows = (tt, tt); files = refl; queue = append-nil (paths files); excused = (tt, tt); weighs = omega arith; founded = (tt, tt); answered = refl }

pub probes_opened : {dir : List ℕ} {before after : List Event} {path bytes : List ℕ} (files : List File) (word : ℕ) (kind : FileKind) → path ≡ probe_path dir word (suffix_of kind) → bytes ≡ contents_of kind → after ≡ before ++ Drawn word ∷ Opened path bytes ∷ [] → Probes dir before after files (files ++ (path, contents_of kind) ∷ []) [] 0
probes_opened {dir} {before} {after} {path} {bytes} files word kind p b e = record {
  part = Drawn word ∷ Opened path bytes ∷ [];
  extends = e;
  asked = refl;
  follows = (tt, ((kind, p, b), tt));
  files = ap (λ x. files ++ (path, x) ∷ []) b;
  queue = sym (map-append (λ (f : File). f.0) files ((path, contents_of kind) ∷ []));
  excused = (tt, (tt, tt));
  weighs = omega arith;
  founded = (tt, (tt, tt));
  answered = refl;
}

pub probes_taken : {dir : List ℕ} {before after : List Event} {path : List ℕ} (files : List File) (word : ℕ) (kind : FileKind) → path ≡ probe_path dir word (suffix_of kind) → after ≡ before ++ Drawn word ∷ Taken path ∷ [] → Probes dir before after files files [] 1
probes_taken {dir} {before} {after} {path} files word kind p e = record {
  part = Drawn word ∷ Taken path ∷ [];
  extends = e;
  asked = refl;
  follows = (tt, ((kind, p), tt));
  files = refl;
  queue = append-nil (paths files);
  excused = (tt, (tt, tt));
  weighs = omega arith;
  founded = (tt, (tt, tt));
  answered = refl;
}

pub probes_file_fault : {dir : List ℕ} {before after : List Event} (files : List File) (word : ℕ) (why : Why) → after ≡ before ++ Drawn word ∷ Fault CreateProbe why ∷ [] → Probes dir before after files files [] 10
probes_file_fault files word why e = record {
  part = Drawn word ∷ Fault CreateProbe why ∷ [];
  extends = e;
  asked = refl;
  follows = (tt, (tt, tt));
  files = refl;
  queue = append-nil (paths files);
  excused = (tt, (tt, tt));
  weighs = omega arith;
  founded = (tt, (tt, tt));
  answered = refl;
}

pub probes_folder : {dir : List ℕ} {before after : List Event} (files : List File) → after ≡ before ++ Made ForProbes dir ∷ [] → Probes dir before after files files [] 0
probes_folder {dir} files e = record { part = Made ForProbes dir ∷ []; extends = e; asked = refl; follows = (refl, tt); files = refl; queue = append-nil (paths files); excused = (tt, tt); weighs = omega arith; founded = (tt, tt); answered = refl }

pub probes_folder_fault : {dir : List ℕ} {before after : List Event} (files : List File) (why : Why) → after ≡ before ++ Fault (MakeDir ForProbes) why ∷ [] → Probes dir before after files files [] 10
probes_folder_fault files why e = record { part = Fault (MakeDir ForProbes) why ∷ []; extends = e; asked = refl; follows = (tt, tt); files = refl; queue = append-nil (paths files); excused = (tt, tt); weighs = omega arith; founded = (tt, tt); answered = refl }

same_path : (path : List ℕ) → bytes_eq path path ≡ true
same_path path = (bytes_eq-Decides path path).1 refl

drop_first : (b : Bool) (file : File) (rest other : List File) → b ≡ true → if b then rest else other ≡ rest
drop_first true file rest other e = refl
drop_first false file rest other e = absurd (cc)

pub probes_dropped : {dir : List ℕ} {before after : List Event} (path bytes : List ℕ) (rest : List File) → after ≡ before ++ Dropped path ∷ [] → Probes dir before after ((path, bytes) ∷ rest) rest [] 0
probes_dropped path bytes rest e = record {
  part = Dropped path ∷ [];
  extends = e;
  asked = refl;
  follows = (tt, tt);
  files = drop_first (bytes_eq path path) (path, bytes) rest ((path, bytes) ∷ without path rest) (same_path path);
  queue = append-nil (paths ((path, bytes) ∷ rest));
  excused = (tt, tt);
  weighs = omega arith;
  founded = (tt, tt);
  answered = refl;
}

pub probes_reused : {dir : List ℕ} {before after : List Event} (files : List File) (q : Question) (v : Verdict) → MayKeep q v → after ≡ before ++ Reused q v ∷ [] → Probes dir before after files files ((q, v) ∷ []) 0
probes_reused files q v may e = record { part = Reused q v ∷ []; extends = e; asked = refl; follows = (tt, tt); files = refl; queue = append-nil (paths files); excused = (tt, tt); weighs = omega arith; founded = (may, tt); answered = refl }

pub probes_found : {dir : List ℕ} {before after : List Event} (path : List ℕ) (there : Bool) → after ≡ before ++ Answered (exists_question path) None (Exists there) ∷ [] → Probes dir before after [] [] ((exists_question path, verdict_of (exists_question path) (Exists there)) ∷ []) 0
probes_found path there e = record { part = Answered (exists_question path) None (Exists there) ∷ []; extends = e; asked = refl; follows = (refl, tt); files = refl; queue = refl; excused = (tt, tt); weighs = omega arith; founded = (tt, tt); answered = refl }

probes_answered : {dir : List ℕ} {before after : List Event} (files : List File) (q : Question) (carried : ProbeFiles) (o : Outcome) → IsFounded false (Answered q (Some carried) o) → IsServed dir files q (Some carried) → after ≡ before ++ Answered q (Some carried) o ∷ [] → Probes dir before after files files ((q, verdict_of q o) ∷ []) 0
probes_answered files q carried o founded s e = record { part = Answered q (Some carried) o ∷ []; extends = e; asked = refl; follows = (s, tt); files = refl; queue = append-nil (paths files); excused = (tt, tt); weighs = omega arith; founded = (founded, tt); answered = refl }

-- a question that was asked with its files
pub probes_probed : {dir : List ℕ} {before after : List Event} (files : List File) (q : Question) (carried : ProbeFiles) (why : Why) (result : Result Outcome NoMemory) → IsServed dir files q (Some carried) → after ≡ before ++ probed q carried why result → Probes dir before after files files (heard q result) 0
probes_probed {dir} {before} {after} files q carried why (Ok Unanswered) s e = record { part = probed q carried why (Ok Unanswered); extends = e; asked = refl; follows = (tt, (s, tt)); files = refl; queue = append-nil (paths files); excused = (tt, (tt, tt)); weighs = omega arith; founded = (tt, (refl, tt)); answered = refl }
probes_probed files q carried why (Ok NoTool) s e = probes_answered files q carried NoTool tt s e
probes_probed files q carried why (Ok (Exists there)) s e = probes_answered files q carried (Exists there) tt s e
probes_probed files q carried why (Ok (Done status out err)) s e = probes_answered files q carried (Done status out err) tt s e
probes_probed {dir} {before} {after} files q carried why (Err x) s e = subst (λ (l : List Event). Probes dir before l files files [] 0) (sym (e ∙ append-nil before)) (probes_none before files)

-- behind its cause, a question that couldn't be asked
pub probes_unasked : {dir : List ℕ} {l m n : List Event} {a b : List File} {t : List Answer} {i : ℕ} (q : Question) → Probes dir l m a b t i → 10 ≤ i → needs_files q.ask ≡ true → n ≡ m ++ Unasked q ∷ [] → Probes dir l n a b (t ++ (q, NoVerdict) ∷ []) 0
probes_unasked {dir} {l} {m} {n} {a} {b} {t} {i} q p ten needs e =
    let f = follows_then dir a b b p.part (Unasked q ∷ []) p.follows p.files (tt, tt) refl in
    record {
      part = p.part ++ Unasked q ∷ [];
      extends = e ∙ ap (λ x. x ++ Unasked q ∷ []) p.extends ∙ append_assoc l p.part (Unasked q ∷ []);
      asked = list_all-append is_asked p.part (Unasked q ∷ []) ∙ and_from _ _ p.asked refl;
      follows = f.0;
      files = f.1;
      queue =
          ap (λ x. paths a ++ x) (flat_map-append open_of p.part (Unasked q ∷ []) ∙ append-nil (opens p.part)) ∙ p.queue ∙ ap (λ x. x ++ paths b) (sym (flat_map-append drop_of p.part (Unasked q ∷ []) ∙ append-nil (drops p.part)));
      excused = excused_both 0 p.part (Unasked q ∷ []) p.excused ((omega (arith, ten, p.weighs), needs), tt);
      weighs = omega arith;
      founded = founded_then p.part (Unasked q ∷ []) p.founded (tt, tt);
      answered = flat_map-append answer_of p.part (Unasked q ∷ []) ∙ ap (λ x. x ++ (q, NoVerdict) ∷ []) p.answered;
    }

-- a second part that tells nothing
pub probes_last : {dir : List ℕ} {l m n : List Event} {a b c : List File} {t : List Answer} {i j : ℕ} → Probes dir l m a b t i → Probes dir m n b c [] j → Probes dir l n a c t j
probes_last {dir} {l} {m} {n} {a} {b} {c} {t} {i} {j} p q = subst (λ (x : List Answer). Probes dir l n a c x j) (append-nil t) (probes_then p q)

-- what a part excuses need not be used
pub probes_less : {dir : List ℕ} {l m : List Event} {a b : List File} {t : List Answer} {i : ℕ} → Probes dir l m a b t i → Probes dir l m a b t 0
probes_less {dir} {l} {m} {a} {b} {t} {i} p = record { part = p.part; extends = p.extends; asked = p.asked; follows = p.follows; files = p.files; queue = p.queue; excused = p.excused; weighs = omega arith; founded = p.founded; answered = p.answered }
