-- What a call does for its one question.
use Rattle.std.specs.Prelude.{◌≡◌, ◌⊎◌, ℕ, Bool, true, false, List, [], ◌∷◌, None, Result, Ok, Err}
use Rattle.std.specs.List.{All, Contains, list_any}
use Rattle.cc_text.specs.declared.memory.NoMemory.{NoMemory}
use Rattle.cc_host.specs.declared.event.Event.{Event}
use Rattle.cc_host.specs.declared.event.Event.TheVariants.{Answered, Unasked, Drawn, Opened, Taken, Made, Fault}
use Rattle.cc_host.specs.declared.event.HostCall.TheVariants.{CreateProbe}
use Rattle.cc_host.specs.declared.event.Scope.TheVariants.{Probe as ForProbes}
use Rattle.cc_host.specs.declared.question.Outcome.TheVariants.{Exists}
use Rattle.cc_host.specs.declared.question.Question.{Question}
use Rattle.cc_host.specs.declared.question.Verdict.{Verdict}
use Rattle.cc_host.specs.declared.question.Verdict.TheVariants.{Unanswered}
use Rattle.cc_host.specs.Question.{Look, Answer, Holds, Lacks, answers, exists_question}
use Rattle.cc_host.specs.Verdict.{yes_if}
use Rattle.cc_tool.specs.Files.{needs_files}
use Rattle.cc_tool.specs.Founded.{is_probe_fault}
use Rattle.cc_tool.specs.Known.{Has}

-- The part answers this question, which the answers before it lack, and no other one. Where they have it their verdict is told, and nothing
-- is done. Only want of memory keeps the question from its answer.
abbrev pub AnswersOnly : Question → List Answer → List Event → Result Verdict NoMemory → Type 0
AnswersOnly q known part (Ok v) = (Has known q v × (part ≡ [])) ⊎ (Lacks known q × (answers part ≡ (q, v) ∷ []))
AnswersOnly q known part (Err e) = (answers part ≡ []) ⊎ (Lacks known q × ((v : Verdict) × (answers part ≡ (q, v) ∷ [])))

-- each question that the part answers is one of these
abbrev pub AnswersAmong : (Question → Type 0) → List Event → Type 0
AnswersAmong asked part = All (λ a. asked a.0) (answers part)

-- whichever verdicts agree with the answers, each question that the part answers is one that is asked under them
abbrev pub Wanted : (Look → Question → Type 0) → List Answer → List Event → Type 0
Wanted asked known part = Holds known (λ look. AnswersAmong (asked look) part)

-- why a question has no answer: it had none before, its command couldn't be run, or its files couldn't be made
abbrev pub WhyUnanswered : Question → List Answer → List Event → Verdict → Type 0
WhyUnanswered q known part v = v ≡ Unanswered → Has known q Unanswered ⊎ ((list_any is_probe_fault part ≡ true) ⊎ Contains part (Unasked q))

-- each question that the part leaves without an answer has its cause: its command couldn't be run, or its files not made
abbrev pub AllCaused : List Event → Type 0
AllCaused part =
    All (λ a. a.1 ≡ Unanswered → (list_any is_probe_fault part ≡ true) ⊎ Contains part (Unasked a.0)) (answers part)

-- a word is drawn for the name of a file, or the folder of such files is made
abbrev pub is_for_files : Event → Bool
is_for_files (Drawn word) = true
is_for_files (Made ForProbes path) = true
is_for_files _ = false

-- that happens only for a question that needs files
abbrev pub OnlyForFiles : Question → List Event → Type 0
OnlyForFiles q part = list_any is_for_files part ≡ true → needs_files q.ask ≡ true

-- that happens only where a question that needs files is answered
abbrev pub OnlyWithFiles : List Event → Type 0
OnlyWithFiles part = list_any is_for_files part ≡ true → list_any (λ a. needs_files a.0.ask) (answers part) ≡ true

-- a file is tried: it is made, it is there already, or the host can't make it
abbrev pub is_try : Event → Bool
is_try (Opened path bytes) = true
is_try (Taken path) = true
is_try (Fault CreateProbe why) = true
is_try _ = false

abbrev pub begins_with_try : List Event → Bool
begins_with_try [] = false
begins_with_try (event ∷ part) = is_try event

-- each word that is drawn is used: the file of its name is tried right behind it
abbrev pub WordsUsed : List Event → Type 0
WordsUsed [] = Unit {0}
WordsUsed (Drawn word ∷ part) = (begins_with_try part ≡ true) × WordsUsed part
WordsUsed (event ∷ part) = WordsUsed part

-- whether a file is there: the answers before have it, or the disk was looked at once
abbrev pub Looks : List ℕ → List Answer → List Event → Result Verdict NoMemory → Type 0
Looks path known part (Ok v) =
    (Has known (exists_question path) v × (part ≡ []))
    ⊎ (Lacks known (exists_question path) × ((there : Bool) × (v ≡ yes_if there) × (part ≡ Answered (exists_question path) None (Exists there) ∷ [])))
Looks path known part (Err e) = part ≡ []
