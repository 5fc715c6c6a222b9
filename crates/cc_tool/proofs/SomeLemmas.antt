-- Where no question is answered twice, some verdicts agree with the answers.
use Rattle.std.proofs.Common.{◌≡◌, ◌≢◌, ◌↔◌, ◌&&◌, ℕ, List, [], ◌∷◌, Bool, true, false, IsTrue, if◌then◌else◌, bytes_eq, nat_eq, get_or, refl, sym, ◌∙◌, ap}
use Rattle.std.proofs.lemmas.Bool.Decides.{Decides-eqb}
use Rattle.cc_text.specs.Words.{same_words}
use Rattle.cc_text.specs.Vars.{same_vars}
use Rattle.cc_text.specs.declared.family.ToolFamily.TheVariants.{Gnu, Clang, Msvc}
use Rattle.cc_host.specs.declared.question.Ask.{Ask}
use Rattle.cc_host.specs.declared.question.Ask.TheVariants.{Preprocess, PreprocessDashes, HelpFlag, Version, Flag, Libcxx, SearchDirs, ToolVersion, Starts, Exists}
use Rattle.cc_host.specs.declared.question.Question.{Question}
use Rattle.cc_host.specs.declared.question.Verdict.{Verdict}
use Rattle.cc_host.specs.declared.question.Verdict.TheVariants.{No}
use Rattle.cc_host.specs.Question.{Look, Answer, Agrees, Lacks, NoTwice}
use Rattle.cc_host.proofs.QuestionLemmas.{same_question}

-- what may be asked, in a row
abbrev asks : List Ask
asks =
    Preprocess ∷ PreprocessDashes ∷ HelpFlag ∷ Version ∷ Libcxx ∷ SearchDirs ∷ ToolVersion ∷ Starts ∷ Exists
    ∷ Flag false Gnu ∷ Flag true Gnu ∷ Flag false (Clang false) ∷ Flag true (Clang false) ∷ Flag false (Clang true) ∷ Flag true (Clang true)
    ∷ Flag false (Msvc false) ∷ Flag true (Msvc false) ∷ Flag false (Msvc true) ∷ Flag true (Msvc true) ∷ []

-- its place in that row
place : Ask → ℕ
place Preprocess = 0
place PreprocessDashes = 1
place HelpFlag = 2
place Version = 3
place Libcxx = 4
place SearchDirs = 5
place ToolVersion = 6
place Starts = 7
place Exists = 8
place (Flag false Gnu) = 9
place (Flag true Gnu) = 10
place (Flag false (Clang false)) = 11
place (Flag true (Clang false)) = 12
place (Flag false (Clang true)) = 13
place (Flag true (Clang true)) = 14
place (Flag false (Msvc false)) = 15
place (Flag true (Msvc false)) = 16
place (Flag false (Msvc true)) = 17
place (Flag true (Msvc true)) = 18

placed : (a : Ask) → get_or asks (place a) Preprocess ≡ a
unfolding place
placed Preprocess = refl
placed PreprocessDashes = refl
placed HelpFlag = refl
placed Version = refl
placed Libcxx = refl
placed SearchDirs = refl
placed ToolVersion = refl
placed Starts = refl
placed Exists = refl
placed (Flag false Gnu) = refl
placed (Flag true Gnu) = refl
placed (Flag false (Clang false)) = refl
placed (Flag true (Clang false)) = refl
placed (Flag false (Clang true)) = refl
placed (Flag true (Clang true)) = refl
placed (Flag false (Msvc false)) = refl
placed (Flag true (Msvc false)) = refl
placed (Flag false (Msvc true)) = refl
placed (Flag true (Msvc true)) = refl

abbrev same_ask : Ask → Ask → Bool
same_ask a b = nat_eq (place a) (place b)

asks_same : (a b : Ask) → IsTrue (same_ask a b) ↔ a ≡ b
asks_same a b = (
  λ h. sym (placed a) ∙ ap (λ n. get_or asks n Preprocess) ((Decides-eqb (place a) (place b)).0 h) ∙ placed b,
  λ e. (Decides-eqb (place a) (place b)).1 (ap place e),
)

abbrev same : Question → Question → Bool
same a b = same_ask a.ask b.ask && bytes_eq a.program b.program && same_words a.words b.words && same_vars a.vars b.vars

same_is : (a b : Question) → IsTrue (same a b) ↔ a ≡ b
same_is a b =
    same_question a b (same a b) (same_ask a.ask b.ask) (bytes_eq a.program b.program) (same_words a.words b.words) (same_vars a.vars b.vars) (asks_same a.ask b.ask) refl refl refl refl

differ : (a b : Question) → a ≢ b → same a b ≡ false
differ a b apart = by_test (same a b) ((same_is a b).0)
  where
    by_test : (t : Bool) → (IsTrue t → a ≡ b) → t ≡ false
    by_test true f = absurd (apart (f refl))
    by_test false f = refl

-- the verdict of the first answer to a question
abbrev look_in : List Answer → Question → Verdict
look_in [] q = No
look_in (a ∷ rest) q = if same a.0 q then a.1 else look_in rest q

skips : (a : Answer) (f : Look) (known : List Answer) → Lacks known a.0 → Agrees f known → Agrees (λ q. if same a.0 q then a.1 else f q) known
skips a f [] lacks agree = tt
skips a f (b ∷ known) lacks agree =
    let other : same a.0 b.0 ≡ false = differ a.0 b.0 (λ e. lacks.0 (sym e)) in
    (ap (λ t. if t then a.1 else f b.0) other ∙ agree.0, skips a f known lacks.1 agree.1)

looks : (known : List Answer) → NoTwice known → Agrees (look_in known) known
looks [] once = tt
looks (a ∷ known) once =
    let here : same a.0 a.0 ≡ true = (same_is a.0 a.0).1 refl in
    (ap (λ t. if t then a.1 else look_in known a.0) here, skips a (look_in known) known once.0 (looks known once.1))

pub some_agree : (known : List Answer) → NoTwice known → (look : Look) × Agrees look known
some_agree known once = (look_in known, looks known once)

-- what is settled is one value
pub settled_once : {X : Type 0} (known : List Answer) (f : Look → X) (x y : X) → NoTwice known → ((look : Look) → Agrees look known → f look ≡ x) → ((look : Look) → Agrees look known → f look ≡ y) → x ≡ y
settled_once known f x y once s t = let some = some_agree known once in sym (s some.0 some.1) ∙ t some.0 some.1
