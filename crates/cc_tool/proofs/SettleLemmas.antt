-- Laws on what answers settle.
use Rattle.std.proofs.Common.{◌≡◌, List, [], ◌∷◌, ◌++◌, Bool, refl, sym, ap, subst, ◌∙◌}
use Rattle.cc_host.specs.declared.question.Question.{Question}
use Rattle.cc_host.specs.declared.question.Verdict.{Verdict}
use Rattle.cc_host.specs.Question.{Look, Answer, Agrees, Settles, Holds, is_yes}
use Rattle.cc_tool.specs.Known.{asked}

pub agrees_before : (look : Look) (known more : List Answer) → Agrees look (known ++ more) → Agrees look known
agrees_before look [] more s = tt
agrees_before look (a ∷ known) more s = (s.0, agrees_before look known more s.1)

pub agrees_on : (look : Look) (known : List Answer) {new : List Answer} → (more : List Answer) × (new ≡ known ++ more) → Agrees look new → Agrees look known
agrees_on look known grows s = agrees_before look known grows.0 (subst (λ (l : List Answer). Agrees look l) grows.1 s)

-- what is settled stays settled as answers grow
pub settles_on : {X : Type 0} {known new : List Answer} {f : Look → X} {x : X} → (more : List Answer) × (new ≡ known ++ more) → Settles known f x → Settles new f x
settles_on {X} {known} grows s = record { is = λ look a. s.is look (agrees_on look known grows a) }

-- what reads no verdict is settled
pub settles_none : {X : Type 0} {known : List Answer} (x : X) → Settles known (λ look. x) x
settles_none x = record { is = λ look a. refl }

-- a function of what is settled
pub settles_map : {X Y : Type 0} {known : List Answer} {f : Look → X} {x : X} (g : X → Y) → Settles known f x → Settles known (λ look. g (f look)) (g x)
settles_map g s = record { is = λ look a. ap g (s.is look a) }

-- a function of two things that are settled
pub settles_both : {X Y Z : Type 0} {known : List Answer} {f : Look → X} {h : Look → Y} {x : X} {y : Y} (g : X → Y → Z) → Settles known f x → Settles known h y → Settles known (λ look. g (f look) (h look)) (g x y)
settles_both {X} {Y} {Z} {known} {f} {h} {x} {y} g s t = record { is = λ look a. ap (λ u. g u (h look)) (s.is look a) ∙ ap (g x) (t.is look a) }

-- what follows from something that is settled
pub settles_so : {X Y : Type 0} {known : List Answer} {f : Look → X} {x : X} {g : Look → Y} {y : Y} → Settles known f x → ((look : Look) → f look ≡ x → g look ≡ y) → Settles known g y
settles_so s so = record { is = λ look a. so look (s.is look a) }

-- what follows from two things that are settled
pub settles_two : {X Y Z : Type 0} {known : List Answer} {f : Look → X} {x : X} {g : Look → Y} {y : Y} {h : Look → Z} {z : Z} → Settles known f x → Settles known g y → ((look : Look) → f look ≡ x → g look ≡ y → h look ≡ z) → Settles known h z
settles_two s t so = record { is = λ look a. so look (s.is look a) (t.is look a) }

-- what equals something that is settled
pub settles_is : {X : Type 0} {known : List Answer} {f : Look → X} {x y : X} → Settles known f x → x ≡ y → Settles known f y
settles_is s e = record { is = λ look a. s.is look a ∙ e }

-- the verdict of a question, by an equal question
pub settles_question : {known : List Answer} {q p : Question} {v : Verdict} → Settles known (λ look. look (asked q)) v → q ≡ p → asked p ≡ p → Settles known (λ look. look p) v
settles_question {known} {q} {p} s e plain = record { is = λ look a. ap look (sym (ap asked e ∙ plain)) ∙ s.is look a }

-- whether the verdict of a question is yes
pub settles_yes : {known : List Answer} {q p : Question} {v : Verdict} {b : Bool} → Settles known (λ look. look (asked q)) v → q ≡ p → asked p ≡ p → b ≡ is_yes v → Settles known (λ look. is_yes (look p)) b
settles_yes {known} {q} {p} {v} {b} s e plain y = record { is = λ look a. ap is_yes ((settles_question s e plain).is look a) ∙ sym y }

-- the same laws for a fact under all verdicts
pub holds_on : {known new : List Answer} {P : Look → Type 0} → (more : List Answer) × (new ≡ known ++ more) → Holds known P → Holds new P
holds_on {known} grows h = record { under = λ look a. h.under look (agrees_on look known grows a) }

pub holds_all : {known : List Answer} {P : Look → Type 0} → ((look : Look) → P look) → Holds known P
holds_all all = record { under = λ look a. all look }

pub holds_so : {known : List Answer} {P Q : Look → Type 0} → Holds known P → ((look : Look) → P look → Q look) → Holds known Q
holds_so h so = record { under = λ look a. so look (h.under look a) }

pub holds_two : {known : List Answer} {P Q R : Look → Type 0} → Holds known P → Holds known Q → ((look : Look) → P look → Q look → R look) → Holds known R
holds_two h k so = record { under = λ look a. so look (h.under look a) (k.under look a) }

pub holds_settled : {X : Type 0} {known : List Answer} {f : Look → X} {x : X} → Settles known f x → Holds known (λ look. f look ≡ x)
holds_settled s = record { under = λ look a. s.is look a }

pub settled_holds : {X : Type 0} {known : List Answer} {f : Look → X} {x : X} → Holds known (λ look. f look ≡ x) → Settles known f x
settled_holds h = record { is = λ look a. h.under look a }

-- where some verdicts agree with the answers, one value alone is settled
pub settled_once : {X : Type 0} {known : List Answer} {f : Look → X} {x y : X} → (look : Look) → Agrees look known → Settles known f x → Settles known f y → x ≡ y
settled_once look a s t = sym (s.is look a) ∙ t.is look a
