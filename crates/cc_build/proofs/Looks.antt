-- Verdicts that agree with the answers of a run agree with those of each of its stages.
use Rattle.std.proofs.Common.{◌≡◌, List, [], ◌∷◌, ◌++◌, subst}
use Rattle.std.proofs.lemmas.Grind.{flat_map-append}
use Rattle.cc_host.specs.declared.event.Event.{Event}
use Rattle.cc_host.specs.Part.{since}
use Rattle.cc_host.specs.Question.{Look, Answer, answer_of, answers, Agrees}
use Rattle.cc_host.proofs.Parts.{since_since}

agrees_both : (look : Look) (xs ys : List Answer) → Agrees look (xs ++ ys) → Agrees look xs × Agrees look ys
agrees_both look [] ys h = (tt, h)
agrees_both look (x ∷ xs) ys h = let rest = agrees_both look xs ys h.1 in ((h.0, rest.0), rest.1)

pub agrees_parts : (look : Look) (a b : List Event) → Agrees look (answers (a ++ b)) → Agrees look (answers a) × Agrees look (answers b)
agrees_parts look a b h = agrees_both look (answers a) (answers b) (subst (Agrees look) (flat_map-append answer_of a b) h)

-- the same of the parts of two calls, one after the other
pub agrees_since : (look : Look) (old mid new : List Event) → mid ≡ old ++ since old mid → new ≡ mid ++ since mid new → Agrees look (answers (since old new)) → Agrees look (answers (since old mid)) × Agrees look (answers (since mid new))
agrees_since look old mid new e f h =
    agrees_parts look (since old mid) (since mid new) (subst (λ (p : List Event). Agrees look (answers p)) (since_since old mid new e f) h)
