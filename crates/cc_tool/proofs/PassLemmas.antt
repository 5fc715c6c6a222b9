-- Laws on passes over plans.
use Rattle.std.proofs.Common.{◌≡◌, Bool, List, [], ◌∷◌, ◌++◌, Result, Ok, Err, fold, refl, sym, ap, ◌∙◌, subst}
use Rattle.std.specs.Result.{IsErrAnd}
use Rattle.std.proofs.lemmas.Result.{err_from_is_err_and}
use Rattle.std.proofs.lemmas.List.Sums.{fold-append}
use Rattle.std.proofs.lemmas.List.Elements.{Contains-append_left, Contains-append_right}
use Rattle.cc_host.specs.Question.{Look, Answer}
use Rattle.cc_host.specs.declared.question.Question.{Question}
use Rattle.cc_tool.specs.Notes.{Note, Noted, add_note}
use Rattle.cc_tool.specs.Plans.{Plan, Settled, Among, Wants, IsAnswer, Passes, done, note, bind, unnoted}
use Rattle.cc_tool.specs.declared.want.Want.{Want}
use Rattle.cc_tool.specs.declared.want.Want.TheVariants.{Ask, NoMemory}

pub among_left : (a b qs : List Question) → Among a qs → Among (a ++ b) qs
among_left a b [] h = tt
among_left a b (q ∷ qs) h = (Contains-append_left a b q h.0, among_left a b qs h.1)

pub among_right : (a b qs : List Question) → Among b qs → Among (a ++ b) qs
among_right a b [] h = tt
among_right a b (q ∷ qs) h = (Contains-append_right a b q h.0, among_right a b qs h.1)

module _ {X : Type 0} {known : List Answer} where
  -- a value that asks nothing
  pub pass_done : {notes : Noted} {x : X} → Passes known notes notes (done x) (Ok x)
  unfolding done
  pass_done = record { answers = record { noted = []; added = refl; is = λ look a. refl; notes = λ look a. refl } }

  pub pass_memory : {before after : Noted} {p : Plan X} → Passes known before after p (Err NoMemory)
  pass_memory = record { answers = tt }

-- what is noted
pub pass_note : {known : List Answer} {before after : Noted} (notes : List Note) → after ≡ fold add_note before notes → Passes known before after (note notes) (Ok tt)
unfolding note
pass_note notes e = record { answers = record { noted = notes; added = e; is = λ look a. refl; notes = λ look a. refl } }

module _ {X Y : Type 0} (p : Plan X) (k : X → Plan Y) where
  first_among : (look : Look) (qs : List Question) → Among (p.asks look) qs → Among ((bind p k).asks look) qs
  unfolding bind
  first_among look qs h = among_left (p.asks look) ((k (p.value look)).asks look) qs h

  second_among : (look : Look) (x : X) (qs : List Question) → p.value look ≡ x → Among ((k x).asks look) qs → Among ((bind p k).asks look) qs
  unfolding bind
  second_among look x qs e h = subst (λ (y : X). Among (p.asks look ++ (k y).asks look) qs) (sym e) (among_right (p.asks look) ((k x).asks look) qs h)

module _ {X Y : Type 0} {known : List Answer} (p : Plan X) (k : X → Plan Y) where
  -- what the first wants, both do
  pub pass_err : {before after : Noted} {e : Want} → Passes known before after p (Err e) → Passes known before after (bind p k) (Err e)
  pass_err {e = Ask wanted} h = record { answers = record { opens = h.answers.opens; plain = h.answers.plain; own = λ look a. first_among p k look _ (h.answers.own look a) } }
  pass_err {e = NoMemory} h = record { answers = tt }

  settled_ok : (before mid after : Noted) (x : X) (y : Y) → Settled known before mid p x → Settled known mid after (k x) y → Settled known before after (bind p k) y
  unfolding bind
  settled_ok before mid after x y s t = record {
    noted = s.noted ++ t.noted;
    added = t.added ∙ ap (λ n. fold add_note n t.noted) s.added ∙ sym (fold-append add_note before s.noted t.noted);
    is = λ look a. ap (λ v. (k v).value look) (s.is look a) ∙ t.is look a;
    notes = λ look a.
        ap (λ v. p.notes look ++ (k v).notes look) (s.is look a)
        ∙ ap (λ l. l ++ (k x).notes look) (s.notes look a)
        ∙ ap (λ l. s.noted ++ l) (t.notes look a);
  }

  second : (before mid after : Noted) (x : X) (r : Result Y Want) → Settled known before mid p x → IsAnswer known mid after (k x) r → IsAnswer known before after (bind p k) r
  second before mid after x (Ok y) s t = settled_ok before mid after x y s t
  second before mid after x (Err (Ask wanted)) s t = record { opens = t.opens; plain = t.plain; own = λ look a. second_among p k look x _ (s.is look a) (t.own look a) }
  second before mid after x (Err NoMemory) s t = tt

  -- after the first, what the second answers both do
  pub pass_ok : {before mid after : Noted} {x : X} {r : Result Y Want} → Passes known before mid p (Ok x) → Passes known mid after (k x) r → Passes known before after (bind p k) r
  pass_ok {before} {mid} {after} {x} {r} s t = record { answers = second before mid after x r s.answers t.answers }

  -- the same where it comes by `?`
  pub pass_try : {before after : Noted} {e : Want} (r : Result Y Want) → IsErrAnd r (λ y. y ≡ e) → Passes known before after p (Err e) → Passes known before after (bind p k) r
  pass_try {before} {after} {e} r is h =
      let at = err_from_is_err_and r is in
      subst (λ (v : Result Y Want). Passes known before after (bind p k) v) (sym (at.1 ∙ ap Err at.2)) (pass_err h)

-- a pass over an equal plan
pub pass_as : {X : Type 0} {known : List Answer} {before after : Noted} {p q : Plan X} {r : Result X Want} → p ≡ q → Passes known before after p r → Passes known before after q r
pass_as {X} {known} {before} {after} {r = r} e h = subst (λ (p : Plan X). Passes known before after p r) e h

-- a pass whose notes nobody is told of
pub pass_unnoted : {X : Type 0} {known : List Answer} {before after notes : Noted} {p : Plan X} {r : Result X Want} → Passes known before after p r → Passes known notes notes (unnoted p) r
unfolding unnoted
pass_unnoted {r = Ok x} h = record { answers = quiet h.answers }
  where
    quiet : {X : Type 0} {known : List Answer} {before after notes : Noted} {p : Plan X} {x : X} → Settled known before after p x → Settled known notes notes (unnoted p) x
    quiet s = record { noted = []; added = refl; is = s.is; notes = λ look a. refl }
pass_unnoted {r = Err (Ask wanted)} h = record { answers = asks h.answers }
  where
    asks : {X : Type 0} {known : List Answer} {p : Plan X} {first : Bool} {qs : List Question} → Wants known p first qs → Wants known (unnoted p) first qs
    asks w = record { opens = w.opens; plain = w.plain; own = w.own }
pass_unnoted {r = Err NoMemory} h = record { answers = tt }

pub ruleset pass_laws = (pass_done, pass_err, pass_ok, pass_memory, pass_try)
