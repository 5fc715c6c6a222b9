-- Questions of a call between other events, part by part.
use Rattle.std.proofs.Common.{◌≡◌, inl, inr, ℕ, List, [], ◌++◌, Bool, true, Option, sym, ◌∙◌, ap, subst, append_assoc, append-nil}
use Rattle.std.specs.List.{All, list_all}
use Rattle.std.proofs.lemmas.Grind.{flat_map-append}
use Rattle.std.proofs.lemmas.List.Elements.{All-append}
use Rattle.cc_env.specs.Env.{EnvSeen}
use Rattle.cc_host.specs.Part.{since}
use Rattle.cc_host.specs.Probe.{opens, drops, open_of, drop_of}
use Rattle.cc_host.specs.Question.{Look, Answer, answers, answer_of, Agrees, NoTwice, Holds}
use Rattle.cc_host.specs.declared.event.Event.{Event}
use Rattle.cc_host.specs.declared.question.Outcome.{Outcome}
use Rattle.cc_host.specs.declared.question.Question.{Question}
use Rattle.cc_host.proofs.Parts.{since_since, since_extends}
use Rattle.cc_plan.specs.Questions.{CompileAsks, ArchiverAsks, LinkAsks, RunAsks}
use Rattle.cc_flags.specs.declared.settings.BuildConfig.{BuildConfig}
use Rattle.cc_tool.specs.Asked.{Asked, question_events}
use Rattle.cc_tool.specs.Asks.{Asks, IsWorlds}
use Rattle.cc_tool.specs.Own.{AnswersAmong}
use Rattle.cc_tool.specs.Probing.{is_asked}
use Rattle.cc_tool.proofs.Asides.{asked_none, aside_answers, asks_extends}
use Rattle.cc_tool.proofs.ProbingLemmas.{follows_then, excused_then, founded_then}
use Rattle.cc_tool.proofs.SettleLemmas.{agrees_before}
use Rattle.cc_build.specs.Kept.{Aside, AsksOn, Asking}
use Rattle.cc_build.proofs.Going.{part_is}

module _ (steady : Bool) (world : Question → Outcome) (dir : List ℕ) (questions : Look → Question → Type 0) where
  -- a part of questions alone
  pub on_asks : (before after : List Event) (known new : List Answer) → Asks steady world dir before after known new → Holds new (λ look. AnswersAmong (questions look) (since before after)) → AsksOn steady world dir questions (since before after) known new
  on_asks before after known new k own =
      let same : since before after ≡ k.part = part_is before after k.part k.extends in
      subst (λ (p : List Event). AsksOn steady world dir questions p known new) (sym same)
      (record {
        answered = k.answered;
        once = k.once;
        closed = k.closed;
        excused = k.excused;
        founded = k.founded;
        probing = k.probing;
        dropped = k.dropped;
        honest = k.honest;
        own = subst (λ (p : List Event). Holds new (λ look. AnswersAmong (questions look) p)) same own;
      })

  -- a part without a question
  pub on_none : (part : List Event) (known : List Answer) → question_events part ≡ [] → AsksOn steady world dir questions part known known
  on_none part known none =
      let k : Asked steady world dir questions part = asked_none steady world dir questions part none in
      let no_answer : answers part ≡ [] = aside_answers part none in
      record {
        answered = sym (ap (λ l. known ++ l) no_answer ∙ append-nil known);
        once = λ n. n;
        closed = k.closed;
        excused = k.excused;
        founded = k.founded;
        probing = k.probing;
        dropped = k.dropped;
        honest = k.honest;
        own = record { under = λ look agree. k.own.under look (subst (Agrees look) (sym no_answer) tt) };
      }

  -- one part after another
  pub on_then : (a b : List Event) (known mid new : List Answer) → AsksOn steady world dir questions a known mid → AsksOn steady world dir questions b mid new → AsksOn steady world dir questions (a ++ b) known new
  on_then a b known mid new s t =
      let f = follows_then dir [] [] [] a b s.probing s.dropped t.probing t.dropped in
      let both : answers (a ++ b) ≡ answers a ++ answers b = flat_map-append answer_of a b in
      record {
        answered = t.answered ∙ ap (λ l. l ++ answers b) s.answered ∙ append_assoc known (answers a) (answers b) ∙ ap (λ l. known ++ l) (sym both);
        once = λ n. t.once (s.once n);
        closed = flat_map-append drop_of a b ∙ ap (λ l. l ++ drops b) s.closed ∙ ap (λ l. opens a ++ l) t.closed ∙ sym (flat_map-append open_of a b);
        excused = excused_then a b s.excused t.excused;
        founded = founded_then a b s.founded t.founded;
        probing = f.0;
        dropped = f.1;
        honest = λ h. subst (λ (l : List Answer). All (IsWorlds world) l) (sym both) (All-append (IsWorlds world) (answers a) (answers b) (s.honest h) (t.honest h));
        own = record {
          under = λ look agree.
              subst (λ (l : List Answer). All (λ p. questions look p.0) l) (sym both)
              (All-append (λ p. questions look p.0) (answers a) (answers b) (s.own.under look (agrees_before look mid (answers b) (subst (Agrees look) t.answered agree))) (t.own.under look agree));
        };
      }

  -- what a call whose answers began empty asked
  pub on_asked : (part : List Event) (new : List Answer) → AsksOn steady world dir questions part [] new → Asked steady world dir questions part × (new ≡ answers part)
  on_asked part new k = (
    record {
      once = subst NoTwice k.answered (k.once tt);
      closed = k.closed;
      excused = k.excused;
      founded = k.founded;
      probing = k.probing;
      dropped = k.dropped;
      honest = k.honest;
      own = subst (λ (l : List Answer). Holds l (λ look. AnswersAmong (questions look) part)) k.answered k.own;
    },
    k.answered,
  )

  module _ {X : Type 0} (log : X → List Event) (patience : X → Option ℕ) where
    -- a call that asks alone
    pub asking_of : (old mid new : X) (known after : List Answer) → Asks steady world dir (log old) (log mid) known after → Holds after (λ look. AnswersAmong (questions look) (since (log old) (log mid))) → patience mid ≡ patience old → new ≡ mid → Asking steady world dir questions log patience old new known after
    asking_of old mid new known after k own patient same =
        subst (λ (x : X). Asking steady world dir questions log patience old x known after) (sym same)
        (record { patient = patient; extends = asks_extends steady world dir (log old) (log mid) known after k; asks = on_asks (log old) (log mid) known after k own })

    -- one call after another
    pub asking_then : (old mid new : X) (known middle after : List Answer) → Asking steady world dir questions log patience old mid known middle → Asking steady world dir questions log patience mid new middle after → Asking steady world dir questions log patience old new known after
    asking_then old mid new known middle after a b = record {
      patient = b.patient ∙ a.patient;
      extends = since_extends (log old) (log mid) (log new) a.extends b.extends;
      asks = subst (λ (p : List Event). AsksOn steady world dir questions p known after) (sym (since_since (log old) (log mid) (log new) a.extends b.extends))
          (on_then (since (log old) (log mid)) (since (log mid) (log new)) known middle after a.asks b.asks);
    }

    -- a call that asks nothing
    pub asking_aside : (old new : X) (known : List Answer) → Aside log patience old new → Asking steady world dir questions log patience old new known known
    asking_aside old new known a = record { patient = a.patient; extends = a.extends; asks = on_none (since (log old) (log new)) known a.asks_none }

    -- a call before one that asks nothing
    pub asking_before : (old mid new : X) (known after : List Answer) → Asking steady world dir questions log patience old mid known after → Aside log patience mid new → Asking steady world dir questions log patience old new known after
    asking_before old mid new known after a b = asking_then old mid new known after after a (asking_aside mid new after b)

-- a call that asks alone, with its folder and its answers by other names
pub asked_for : (steady : Bool) (world : Question → Outcome) (questions : Look → Question → Type 0) {X : Type 0} (log : X → List Event) (patience : X → Option ℕ) (dir folder : List ℕ) (old mid new : X) (known after known' : List Answer) → dir ≡ folder → Asks steady world dir (log old) (log mid) known after → Holds after (λ look. AnswersAmong (questions look) (since (log old) (log mid))) → patience mid ≡ patience old → new ≡ mid → known' ≡ after → Asking steady world folder questions log patience old new known known'
asked_for steady world questions log patience dir folder old mid new known after known' same_dir k own patient same answered =
    subst (λ (d : List ℕ). Asking steady world d questions log patience old new known known') same_dir
    (subst (λ (l : List Answer). Asking steady world dir questions log patience old new known l) (sym answered) (asking_of steady world dir questions log patience old mid new known after k own patient same))

-- what the answers settle holds under them, by another name
pub holds_at : (known after : List Answer) (P : Look → Type 0) → after ≡ known → ((look : Look) → Agrees look known → P look) → Holds after P
holds_at known after P same so = record { under = λ look agree. so look (subst (Agrees look) same agree) }

-- questions alone were asked
pub quiet_of : (steady : Bool) (world : Question → Outcome) (dir : List ℕ) (old mid new : List Event) (known after : List Answer) → Asks steady world dir old mid known after → new ≡ mid → list_all is_asked (since old new) ≡ true
quiet_of steady world dir old mid new known after k same = ap (λ l. list_all is_asked (since old l)) same ∙ ap (list_all is_asked) (part_is old mid k.part k.extends) ∙ k.asked

-- the answers so far are among the later ones
pub agrees_earlier : (look : Look) (known new more : List Answer) → new ≡ known ++ more → Agrees look new → Agrees look known
agrees_earlier look known new more grows agree = agrees_before look known more (subst (Agrees look) grows agree)

-- ---- the questions of a run

module _ (set : BuildConfig) (env : EnvSeen) (part : List Event) (new : List Answer) where
  pub of_compiles : Holds new (λ look. AnswersAmong (CompileAsks set env look) part) → Holds new (λ look. AnswersAmong (RunAsks set env look) part)
  unfolding RunAsks
  of_compiles own = record { under = λ look agree i d l. inl (own.under look agree i d l) }

  pub of_archiver : Holds new (λ look. AnswersAmong (ArchiverAsks set env look) part) → Holds new (λ look. AnswersAmong (RunAsks set env look) part)
  unfolding RunAsks
  of_archiver own = record { under = λ look agree i d l. inr (inl (own.under look agree i d l)) }

  pub of_links : Holds new (λ look. AnswersAmong (LinkAsks set env look) part) → Holds new (λ look. AnswersAmong (RunAsks set env look) part)
  unfolding RunAsks
  of_links own = record { under = λ look agree i d l. inr (inr (own.under look agree i d l)) }
