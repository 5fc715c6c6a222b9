-- Stages done one after another.
use Rattle.std.proofs.Common.{◌≡◌, ℕ, List, [], ◌∷◌, ◌++◌, length, take, drop, get_or, ◌<◌, ◌+◌, suc, add-one, None, map, refl, sym, ◌∙◌, ap, subst, append-nil, append_assoc}
use Rattle.std.specs.List.{All, flat_map}
use Rattle.std.proofs.lemmas.Grind.{flat_map-append, take_at_read}
use Rattle.std.proofs.lemmas.List.{map-append, length-map, take-append-drop}
use Rattle.std.proofs.lemmas.List.Elements.{All-map}
use Rattle.std.proofs.Math.Seq.{drop-cons}
use Rattle.cc_host.specs.Part.{Step, since}
use Rattle.cc_host.specs.Command.{CommandSeen}
use Rattle.cc_host.specs.Part.Step.{Prints}
use Rattle.cc_host.specs.declared.event.Event.{Event}
use Rattle.cc_host.specs.declared.event.LineKind.{LineKind}
use Rattle.cc_host.specs.declared.event.Role.{Role}
use Rattle.cc_plan.specs.Link.{printed_line}
use Rattle.cc_plan.specs.Plan.{prints}
use Rattle.cc_host.proofs.Parts.{since_since}
use Rattle.cc_run.specs.declared.planned.Planned.{Planned}
use Rattle.cc_build.specs.Error.{ErrorSeen}
use Rattle.cc_build.specs.Seen.{stage_seen, stages_seen}
use Rattle.cc_build.specs.Stage.{Stage, calls, planned, in_turn}
use Rattle.cc_build.specs.Stage.Stage.{Calls, RunsOne}
use Rattle.cc_build.specs.Went.{Terms, Means, Went, Halted}
use Rattle.cc_build.specs.declared.stage.Stage.{Stage as Coded}
use Rattle.cc_build.specs.declared.stage.Stage.TheVariants.{Print, RunOne}
use Rattle.cc_plan.proofs.LineLemmas.{no_lines, next_line}
use Rattle.cc_build.proofs.Going.{went_then, halted_more, halted_then}

module _ (ss : List Coded) (i : ℕ) (s : Coded) (within : i < length ss) (is : s ≡ get_or ss i s) where
  next_stage : stages_seen (take (i + 1) ss) ≡ stages_seen (take i ss) ++ stage_seen s ∷ []
  next_stage =
      let more : take (i + 1) ss ≡ take i ss ++ s ∷ [] = (take_at_read ss i s within).1 ∙ ap (λ r. take i ss ++ r ∷ []) (sym is) in
      ap stages_seen more ∙ map-append stage_seen (take i ss) (s ∷ [])

  around_stage : stages_seen ss ≡ stages_seen (take i ss) ++ ((stage_seen s ∷ []) ++ stages_seen (drop (i + 1) ss))
  around_stage =
      let rest : drop i ss ≡ s ∷ drop (i + 1) ss = drop-cons ss i s within ∙ ap (λ r. r ∷ drop (suc i) ss) (sym is) ∙ ap (λ n. s ∷ drop n ss) (sym (add-one i)) in
      ap stages_seen (sym (take-append-drop i ss)) ∙ map-append stage_seen (take i ss) (drop i ss) ∙ ap (λ l. stages_seen (take i ss) ++ stages_seen l) rest

  module _ (t : Terms) (old mid new : List Event) (x y z : Means) (first : mid ≡ old ++ since old mid) (last : new ≡ mid ++ since mid new) (went : Went t (stages_seen (take i ss)) (since old mid) x y) where
    -- the stages so far were done, and one more
    pub done_more : Went t (stage_seen s ∷ []) (since mid new) y z → Went t (stages_seen (take (i + 1) ss)) (since old new) x z
    done_more v =
        subst (λ (part : List Event). Went t (stages_seen (take (i + 1) ss)) part x z) (sym (since_since old mid new first last))
        (subst (λ (l : List Stage). Went t l (since old mid ++ since mid new) x z) (sym next_stage) (went_then t (stages_seen (take i ss)) (stage_seen s ∷ []) (since old mid) (since mid new) x y z went v))

    -- the stages so far were done, and the next was refused
    pub done_refused : (e : ErrorSeen) → Halted t None (stage_seen s ∷ []) (since mid new) e y z → Halted t None (stages_seen ss) (since old new) e x z
    done_refused e h =
        subst (λ (part : List Event). Halted t None (stages_seen ss) part e x z) (sym (since_since old mid new first last))
        (subst (λ (l : List Stage). Halted t None l (since old mid ++ since mid new) e x z) (sym around_stage)
        (halted_then t None (stages_seen (take i ss)) ((stage_seen s ∷ []) ++ stages_seen (drop (i + 1) ss)) (since old mid) (since mid new) e x y z went (halted_more t None (stage_seen s ∷ []) (stages_seen (drop (i + 1) ss)) (since mid new) e y z h)))

-- ---- the list that is done

pub seen_more : (a : List Coded) (s : Coded) → stages_seen (a ++ s ∷ []) ≡ stages_seen a ++ stage_seen s ∷ []
seen_more a s = map-append stage_seen a (s ∷ [])

-- commands that run alone, as stages
pub alone_seen : (cmds : List Planned) (ss : List Coded) → ss ≡ map RunOne cmds → stages_seen ss ≡ in_turn cmds
alone_seen [] ss is = ap stages_seen is
alone_seen (cmd ∷ cmds) ss is = ap stages_seen is ∙ ap (λ l. RunsOne cmd ∷ l) (alone_seen cmds _ refl)

-- no line was added
pub lines_none : (ss : List Stage) (kind : LineKind) → ss ≡ ss ++ calls (prints kind [])
lines_none ss kind = sym (ap (λ l. ss ++ calls l) (no_lines kind) ∙ append-nil ss)

-- the lines so far were added, and one more
pub lines_more : (old now new : List Coded) (kind : LineKind) (lines : List (List ℕ)) (i : ℕ) (line copy : List ℕ) → i < length lines → line ≡ get_or lines i line → copy ≡ line → stages_seen now ≡ stages_seen old ++ calls (prints kind (take i lines)) → new ≡ now ++ Print kind copy ∷ [] → stages_seen new ≡ stages_seen old ++ calls (prints kind (take (i + 1) lines))
lines_more old now new kind lines i line copy within is same so more =
    let one : stages_seen new ≡ stages_seen now ++ Calls (Prints kind (printed_line line)) ∷ [] = ap stages_seen more ∙ seen_more now (Print kind copy) ∙ ap (λ l. stages_seen now ++ Calls (Prints kind (printed_line l)) ∷ []) same in
    let next : calls (prints kind (take (i + 1) lines)) ≡ calls (prints kind (take i lines)) ++ Calls (Prints kind (printed_line line)) ∷ [] = ap calls (next_line kind lines i line within is) ∙ map-append Calls (prints kind (take i lines)) (Prints kind (printed_line line) ∷ []) in
    one ∙ ap (λ l. l ++ Calls (Prints kind (printed_line line)) ∷ []) so ∙ append_assoc (stages_seen old) (calls (prints kind (take i lines))) (Calls (Prints kind (printed_line line)) ∷ []) ∙ ap (λ l. stages_seen old ++ l) (sym next)

-- commands that are planned in a role have it, and are as many
pub have_role : (role : Role) (cmds : List CommandSeen) (ps : List Planned) → ps ≡ planned role cmds → All (λ (p : Planned). p.role ≡ role) ps
have_role role cmds ps is = subst (λ (l : List Planned). All (λ (p : Planned). p.role ≡ role) l) (sym is) (All-map (λ (p : Planned). p.role ≡ role) (λ (cmd : CommandSeen). record { role = role; cmd = cmd; message = None }) cmds (λ _ _ _. refl))

pub as_many : (role : Role) (cmds : List CommandSeen) (ps : List Planned) → ps ≡ planned role cmds → length ps ≡ length cmds
as_many role cmds ps is = ap length is ∙ length-map cmds (λ (cmd : CommandSeen). record { role = role; cmd = cmd; message = None })

-- the warnings so far were added, and one more
pub notes_more : (f : List ℕ → List Step) (now new : List Coded) (texts : List (List ℕ)) (i : ℕ) (text same : List ℕ) → i < length texts → text ≡ get_or texts i text → same ≡ text → stages_seen now ≡ calls (flat_map f (take i texts)) → stages_seen new ≡ stages_seen now ++ calls (f same) → stages_seen new ≡ calls (flat_map f (take (i + 1) texts))
notes_more f now new texts i text same within is as_text so_far added =
    let more : take (i + 1) texts ≡ take i texts ++ text ∷ [] = (take_at_read texts i text within).1 ∙ ap (λ s. take i texts ++ s ∷ []) (sym is) in
    let both : flat_map f (take (i + 1) texts) ≡ flat_map f (take i texts) ++ f text = ap (flat_map f) more ∙ flat_map-append f (take i texts) (text ∷ []) ∙ ap (λ l. flat_map f (take i texts) ++ l) (append-nil (f text)) in
    added ∙ ap (λ l. l ++ calls (f same)) so_far ∙ ap (λ s. calls (flat_map f (take i texts)) ++ calls (f s)) as_text
    ∙ sym (map-append Calls (flat_map f (take i texts)) (f text)) ∙ ap calls (sym both)

-- no warning was added
pub notes_none : (f : List ℕ → List Step) (texts : List (List ℕ)) (ss : List Coded) → ss ≡ [] → stages_seen ss ≡ calls (flat_map f (take 0 texts))
notes_none f texts ss none = ap stages_seen none

-- the stages of some steps were added, and then those of more
pub adds_both : (a b c : List Coded) (k l : List Step) → stages_seen b ≡ stages_seen a ++ calls k → stages_seen c ≡ stages_seen b ++ calls l → stages_seen c ≡ stages_seen a ++ calls (k ++ l)
adds_both a b c k l first second =
    second ∙ ap (λ s. s ++ calls l) first ∙ append_assoc (stages_seen a) (calls k) (calls l) ∙ ap (λ s. stages_seen a ++ s) (sym (map-append Calls k l))
