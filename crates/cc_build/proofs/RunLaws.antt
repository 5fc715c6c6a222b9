-- What is read from the part of stages: which commands were started, and how they ended.
use Rattle.std.proofs.Common.{◌≡◌, ◌+◌, List, [], ◌∷◌, ◌++◌, Bool, true, false, Ok, refl, sym, ◌∙◌, ap, ap₂, subst, append_assoc, append-nil}
use Rattle.std.specs.List.{list_all}
use Rattle.std.proofs.lemmas.Bool.{and_parts}
use Rattle.std.proofs.lemmas.Grind.{flat_map-append}
use Rattle.std.proofs.lemmas.List.{map-append}
use Rattle.cc_host.specs.Part.{Step, step_of}
use Rattle.cc_host.specs.declared.event.Event.{Event}
use Rattle.cc_host.specs.declared.event.Event.TheVariants.{Started, Ended, Abandoned, Turn}
use Rattle.cc_run.specs.Part.{started, started_of, missing}
use Rattle.cc_run.specs.Planned.{Asked, asked, asked_by}
use Rattle.cc_run.specs.declared.planned.Planned.{Planned}
use Rattle.cc_run.specs.declared.planned.Shows.{Shows}
use Rattle.cc_tool.specs.Probing.{is_asked}
use Rattle.cc_build.specs.Children.{AllWell}
use Rattle.cc_build.specs.Stage.{Stage, calls, beside, in_turn, tried, behind_first, written, written_children, commands_of, commands_in, children_of, children_in}
use Rattle.cc_build.specs.Stage.Stage.{Calls, Asks, Tries, RunsOne, RunsAll}
use Rattle.cc_build.specs.Went.{Terms, Means, Tried, RanAll, RanOne, Did, Went}
use Rattle.cc_build.proofs.ChildLaws.{IsAside, well_then, well_nothing, aside_well}
use Rattle.cc_build.proofs.RanLaws.{said_all, said_one}
use Rattle.cc_build.proofs.Trying.{done_of, done_sole, sole_aside, sole_started}

-- ---- commands that were run

-- each of these commands was started, none was missing, and each has ended with 0
record Leaves (cmds : List Asked) (part : List Event) : Type 0 where
  well : AllWell part
  begun : started part ≡ cmds
  found : missing part ≡ []

ran_all : (t : Terms) (ps : List Planned) (part : List Event) (x y : Means) → RanAll t ps part (Ok tt) x y → Leaves (asked t.shows ps) part
ran_all t ps part x y h =
    let s = said_all t ps part (Ok tt) x y h in
    record { well = record { settled = s.idle; sound = s.ends.3 }; begun = s.ends.2; found = s.missing_is }

ran_one : (t : Terms) (p : Planned) (part : List Event) (x y : Means) → RanOne t p part (Ok tt) x y → Leaves (asked t.shows (p ∷ [])) part
ran_one t p part x y h =
    let s = said_one t p part (Ok tt) x y h in
    record { well = record { settled = s.idle; sound = s.ends.3 }; begun = s.ends.2; found = s.missing_is }

-- no program of such a run was missing
pub all_found : (t : Terms) (ps : List Planned) (part : List Event) (x y : Means) → RanAll t ps part (Ok tt) x y → missing part ≡ []
all_found t ps part x y h = (ran_all t ps part x y h).found

pub one_found : (t : Terms) (p : Planned) (part : List Event) (x y : Means) → RanOne t p part (Ok tt) x y → missing part ≡ []
one_found t p part x y h = (ran_one t p part x y h).found

-- ---- events of other stages

-- each of these commands was started, and each has ended with 0
record Leads (cmds : List Asked) (part : List Event) : Type 0 where
  well : AllWell part
  begun : started part ≡ cmds

-- no command of a run was started, and none ended
abbrev StartsNone : Event → Type 0
StartsNone event = IsAside event × (started_of event ≡ [])

step_aside : (event : Event) (step : Step) → step_of event ≡ step ∷ [] → StartsNone event
step_aside (Started id role cmd pipes held) step e = absurd (cc)
step_aside (Ended id status) step e = absurd (cc)
step_aside (Abandoned id) step e = absurd (cc)
step_aside (Turn count) step e = absurd (cc)
step_aside event step e = (((λ ls. refl), (λ ls. refl)), refl)

asked_aside : (event : Event) → is_asked event ≡ true → StartsNone event
asked_aside (Started id role cmd pipes held) e = absurd (cc)
asked_aside (Ended id status) e = absurd (cc)
asked_aside (Abandoned id) e = absurd (cc)
asked_aside (Turn count) e = absurd (cc)
asked_aside event e = (((λ ls. refl), (λ ls. refl)), refl)

leads_nothing : Leads [] []
leads_nothing = record { well = well_nothing; begun = refl }

aside_leads : (event : Event) (part : List Event) → StartsNone event → Leads [] part → Leads [] (event ∷ part)
aside_leads event part a l = record {
  well = well_then (event ∷ []) part (aside_well (event ∷ []) (a.0, tt)) l.well;
  begun = ap (λ s. s ++ started part) a.1 ∙ l.begun;
}

asked_leads : (part : List Event) → list_all is_asked part ≡ true → Leads [] part
asked_leads [] h = leads_nothing
asked_leads (event ∷ part) h =
    let k = and_parts (is_asked event) (list_all is_asked part) h in
    aside_leads event part (asked_aside event k.0) (asked_leads part k.1)

tried_leads : (t : Terms) (p : Planned) (refused : Bool) (part : List Event) → Tried t p refused part → Leads [] part
tried_leads t p refused part d =
    let sole = done_sole p refused part (done_of t p part refused d) in
    record { well = aside_well part (sole_aside part sole); begun = sole_started part sole }

-- ---- stages

pub commands_then : (a b : List Stage) → commands_in (a ++ b) ≡ commands_in a ++ commands_in b
commands_then a b = flat_map-append commands_of a b

-- calls of the host run no command
pub commands_calls : (steps : List Step) → commands_in (calls steps) ≡ []
commands_calls [] = refl
commands_calls (step ∷ steps) = commands_calls steps

pub commands_beside : (ps : List Planned) → commands_in (beside ps) ≡ ps
commands_beside [] = refl
commands_beside (p ∷ []) = refl
commands_beside (p ∷ q ∷ ps) = append-nil (p ∷ q ∷ ps)

pub commands_in_turn : (ps : List Planned) → commands_in (in_turn ps) ≡ ps
commands_in_turn [] = refl
commands_in_turn (p ∷ ps) = ap (λ l. p ∷ l) (commands_in_turn ps)

pub commands_tried : (refused : Bool) (ps : List Planned) → commands_in (tried refused ps) ≡ ps
commands_tried refused [] = refl
commands_tried refused (p ∷ ps) = ap (λ l. p ∷ l) (commands_in_turn ps)

-- the commands of a library, in either form
pub commands_written : (one_form refused : Bool) (ps : List Planned) → commands_in (written one_form refused ps) ≡ ps
commands_written true refused ps = commands_in_turn ps
commands_written false refused ps = commands_tried refused ps

-- ---- the children of stages

pub children_then : (a b : List Stage) → children_in (a ++ b) ≡ children_in a ++ children_in b
children_then a b = flat_map-append children_of a b

pub children_calls : (steps : List Step) → children_in (calls steps) ≡ []
children_calls [] = refl
children_calls (step ∷ steps) = children_calls steps

pub children_beside : (ps : List Planned) → children_in (beside ps) ≡ ps
children_beside [] = refl
children_beside (p ∷ []) = refl
children_beside (p ∷ q ∷ ps) = append-nil (p ∷ q ∷ ps)

pub children_in_turn : (ps : List Planned) → children_in (in_turn ps) ≡ ps
children_in_turn [] = refl
children_in_turn (p ∷ ps) = ap (λ l. p ∷ l) (children_in_turn ps)

pub children_tried : (refused : Bool) (ps : List Planned) → children_in (tried refused ps) ≡ behind_first ps
children_tried refused [] = refl
children_tried refused (p ∷ ps) = children_in_turn ps

pub children_written : (one_form refused : Bool) (ps : List Planned) → children_in (written one_form refused ps) ≡ written_children one_form ps
children_written true refused ps = children_in_turn ps
children_written false refused ps = children_tried refused ps

leads_then : (shows : Shows) (a b : List Planned) (p q : List Event) → Leads (asked shows a) p → Leads (asked shows b) q → Leads (asked shows (a ++ b)) (p ++ q)
leads_then shows a b p q l m = record {
  well = well_then p q l.well m.well;
  begun = flat_map-append started_of p q ∙ ap₂ (λ u v. u ++ v) l.begun m.begun ∙ sym (map-append (asked_by shows) a b);
}

leads_of : (cmds : List Asked) (part : List Event) → Leaves cmds part → Leads cmds part
leads_of cmds part l = record { well = l.well; begun = l.begun }

did_leads : (t : Terms) (s : Stage) (part : List Event) (x y : Means) → Did t s part x y → Leads (asked t.shows (children_of s)) part
did_leads t (Calls step) part x y d = subst (λ (l : List Event). Leads [] l) (sym d.1.0) (aside_leads d.0 [] (step_aside d.0 step d.1.1) leads_nothing)
did_leads t Asks part x y d = asked_leads part d.0
did_leads t (Tries refused p) part x y d = tried_leads t p refused part d.0
did_leads t (RunsOne p) part x y d = leads_of (asked t.shows (p ∷ [])) part (ran_one t p part x y d)
did_leads t (RunsAll ps) part x y d = leads_of (asked t.shows ps) part (ran_all t ps part x y d)

went_leads : (t : Terms) (stages : List Stage) (part : List Event) (x y : Means) → Went t stages part x y → Leads (asked t.shows (children_in stages)) part
went_leads t [] part x y w = subst (λ (l : List Event). Leads [] l) (sym w.0) leads_nothing
went_leads t (s ∷ ss) part x y w =
    subst (λ (l : List Event). Leads (asked t.shows (children_of s ++ children_in ss)) l) (sym w.3.0)
    (leads_then t.shows (children_of s) (children_in ss) w.0 w.1 (did_leads t s w.0 x w.2 w.3.1) (went_leads t ss w.1 w.2 y w.3.2))

-- the commands of the stages were started, but one that was tried, and nothing else
pub went_started : (t : Terms) (stages : List Stage) (part : List Event) (x y : Means) → Went t stages part x y → started part ≡ asked t.shows (children_in stages)
went_started t stages part x y w = (went_leads t stages part x y w).begun

-- and each of them has ended with 0
pub went_well : (t : Terms) (stages : List Stage) (part : List Event) (x y : Means) → Went t stages part x y → AllWell part
went_well t stages part x y w = (went_leads t stages part x y w).well

-- a part that did two lists of stages is cut between them
pub went_split : (t : Terms) (a b : List Stage) (part : List Event) (x z : Means) → Went t (a ++ b) part x z → (p q : List Event) × (y : Means) × ((part ≡ p ++ q) × Went t a p x y × Went t b q y z)
went_split t [] b part x z w = ([], part, x, (refl, (refl, refl), w))
went_split t (s ∷ a) b part x z w =
    let r = went_split t a b w.1 w.2 z w.3.2 in
    (w.0 ++ r.0, r.1, r.2, (w.3.0 ∙ ap (λ l. w.0 ++ l) r.3.0 ∙ sym (append_assoc w.0 r.0 r.1), (w.0, r.0, w.2, (refl, w.3.1, r.3.1)), r.3.2))
