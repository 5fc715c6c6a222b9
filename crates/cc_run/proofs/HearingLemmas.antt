-- Laws on the lines that news give.
use Rattle.std.proofs.Common.{◌≡◌, ℕ, ◌+◌, ◌<◌, zero, suc, Bool, List, [], ◌∷◌, ◌++◌, length, take, drop, get_or, refl, sym, ◌∙◌, ap, subst, append_assoc, arith}
use Rattle.std.specs.Prelude.{Option, None, Some, Result, Ok, Err, OnOk}
use Rattle.std.specs.Result.{result_and}
use Rattle.std.specs.List.{flat_map, slice_get}
use Rattle.std.proofs.lemmas.List.{append-nil, take_more}
use Rattle.std.proofs.lemmas.Grind.{common_steps, flat_map-append}
use Rattle.cc_host.specs.Event.{reported, heard, unread, ended}
use Rattle.cc_host.specs.declared.event.Event.{Event}
use Rattle.cc_host.specs.declared.event.News.{News}
use Rattle.cc_host.specs.declared.event.Status.{Status}
use Rattle.cc_run.specs.Forwarded.{ended_lines}
use Rattle.cc_run.specs.Hearing.{of_child, children_after, children_from, end_lines, owed, owed_from}
use Rattle.cc_run.specs.Run.{Run, ended_run}
use Rattle.cc_run.specs.declared.planned.Planned.{Planned}
use Rattle.cc_run.specs.declared.planned.Shows.{Shows}
use Rattle.cc_run.specs.declared.print.Notice.{Notice}
use Rattle.cc_run.specs.declared.running.Child.{Child}

pub children_both : (cs : List Child) (a b : List Event) → children_from cs (a ++ b) ≡ children_from (children_from cs a) b
children_both cs [] b = refl
children_both cs (e ∷ a) b = children_both (children_after cs e) a b

pub owed_both : (shows : Shows) (warns : Bool) (cmds : List Planned) (cs : List Child) (a b : List Event) → owed_from shows warns cmds cs (a ++ b) ≡ owed_from shows warns cmds cs a ++ owed_from shows warns cmds (children_from cs a) b
owed_both shows warns cmds cs [] b = refl
owed_both shows warns cmds cs (e ∷ a) b = ap (λ l. owed shows warns cmds cs e ++ l) (owed_both shows warns cmds (children_after cs e) a b) ∙ sym (append_assoc (owed shows warns cmds cs e) _ _)

-- what a child was heard of, in front of its end
abbrev pub front_of : News → List Event
front_of n = heard n.id n.piece ++ unread n.id n.unread

pub reported_owed : (shows : Shows) (warns : Bool) (cmds : List Planned) (cs : List Child) (n : News) → owed_from shows warns cmds cs (reported n) ≡ owed_from shows warns cmds cs (front_of n) ++ owed_from shows warns cmds (children_from cs (front_of n)) (ended n.id n.ended)
reported_owed shows warns cmds cs n = owed_both shows warns cmds cs (front_of n) (ended n.id n.ended)

-- the end of a child by its command
pub end_at : (shows : Shows) (warns : Bool) (cmds : List Planned) (status : Status) (c : Child) (d : Planned) → c.place < length cmds → end_lines shows warns cmds status c ≡ ended_lines shows warns (get_or cmds c.place d) status c
end_at shows warns cmds status c d lt = at cmds c.place lt
  where
    at : (cmds : List Planned) (place : ℕ) → place < length cmds → flat_map (λ p. ended_lines shows warns p status c) (take 1 (drop place cmds)) ≡ ended_lines shows warns (get_or cmds place d) status c
    at (p ∷ cmds) zero lt = append-nil (ended_lines shows warns p status c)
    at (p ∷ cmds) (suc place) lt = at cmds place (omega arith)
    at [] place lt = absurd (omega arith)

more_reported : (news : List News) (i : ℕ) (d : News) → i < length news → flat_map reported (take (i + 1) news) ≡ flat_map reported (take i news) ++ reported (get_or news i d)
more_reported news i d lt = ap (flat_map reported) (take_more news i d lt) ∙ flat_map-append reported (take i news) (get_or news i d ∷ []) ∙ ap (λ l. flat_map reported (take i news) ++ l) (append-nil (reported (get_or news i d)))

-- the news one by one
pub news_children : (cs : List Child) (news : List News) (i : ℕ) (d : News) → i < length news → children_from cs (flat_map reported (take (i + 1) news)) ≡ children_from (children_from cs (flat_map reported (take i news))) (reported (get_or news i d))
news_children cs news i d lt = ap (children_from cs) (more_reported news i d lt) ∙ children_both cs (flat_map reported (take i news)) (reported (get_or news i d))

pub news_owed : (shows : Shows) (warns : Bool) (cmds : List Planned) (cs : List Child) (news : List News) (i : ℕ) (d : News) → i < length news → owed_from shows warns cmds cs (flat_map reported (take (i + 1) news)) ≡ owed_from shows warns cmds cs (flat_map reported (take i news)) ++ owed_from shows warns cmds (children_from cs (flat_map reported (take i news))) (reported (get_or news i d))
news_owed shows warns cmds cs news i d lt = ap (owed_from shows warns cmds cs) (more_reported news i d lt) ∙ owed_both shows warns cmds cs (flat_map reported (take i news)) (reported (get_or news i d))

-- facts that hold where both went well
pub ok_both : {T U E : Type 0} {A B C : Type 0} (r : Result T E) (s t : Result U E) → t ≡ result_and r s → OnOk r A → OnOk s B → (A → B → C) → OnOk t C
ok_both {C = C} r s t e a b f = subst (λ x. OnOk x C) (sym e) (both r s a b f)
  where
    both : {T U E : Type 0} {A B C : Type 0} (r : Result T E) (s : Result U E) → OnOk r A → OnOk s B → (A → B → C) → OnOk (result_and r s) C
    both (Ok x) (Ok y) a b f = f a b
    both (Ok x) (Err e) a b f = tt
    both (Err e) s a b f = tt

pub ok_three : {T U E : Type 0} {A B C D : Type 0} (r : Result T E) (s t : Result U E) → t ≡ result_and r s → OnOk r A → OnOk r B → OnOk s C → (A → B → C → D) → OnOk t D
ok_three {D = D} r s t e a b c f = subst (λ x. OnOk x D) (sym e) (three r s a b c f)
  where
    three : {T U E : Type 0} {A B C D : Type 0} (r : Result T E) (s : Result U E) → OnOk r A → OnOk r B → OnOk s C → (A → B → C → D) → OnOk (result_and r s) D
    three (Ok x) (Ok y) a b c f = f a b c
    three (Ok x) (Err e) a b c f = tt
    three (Err e) s a b c f = tt

pub ok_pair : {T E : Type 0} {A B C : Type 0} (r : Result T E) → OnOk r A → OnOk r B → (A → B → C) → OnOk r C
ok_pair (Ok x) a b f = f a b
ok_pair (Err e) a b f = tt

-- one child more was settled
pub more_children : (cs now new : List Child) (news : List News) (i : ℕ) (n : News) → i < length news → n ≡ get_or news i n → now ≡ children_from cs (flat_map reported (take i news)) → new ≡ children_from now (reported n) → new ≡ children_from cs (flat_map reported (take (i + 1) news))
more_children cs now new news i n lt at a b =
    b ∙ ap (λ l. children_from l (reported n)) a ∙ ap (λ m. children_from (children_from cs (flat_map reported (take i news))) (reported m)) at ∙ sym (news_children cs news i n lt)

pub more_lines : (shows : Shows) (warns : Bool) (cmds : List Planned) (cs now : List Child) (news : List News) (i : ℕ) (n : News) (first lines new : List Notice) → i < length news → n ≡ get_or news i n → now ≡ children_from cs (flat_map reported (take i news)) → lines ≡ first ++ owed_from shows warns cmds cs (flat_map reported (take i news)) → new ≡ lines ++ owed_from shows warns cmds now (reported n) → new ≡ first ++ owed_from shows warns cmds cs (flat_map reported (take (i + 1) news))
more_lines shows warns cmds cs now news i n first lines new lt at a c b =
    b ∙ ap (λ l. l ++ owed_from shows warns cmds now (reported n)) c ∙ append_assoc first _ _
    ∙ ap (λ l. first ++ (owed_from shows warns cmds cs (flat_map reported (take i news)) ++ owed_from shows warns cmds l (reported n))) a
    ∙ ap (λ m. first ++ (owed_from shows warns cmds cs (flat_map reported (take i news)) ++ owed_from shows warns cmds (children_from cs (flat_map reported (take i news))) (reported m))) at
    ∙ ap (λ l. first ++ l) (sym (news_owed shows warns cmds cs news i n lt))

-- the end of somebody else's child
pub foreign_lines : (shows : Shows) (warns : Bool) (cmds : List Planned) (cs now : List Child) (n : News) (status : Status) (first lines : List Notice) → n.ended ≡ Some status → of_child n.id (end_lines shows warns cmds status) now ≡ [] → now ≡ children_from cs (front_of n) → lines ≡ first ++ owed_from shows warns cmds cs (front_of n) → lines ≡ first ++ owed_from shows warns cmds cs (reported n)
foreign_lines shows warns cmds cs now n status first lines e z a b =
    b ∙ ap (λ l. first ++ l) (sym (reported_owed shows warns cmds cs n
    ∙ ap (λ l. owed_from shows warns cmds cs (front_of n) ++ l) (ap (λ x. owed_from shows warns cmds (children_from cs (front_of n)) (ended n.id x)) e ∙ append-nil _ ∙ ap (of_child n.id (end_lines shows warns cmds status)) (sym a) ∙ z)
    ∙ append-nil _))

-- the end of a child of the run
pub ended_owed : (shows : Shows) (warns : Bool) (cmds : List Planned) (cs now : List Child) (n : News) (status : Status) (c : Child) (p : Planned) (first lines new : List Notice) → n.ended ≡ Some status → of_child n.id (end_lines shows warns cmds status) now ≡ end_lines shows warns cmds status c → c.place < length cmds → now ≡ children_from cs (front_of n) → lines ≡ first ++ owed_from shows warns cmds cs (front_of n) → new ≡ lines ++ ended_lines shows warns (get_or cmds c.place p) status c → new ≡ first ++ owed_from shows warns cmds cs (reported n)
ended_owed shows warns cmds cs now n status c p first lines new e own lt a b d =
    let last : owed_from shows warns cmds (children_from cs (front_of n)) (ended n.id n.ended) ≡ ended_lines shows warns (get_or cmds c.place p) status c =
    ap (λ x. owed_from shows warns cmds (children_from cs (front_of n)) (ended n.id x)) e ∙ append-nil _ ∙ ap (of_child n.id (end_lines shows warns cmds status)) (sym a) ∙ own ∙ end_at shows warns cmds status c p lt in
    d ∙ ap (λ l. l ++ ended_lines shows warns (get_or cmds c.place p) status c) b ∙ append_assoc first _ _
    ∙ ap (λ l. first ++ l) (ap (λ l. owed_from shows warns cmds cs (front_of n) ++ l) (sym last) ∙ sym (reported_owed shows warns cmds cs n))

-- the end of a child whose command isn't there
pub end_none : (shows : Shows) (warns : Bool) (cmds : List Planned) (status : Status) (c : Child) → slice_get cmds c.place ≡ None → end_lines shows warns cmds status c ≡ []
end_none shows warns cmds status c e = ap (λ l. flat_map (λ p. ended_lines shows warns p status c) l) (at cmds c.place e)
  where
    at : (cmds : List Planned) (i : ℕ) → slice_get cmds i ≡ None → take 1 (drop i cmds) ≡ []
    at [] i e = grind (arith, common_steps)
    at (p ∷ ps) zero e = absurd (cc)
    at (p ∷ ps) (suc i) e = at ps i e
