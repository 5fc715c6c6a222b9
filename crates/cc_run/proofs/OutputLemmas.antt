-- Laws on one command that is run in one call of the host.
use Rattle.std.proofs.Common.{◌≡◌, ◌≤◌, ◌⊎◌, inl, inr, ℕ, zero, suc, Bool, true, false, List, [], ◌∷◌, ◌++◌, ◌||◌, length, take, refl, sym, ◌∙◌, ap, subst, append_assoc, arith}
use Rattle.std.specs.Prelude.{Err, Option}
use Rattle.std.proofs.lemmas.List.{append-nil}
use Rattle.cc_text.specs.Words.{when}
use Rattle.cc_host.specs.Part.{since}
use Rattle.cc_host.proofs.Parts.{since_append}
use Rattle.cc_host.specs.declared.event.Event.{Event}
use Rattle.cc_host.specs.declared.event.Event.TheVariants.{Ran}
use Rattle.cc_host.specs.declared.event.OutputKind.{OutputKind}
use Rattle.cc_host.specs.declared.event.Status.{Status}
use Rattle.cc_run.specs.Output.{IsOutput, IsRanTo, RanWhole, behind}
use Rattle.cc_run.specs.Prints.{ArePrinted, IsPrintError, prints, print_fault}
use Rattle.cc_run.specs.Texts.{announced}
use Rattle.cc_run.specs.declared.error.RunError.{RunError}
use Rattle.cc_run.specs.declared.error.RunError.TheVariants.{ToolNotFound, Failed, StartFault, WaitFault, HostFault, JobFault, TurnsSpent, NoMemory}
use Rattle.cc_run.specs.declared.planned.Planned.{Planned}
use Rattle.cc_run.specs.declared.planned.Shows.{Shows}
use Rattle.cc_run.specs.declared.print.Notice.{Notice}

-- where there is one line at most, a print that faulted has printed none
one_faulted : (wanted : Bool) (line : Notice) (e : RunError) (part : List Event) → (e ≡ NoMemory → ⊥) → ArePrinted {T = Unit {0}} (when wanted (line ∷ [])) (Err e) part → part ≡ print_fault e
one_faulted wanted line e part never (n, (le, inl m, h)) = absurd (never m)
one_faulted false line e part never (n, (le, inr lt, h)) = absurd (omega (arith, lt))
one_faulted true line e part never (zero, (le, inr lt, h)) = h
one_faulted true line e part never (suc n, (le, inr lt, h)) = absurd (omega (arith, lt))

-- and one without memory has printed none or it
one_unprinted : (wanted : Bool) (line : Notice) (part : List Event) → ArePrinted {T = Unit {0}} (when wanted (line ∷ [])) (Err NoMemory) part → (part ≡ []) ⊎ (part ≡ prints (when wanted (line ∷ [])))
one_unprinted wanted line part (zero, (le, m, h)) = inl h
one_unprinted false line part (suc n, (le, m, h)) = absurd (omega (arith, le))
one_unprinted true line part (suc zero, (le, m, h)) = inr h
one_unprinted true line part (suc (suc n), (le, m, h)) = absurd (omega (arith, le))

module _ (shows : Shows) (p : Planned) (out : OutputKind) (always : Bool) (ignored : Option (List ℕ)) where
  -- the line before it couldn't be printed
  pub unprinted : (e : RunError) (part : List Event) → ArePrinted {T = Unit {0}} (announced shows p.cmd) (Err e) part → IsPrintError e → IsOutput shows p out always ignored (Err e) part
  unfolding announced
  unprinted (HostFault call why) part h k = (k, inl (one_faulted shows.debug _ (HostFault call why) part (λ e. cc) h))
  unprinted NoMemory part h k = elim (one_unprinted shows.debug _ part h) [ inl x ↦ inl x | inr x ↦ inr (inl x) ]
  unprinted (ToolNotFound n) part h k = absurd k
  unprinted (Failed n s) part h k = absurd k
  unprinted (StartFault n) part h k = absurd k
  unprinted WaitFault part h k = absurd k
  unprinted JobFault part h k = absurd k
  unprinted TurnsSpent part h k = absurd k

  module _ (log mid ran new : List Event) (status : Status) (output stderr : List ℕ) where
    ran_event : Event
    ran_event = Ran p.role p.cmd (record { out = out; hear = shows.warnings || shows.listens }) status output stderr

    ran_part : mid ≡ log ++ since log mid → since log mid ≡ prints (announced shows p.cmd) → ran ≡ mid ++ ran_event ∷ [] → new ≡ ran ++ since ran new → since log new ≡ prints (announced shows p.cmd) ++ ran_event ∷ since ran new
    ran_part a b c d =
        ap (since log) (d ∙ ap (λ l. l ++ since ran new) (c ∙ ap (λ l. l ++ ran_event ∷ []) (a ∙ ap (λ l. log ++ l) b)) ∙ append_assoc (log ++ prints (announced shows p.cmd)) (ran_event ∷ []) (since ran new) ∙ append_assoc log (prints (announced shows p.cmd)) (ran_event ∷ since ran new))
        ∙ since_append log (prints (announced shows p.cmd) ++ ran_event ∷ since ran new)

    -- all lines were printed
    pub ran_to : (ls : List Notice) → mid ≡ log ++ since log mid → since log mid ≡ prints (announced shows p.cmd) → ran ≡ mid ++ Ran p.role p.cmd (record { out = out; hear = shows.warnings || shows.listens }) status output stderr ∷ [] → new ≡ ran ++ since ran new → ls ≡ behind shows p.cmd always ignored status stderr → since ran new ≡ prints ls → IsRanTo shows p out always ignored status output (since log new)
    unfolding ran_event
    ran_to ls a b c d e h = record { stderr = stderr; is = ran_part a b c d ∙ ap (λ l. prints (announced shows p.cmd) ++ ran_event ∷ l) (h ∙ ap prints e) }

    ran_whole : (count : ℕ) (rest : List Event) → mid ≡ log ++ since log mid → since log mid ≡ prints (announced shows p.cmd) → ran ≡ mid ++ Ran p.role p.cmd (record { out = out; hear = shows.warnings || shows.listens }) status output stderr ∷ [] → new ≡ ran ++ since ran new → count ≤ length (behind shows p.cmd always ignored status stderr) → since ran new ≡ prints (take count (behind shows p.cmd always ignored status stderr)) ++ rest → (w : RanWhole shows p out always ignored (since log new)) × (w.rest ≡ rest)
    unfolding ran_event
    ran_whole count rest a b c d le h = (
      record {
        status = status;
        output = output;
        stderr = stderr;
        count = count;
        few = le;
        rest = rest;
        is = ran_part a b c d ∙ ap (λ l. prints (announced shows p.cmd) ++ ran_event ∷ l) h ∙ sym (append_assoc (prints (announced shows p.cmd)) (ran_event ∷ prints (take count (behind shows p.cmd always ignored status stderr))) rest);
      },
      refl,
    )

    -- a line was refused
    pub ran_refused : (ls : List Notice) (e : RunError) → mid ≡ log ++ since log mid → since log mid ≡ prints (announced shows p.cmd) → ran ≡ mid ++ Ran p.role p.cmd (record { out = out; hear = shows.warnings || shows.listens }) status output stderr ∷ [] → new ≡ ran ++ since ran new → ls ≡ behind shows p.cmd always ignored status stderr → ArePrinted {T = Unit {0}} ls (Err e) (since ran new) → IsPrintError e → IsOutput shows p out always ignored (Err e) (since log new)
    ran_refused ls (HostFault call why) a b c d e (n, (le, m, h)) k = (k, inr (ran_whole n (print_fault (HostFault call why)) a b c d (subst (λ l. n ≤ length l) e le) (h ∙ ap (λ l. prints (take n l) ++ print_fault (HostFault call why)) e)))
    ran_refused ls NoMemory a b c d e (n, (le, m, h)) k = inr (inr (ran_whole n [] a b c d (subst (λ l. n ≤ length l) e le) (h ∙ ap (λ l. prints (take n l) ++ []) e)))
    ran_refused ls (ToolNotFound n) a b c d e h k = absurd k
    ran_refused ls (Failed n s) a b c d e h k = absurd k
    ran_refused ls (StartFault n) a b c d e h k = absurd k
    ran_refused ls WaitFault a b c d e h k = absurd k
    ran_refused ls JobFault a b c d e h k = absurd k
    ran_refused ls TurnsSpent a b c d e h k = absurd k

    -- no line was made
    pub ran_unmade : mid ≡ log ++ since log mid → since log mid ≡ prints (announced shows p.cmd) → ran ≡ mid ++ Ran p.role p.cmd (record { out = out; hear = shows.warnings || shows.listens }) status output stderr ∷ [] → new ≡ ran → IsOutput shows p out always ignored (Err NoMemory) (since log new)
    ran_unmade a b c d =
        let none : since ran new ≡ [] = ap (since ran) (d ∙ sym (append-nil ran)) ∙ since_append ran [] in
        inr (inr (ran_whole 0 [] a b c (d ∙ sym (append-nil ran) ∙ ap (λ l. ran ++ l) (sym none)) (omega arith) none))
