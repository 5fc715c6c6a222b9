-- Laws on lines that were printed and messages that were said: they start, end and count nothing.
use Rattle.std.proofs.Common.{◌≡◌, ℕ, ◌+◌, List, [], ◌∷◌, ◌++◌, take, length, refl, ◌∙◌, ap, arith}
use Rattle.std.proofs.lemmas.List.{append-nil}
use Rattle.std.proofs.lemmas.Grind.{flat_map-append}
use Rattle.std.proofs.lemmas.List.Sums.{sum_by-append}
use Rattle.cc_host.specs.declared.event.Event.{Event}
use Rattle.cc_host.specs.declared.event.Event.TheVariants.{Printed, Said}
use Rattle.cc_host.specs.Children.{id_of, started_ids}
use Rattle.cc_run.specs.Life.{LivesOn}
use Rattle.cc_run.specs.Paid.{starts, starts_of, loads, held_of}
use Rattle.cc_run.specs.Part.{started, missing, missing_of, faults, fault_of, abandoned, abandoned_of, turns, turns_of}
use Rattle.cc_run.specs.Plan.{Plan}
use Rattle.cc_run.specs.Run.{Run, run_from}
use Rattle.cc_run.specs.Prints.{prints}
use Rattle.cc_run.specs.declared.print.Notice.{Notice}
use Rattle.cc_run.specs.declared.print.Notice.TheVariants.{Shown, Told}
use Rattle.cc_run.proofs.LifeLemmas.{Others, lives_others}

pub prints_run : (plan : Plan) (r : Run) (ls : List Notice) → run_from plan r (prints ls) ≡ r
prints_run plan r [] = refl
prints_run plan r (Shown kind bytes ∷ ls) = prints_run plan r ls
prints_run plan r (Told message ∷ ls) = prints_run plan r ls

pub prints_started : (ls : List Notice) → started (prints ls) ≡ []
prints_started [] = refl
prints_started (Shown kind bytes ∷ ls) = prints_started ls
prints_started (Told message ∷ ls) = prints_started ls

-- they start no child
pub prints_ids : (log : List Event) (ls : List Notice) → started_ids (log ++ prints ls) ≡ started_ids log
prints_ids log ls = flat_map-append id_of log (prints ls) ∙ ap (λ l. started_ids log ++ l) (none ls) ∙ append-nil (started_ids log)
  where
    none : (ls : List Notice) → started_ids (prints ls) ≡ []
    none [] = refl
    none (Shown kind bytes ∷ ls) = none ls
    none (Told message ∷ ls) = none ls

pub prints_missing : (ls : List Notice) → missing (prints ls) ≡ []
prints_missing [] = refl
prints_missing (Shown kind bytes ∷ ls) = prints_missing ls
prints_missing (Told message ∷ ls) = prints_missing ls

pub prints_faults : (ls : List Notice) → faults (prints ls) ≡ []
prints_faults [] = refl
prints_faults (Shown kind bytes ∷ ls) = prints_faults ls
prints_faults (Told message ∷ ls) = prints_faults ls

pub prints_abandoned : (ls : List Notice) → abandoned (prints ls) ≡ []
prints_abandoned [] = refl
prints_abandoned (Shown kind bytes ∷ ls) = prints_abandoned ls
prints_abandoned (Told message ∷ ls) = prints_abandoned ls

pub prints_turns : (ls : List Notice) → turns (prints ls) ≡ 0
prints_turns [] = refl
prints_turns (Shown kind bytes ∷ ls) = prints_turns ls
prints_turns (Told message ∷ ls) = prints_turns ls

pub prints_starts : (ls : List Notice) → starts (prints ls) ≡ 0
prints_starts [] = refl
prints_starts (Shown kind bytes ∷ ls) = prints_starts ls
prints_starts (Told message ∷ ls) = prints_starts ls

pub prints_loads : (ls : List Notice) → loads (prints ls) ≡ 0
prints_loads [] = refl
prints_loads (Shown kind bytes ∷ ls) = prints_loads ls
prints_loads (Told message ∷ ls) = prints_loads ls

prints_others : (id : ℕ) (ls : List Notice) → Others id (prints ls)
prints_others id [] = tt
prints_others id (Shown kind bytes ∷ ls) = (refl, prints_others id ls)
prints_others id (Told message ∷ ls) = (refl, prints_others id ls)

-- and no child
pub lives_prints : (old new : List Event) (ls : List Notice) → new ≡ old ++ prints ls → LivesOn old new
lives_prints old new ls e = lives_others old new (prints ls) e (λ id. prints_others id ls)

module _ (ls : List Notice) (es : List Event) where
  -- behind such lines
  pub behind_missing : missing (prints ls ++ es) ≡ missing es
  behind_missing = flat_map-append missing_of (prints ls) es ∙ ap (λ l. l ++ missing es) (prints_missing ls)

  pub behind_faults : faults (prints ls ++ es) ≡ faults es
  behind_faults = flat_map-append fault_of (prints ls) es ∙ ap (λ l. l ++ faults es) (prints_faults ls)

  pub behind_abandoned : abandoned (prints ls ++ es) ≡ abandoned es
  behind_abandoned = flat_map-append abandoned_of (prints ls) es ∙ ap (λ l. l ++ abandoned es) (prints_abandoned ls)

  pub behind_turns : turns (prints ls ++ es) ≡ turns es
  behind_turns = let a : turns (prints ls ++ es) ≡ turns (prints ls) + turns es = sum_by-append turns_of (prints ls) es in let b : turns (prints ls) ≡ 0 = prints_turns ls in omega arith

  pub behind_starts : starts (prints ls ++ es) ≡ starts es
  behind_starts = let a : starts (prints ls ++ es) ≡ starts (prints ls) + starts es = sum_by-append starts_of (prints ls) es in let b : starts (prints ls) ≡ 0 = prints_starts ls in omega arith

  pub behind_loads : loads (prints ls ++ es) ≡ loads es
  behind_loads = let a : loads (prints ls ++ es) ≡ loads (prints ls) + loads es = sum_by-append held_of (prints ls) es in let b : loads (prints ls) ≡ 0 = prints_loads ls in omega arith
