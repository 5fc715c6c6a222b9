-- A run whose log is plain: none of its commands failed or is missing, its host didn't fault, and the first form of its archive was taken.
use Rattle.std.proofs.Common.{◌≡◌, ◌∙◌, inl, inr, refl, sym, ap, List, [], ◌∷◌, ◌++◌, Bool, true, false, not, ◌&&◌, ◌||◌, if◌then◌else◌}
use Rattle.std.specs.List.{list_all, list_any}
use Rattle.std.proofs.lemmas.Bool.{and_parts, false≢true}
use Rattle.std.proofs.lemmas.List.Folds.{list_all-append}
use Rattle.cc_host.specs.Children.{Live, live_after}
use Rattle.cc_host.specs.Status.{is_success}
use Rattle.cc_host.specs.declared.event.Event.{Event}
use Rattle.cc_host.specs.declared.event.Event.TheVariants.{Ended, Ran, Missing, Fault}
use Rattle.cc_run.specs.Part.{missing}
use Rattle.cc_run.specs.declared.planned.Planned.{Planned}
use Rattle.cc_hosts.specs.Plain.{is_plain, IsPlainLog}
use Rattle.cc_build.specs.Attempts.{all_tried, first_tried}
use Rattle.cc_build.specs.Children.{runs, fails, fails_from}
use Rattle.cc_build.specs.Failed.{ran_badly, is_form, form_aside, unforgiven, Failed, is_fault, HasFault}

-- the first event, and the others
pub plain_cut : (event : Event) (part : List Event) → IsPlainLog (event ∷ part) → (is_plain event ≡ true) × IsPlainLog part
plain_cut event part p = and_parts (is_plain event) (list_all is_plain part) p

no_missing : (part : List Event) → IsPlainLog part → missing part ≡ []
no_missing [] p = refl
no_missing (Missing role cmd ∷ part) p = absurd (false≢true (plain_cut (Missing role cmd) part p).0)
no_missing (event ∷ part) p = no_missing part (plain_cut event part p).1

none_badly : (part : List Event) → IsPlainLog part → list_any ran_badly part ≡ false
none_badly [] p = refl
none_badly (Ran role cmd pipes status out err ∷ part) p =
    let cut = plain_cut (Ran role cmd pipes status out err) part p in
    rw cut.0 (none_badly part cut.1)
none_badly (event ∷ part) p = none_badly part (plain_cut event part p).1

neither : (a b : Bool) → a ≡ false → b ≡ false → (a || b) ≡ false
neither true b p q = absurd (false≢true (sym p))
neither false b p q = q

sound_end : (live success : Bool) → success ≡ true → (live && not success) ≡ false
sound_end true success well = ap not well
sound_end false success well = refl

none_fails : (live : List Live) (part : List Event) → IsPlainLog part → fails_from live part ≡ false
none_fails live [] p = refl
none_fails live (Ended id status ∷ part) p =
    let cut = plain_cut (Ended id status) part p in
    neither (fails live (Ended id status)) (fails_from (live_after live (Ended id status)) part) (sound_end (runs id live) (is_success status) cut.0) (none_fails (live_after live (Ended id status)) part cut.1)
none_fails live (event ∷ part) p = none_fails (live_after live event) part (plain_cut event part p).1

plain_aside : (part : List Event) → IsPlainLog part → IsPlainLog (form_aside part)
plain_aside [] p = refl
plain_aside (event ∷ part) p =
    let cut = plain_cut event part p in
    at (is_form event) (plain_aside part cut.1) cut
  where
    at : (b : Bool) → IsPlainLog (form_aside part) → (is_plain event ≡ true) × IsPlainLog part → IsPlainLog (if b then part else event ∷ form_aside part)
    at true rest cut = cut.1
    at false rest cut = rw cut.0 rest

plain_unforgiven : (one_form : Bool) (part : List Event) → IsPlainLog part → IsPlainLog (unforgiven one_form part)
plain_unforgiven true part p = p
plain_unforgiven false part p = plain_aside part p

-- no command failed or is missing
pub plain_sound : (one_form : Bool) (part : List Event) → IsPlainLog part → Failed one_form part → ⊥
plain_sound one_form part p (inl lost) = lost (no_missing (unforgiven one_form part) (plain_unforgiven one_form part p))
plain_sound one_form part p (inr (inl failed)) = false≢true (sym (none_fails [] part p) ∙ failed)
plain_sound one_form part p (inr (inr badly)) = false≢true (sym (none_badly (unforgiven one_form part) (plain_unforgiven one_form part p)) ∙ badly)

none_faulted : (part : List Event) → IsPlainLog part → list_any is_fault part ≡ false
none_faulted [] p = refl
none_faulted (Fault call why ∷ part) p = absurd (false≢true (plain_cut (Fault call why) part p).0)
none_faulted (event ∷ part) p = none_faulted part (plain_cut event part p).1

-- no call of the host faulted
pub plain_faultless : (part : List Event) → IsPlainLog part → HasFault part → ⊥
plain_faultless part p fault = false≢true (sym (none_faulted part p) ∙ fault)

tried_well : (part : List Event) → IsPlainLog part → list_all (λ t. t.1) (all_tried part) ≡ true
tried_well [] p = refl
tried_well (Ran role cmd pipes status out err ∷ part) p =
    let cut = plain_cut (Ran role cmd pipes status out err) part p in
    rw cut.0 (tried_well part cut.1)
tried_well (Missing role cmd ∷ part) p = absurd (false≢true (plain_cut (Missing role cmd) part p).0)
tried_well (event ∷ part) p = tried_well part (plain_cut event part p).1

-- the first form of the archive wasn't refused
pub plain_form : (refused : Bool) (cmd : Planned) (cmds : List Planned) (part : List Event) → IsPlainLog part → all_tried part ≡ first_tried refused (cmd ∷ cmds) → refused ≡ false
plain_form refused cmd cmds part p e = taken refused (ap (list_all (λ t. t.1)) (sym e) ∙ tried_well part p)
  where
    taken : (b : Bool) → (not b && true) ≡ true → b ≡ false
    taken true h = absurd (false≢true h)
    taken false h = refl

-- the parts of a plain log are plain
pub plain_both : (a b : List Event) → IsPlainLog (a ++ b) → IsPlainLog a × IsPlainLog b
plain_both a b p = and_parts (list_all is_plain a) (list_all is_plain b) (sym (list_all-append is_plain a b) ∙ p)
