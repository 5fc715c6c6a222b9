-- Laws on the tries of a probe file.
use Rattle.std.proofs.Common.{◌≡◌, ◌<◌, ◌+◌, ℕ, List, [], ◌∷◌, ◌++◌, Some, None, Ok, Err, refl, sym, ap, ◌∙◌, append_assoc, append-nil, arith}
use Rattle.std.proofs.lemmas.List.{length-append}
use Rattle.std.proofs.lemmas.Grind.{flat_map-append}
use Rattle.cc_host.specs.declared.event.Event.{Event}
use Rattle.cc_host.specs.declared.event.Event.TheVariants.{Drawn, Opened}
use Rattle.cc_host.specs.declared.event.HostError.{HostError}
use Rattle.cc_host.specs.Probe.{opens, drops, open_of, drop_of, times, IsOpen, IsTidy}
use Rattle.cc_tool.specs.Tempfile.{taken, all_taken, Attempted, Tried, AllTaken}
use Rattle.cc_tool.proofs.OpenLemmas.{times_both, times_one}

pub taken_none : {dir suffix : List ℕ} (log : List Event) → AllTaken dir suffix log log 0
taken_none log = record { words = []; extends = sym (append-nil log); counts = refl }

behind : {dir suffix : List ℕ} {before mid after : List Event} {count : ℕ} (t : AllTaken dir suffix before mid count) (part : List Event) → after ≡ mid ++ part → after ≡ before ++ (all_taken dir suffix t.words ++ part)
behind {dir} {suffix} {before} t part e = e ∙ ap (λ l. l ++ part) t.extends ∙ append_assoc before (all_taken dir suffix t.words) part

-- one more
pub taken_more : {dir suffix contents : List ℕ} {before mid after : List Event} {count : ℕ} → AllTaken dir suffix before mid count → Attempted dir suffix contents mid after (Ok None) → AllTaken dir suffix before after (count + 1)
taken_more {dir} {suffix} {contents} {before} {mid} {after} {count} t a = record {
  words = t.words ++ a.adds.0 ∷ [];
  extends =
      behind t a.part a.extends ∙ ap (λ l. before ++ (all_taken dir suffix t.words ++ l)) (a.adds.1 ∙ sym (append-nil (taken dir suffix a.adds.0))) ∙ ap (λ l. before ++ l) (sym (flat_map-append (taken dir suffix) t.words (a.adds.0 ∷ [])));
  counts = length-append t.words (a.adds.0 ∷ []) ∙ ap (λ n. n + 1) t.counts;
}

pub tried_file : {dir suffix contents : List ℕ} {before mid after : List Event} {count : ℕ} {path : List ℕ} → AllTaken dir suffix before mid count → count < 10 → Attempted dir suffix contents mid after (Ok (Some path)) → Tried dir suffix contents before after (Ok (Some path))
tried_file t l a = record { words = t.words; rest = a.part; extends = behind t a.part a.extends; finishes = (let c = t.counts in omega (arith, l, c), a.adds) }

pub tried_err : {dir suffix contents : List ℕ} {before mid after : List Event} {count : ℕ} {e : HostError} → AllTaken dir suffix before mid count → count < 10 → Attempted dir suffix contents mid after (Err e) → Tried dir suffix contents before after (Err e)
tried_err t l a = record { words = t.words; rest = a.part; extends = behind t a.part a.extends; finishes = (let c = t.counts in omega (arith, l, c), a.adds) }

pub tried_none : {dir suffix contents : List ℕ} {before after : List Event} {count : ℕ} → AllTaken dir suffix before after count → count ≡ 10 → Tried dir suffix contents before after (Ok None)
tried_none {dir} {suffix} {contents} {before} {after} t e = record {
  words = t.words;
  rest = [];
  extends = t.extends ∙ ap (λ l. before ++ l) (sym (append-nil (all_taken dir suffix t.words)));
  finishes = (t.counts ∙ e, refl);
}

no_drops : (dir suffix : List ℕ) (words : List ℕ) → drops (all_taken dir suffix words) ≡ []
no_drops dir suffix [] = refl
no_drops dir suffix (w ∷ words) = no_drops dir suffix words

no_opens : (dir suffix : List ℕ) (words : List ℕ) → opens (all_taken dir suffix words) ≡ []
no_opens dir suffix [] = refl
no_opens dir suffix (w ∷ words) = no_opens dir suffix words

-- a file that was made is open
pub tried_open : {dir suffix contents : List ℕ} {before after : List Event} {path : List ℕ} → IsTidy before → Tried dir suffix contents before after (Ok (Some path)) → IsOpen path after
tried_open {dir} {suffix} {contents} {before} {after} {path} tidy t =
    let word = t.finishes.1.0 in
    let part = Drawn word ∷ Opened path contents ∷ [] in
    let e : after ≡ before ++ (all_taken dir suffix t.words ++ part) = t.extends ∙ ap (λ l. before ++ (all_taken dir suffix t.words ++ l)) t.finishes.1.2 in
    let d : drops after ≡ drops before = ap drops e ∙ flat_map-append drop_of before (all_taken dir suffix t.words ++ part) ∙ ap (λ l. drops before ++ l) (flat_map-append drop_of (all_taken dir suffix t.words) part ∙ ap (λ l. l ++ []) (no_drops dir suffix t.words)) ∙ append-nil (drops before) in
    let o : opens after ≡ opens before ++ path ∷ [] = ap opens e ∙ flat_map-append open_of before (all_taken dir suffix t.words ++ part) ∙ ap (λ l. opens before ++ l) (flat_map-append open_of (all_taken dir suffix t.words) part ∙ ap (λ l. l ++ path ∷ []) (no_opens dir suffix t.words)) in
    let n : times path (opens after) ≡ times path (opens before) + 1 = ap (times path) o ∙ times_both path (opens before) (path ∷ []) ∙ ap (λ n. times path (opens before) + n) (times_one path) in
    let m : times path (drops after) ≡ times path (drops before) = ap (times path) d in
    let l = tidy path in
    omega (arith, n, m, l)
