-- Laws on probe files that are open.
use Rattle.std.proofs.Common.{◌≡◌, ◌+◌, ℕ, Bool, true, false, if◌then◌else◌, List, [], ◌∷◌, ◌++◌, bytes_eq, filter, length, refl, sym, ap, ◌∙◌, arith}
use Rattle.std.proofs.lemmas.Grind.{flat_map-append}
use Rattle.std.proofs.lemmas.List.{length-append}
use Rattle.std.proofs.lemmas.List.Elements.{filter-append}
use Rattle.std.proofs.lemmas.List.Sums.{length-filter}
use Rattle.std.proofs.lemmas.Slice.Eq.{bytes_eq-Decides}
use Rattle.cc_host.specs.declared.event.Event.{Event}
use Rattle.cc_host.specs.Probe.{opens, drops, open_of, drop_of, times, IsOpen, IsTidy}
use Rattle.cc_host.specs.Question.{Answer}
use Rattle.cc_tool.specs.Probing.{File, paths, Probes, AreOpen}

pub times_both : (path : List ℕ) (xs ys : List (List ℕ)) → times path (xs ++ ys) ≡ times path xs + times path ys
times_both path xs ys =
    let p = bytes_eq path in
    sym (length-filter p (xs ++ ys)) ∙ ap length (filter-append p xs ys) ∙ length-append (filter p xs) (filter p ys) ∙ ap (λ n. n + length (filter p ys)) (length-filter p xs) ∙ ap (λ n. times path xs + n) (length-filter p ys)

abbrev the_one : ℕ
the_one = 1

one : (b : Bool) → b ≡ true → 0 + (if b then 1 else 0) ≡ the_one
one true e = refl
one false e = absurd (cc)

-- a path stands once in the list of itself
pub times_one : (path : List ℕ) → times path (path ∷ []) ≡ 1
times_one path = one (bytes_eq path path) ((bytes_eq-Decides path path).1 refl)

-- where no file was dropped too often, none need be open
pub open_none : (log : List Event) → IsTidy log → AreOpen [] log
open_none log tidy = record { each = λ path. let t = tidy path in omega (arith, t) }

-- part of a question leaves those open that it ends with
pub open_then : {dir : List ℕ} {before after : List Event} {from to : List File} {given : List Answer} {excuse : ℕ} → AreOpen from before → Probes dir before after from to given excuse → AreOpen to after
open_then {dir} {before} {after} {from} {to} {given} {excuse} here p = record {
  each = λ path.
      let o : times path (opens after) ≡ times path (opens before) + times path (opens p.part) = ap (λ l. times path (opens l)) p.extends ∙ ap (times path) (flat_map-append open_of before p.part) ∙ times_both path (opens before) (opens p.part) in
      let d : times path (drops after) ≡ times path (drops before) + times path (drops p.part) = ap (λ l. times path (drops l)) p.extends ∙ ap (times path) (flat_map-append drop_of before p.part) ∙ times_both path (drops before) (drops p.part) in
      let q : times path (paths from) + times path (opens p.part) ≡ times path (drops p.part) + times path (paths to) = sym (times_both path (paths from) (opens p.part)) ∙ ap (times path) p.queue ∙ times_both path (drops p.part) (paths to) in
      let h = here.each path in
      omega (arith, o, d, q, h);
}

-- the first of the files that are open
pub open_first : (log : List Event) (path bytes : List ℕ) (rest : List File) → AreOpen ((path, bytes) ∷ rest) log → IsOpen path log
open_first log path bytes rest here =
    let h = here.each path in
    let n : times path (paths ((path, bytes) ∷ rest)) ≡ times path (path ∷ []) + times path (paths rest) = times_both path (path ∷ []) (paths rest) in
    let o = times_one path in
    omega (arith, h, n, o)
