-- What `strip_prefix` and `strip_suffix` say, as a test and a cut.
use Rattle.std.proofs.Common.{◌≡◌, ℕ, ◌-◌, true, false, List, length, take, drop, Option, Some, None, MatchOption, Bor, nat_eq, refl, sym, ap, ◌∙◌}
use Rattle.std.specs.Option.{option_copied}
use Rattle.std.specs.List.{starts_with, ends_with}
use Rattle.std.specs.Str.Pattern.{FindsTextPrefix, FindsTextSuffix, StripsPrefix, StripsSuffix}
use Rattle.std.proofs.lemmas.Str.Pattern.{starts_text, ends_text}
use Rattle.std.proofs.lemmas.Slice.Eq.{starts_is, ends_is}
use Rattle.std.proofs.lemmas.Bool.Decides.{Decides-eqb}
use Rattle.cc_text.specs.Cuts.{after_prefix, before_suffix}

pub strips_prefix : (r : Option (Bor (List ℕ))) (n s : List ℕ) → MatchOption r (FindsTextPrefix n s None) (λ x. StripsPrefix (FindsTextPrefix n) s x.now) → option_copied r ≡ after_prefix s n
unfolding after_prefix
strips_prefix None n s h = let e : starts_with nat_eq s n ≡ false = sym (starts_text false n s h) in rw e refl
strips_prefix (Some x) n s h =
    let e : starts_with nat_eq s n ≡ true = (starts_is Decides-eqb s n _ refl).1 _ h.1.1 in
    rw e (ap Some (h.2 ∙ ap (λ k. drop k s) h.1.0))

pub strips_suffix : (r : Option (Bor (List ℕ))) (n s : List ℕ) → MatchOption r (FindsTextSuffix n s None) (λ x. StripsSuffix (FindsTextSuffix n) s x.now) → option_copied r ≡ before_suffix s n
unfolding before_suffix
strips_suffix None n s h = let e : ends_with nat_eq s n ≡ false = sym (ends_text false n s h) in rw e refl
strips_suffix (Some x) n s h =
    let e : ends_with nat_eq s n ≡ true = (ends_is Decides-eqb s n _ refl).1 _ h.1.1 in
    rw e (ap Some (h.2 ∙ ap (λ k. take (length s - k) s) h.1.0))
