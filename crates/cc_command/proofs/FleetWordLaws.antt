-- The words of a fleet: groups, and what each adds.
use Rattle.std.proofs.Common.{◌≡◌, ◌⊎◌, inl, inr, ℕ, suc, ◌+◌, ◌<◌, List, [], ◌∷◌, ◌++◌, length, map, take, drop, get_or, Bool, true, false, Option, Some, None, Ok, refl, sym, ◌∙◌, ap, ap₂, add-one, arith, String, string_bytes}
use Rattle.std.specs.Borrow.{Bor}
use Rattle.std.specs.Prelude.{cond}
use Rattle.std.specs.List.{slice_split, onto_first}
use Rattle.std.proofs.Math.Seq.{drop-cons}
use Rattle.std.proofs.lemmas.Grind.{take_at_read}
use Rattle.std.proofs.lemmas.List.{map-append}
use Rattle.cc_fleet.specs.Fleet.{MemberSeen}
use Rattle.cc_command.specs.FleetWords.{is_gap, groups_of, group_bad, groups_bad, span, bytes_of, member_of, AreMembers, first_of, fleet_unless, read_groups}
use Rattle.cc_command.specs.Read.{bad_word, refusal_of}
use Rattle.cc_command.specs.Read.Wish.{Fleets}
use Rattle.cc_command.specs.declared.words.BadWord.{BadWord}
use Rattle.cc_command.specs.declared.words.ReadError.{ReadError}
use Rattle.cc_command.specs.declared.words.ReadError.TheVariants.{NoMemory as WantsMemory}

-- ---- groups

module _ {X Y : Type 0} (f : X → Y) (p : Y → Bool) where
  map_onto : (x : X) (parts : List (List X)) → map (map f) (onto_first x parts) ≡ onto_first (f x) (map (map f) parts)
  map_onto x [] = refl
  map_onto x (part ∷ parts) = refl

  map_cond : (b : Bool) (x : X) (parts : List (List X)) → map (map f) (cond b ([] ∷ parts) (onto_first x parts)) ≡ cond b ([] ∷ map (map f) parts) (onto_first (f x) (map (map f) parts))
  map_cond true x parts = refl
  map_cond false x parts = map_onto x parts

  -- the parts of a list that is read are the parts that are read
  pub map_split : (xs : List X) → map (map f) (slice_split (λ x. p (f x)) xs) ≡ slice_split p (map f xs)
  map_split [] = refl
  map_split (x ∷ xs) =
      map_cond (p (f x)) x (slice_split (λ x. p (f x)) xs) ∙ ap (λ parts. cond (p (f x)) ([] ∷ parts) (onto_first (f x) parts)) (map_split xs)

span_onto : (word : List ℕ) (groups : List (List (List ℕ))) (n : ℕ) → span groups ≡ n + 1 → span (onto_first word groups) ≡ n + 1 + 1
span_onto word [] n e = absurd (omega arith)
span_onto word (group ∷ groups) n e = omega (arith, e)

span_cond : (b : Bool) (word : List ℕ) (groups : List (List (List ℕ))) (n : ℕ) → span groups ≡ n + 1 → span (cond b ([] ∷ groups) (onto_first word groups)) ≡ n + 1 + 1
span_cond true word groups n e = omega (arith, e)
span_cond false word groups n e = span_onto word groups n e

-- groups are as many words as they are made of, and one more
pub span_split : (words : List (List ℕ)) → span (groups_of words) ≡ length words + 1
span_split [] = refl
span_split (word ∷ words) = span_cond (is_gap word) word (groups_of words) (length words) (span_split words) ∙ omega arith

-- what lent groups say
pub bytes_parts : {Z : Type 0} (groups : List (Bor (List (String Z)))) → bytes_of groups ≡ map (map string_bytes) (map (λ group. group.now) groups)
bytes_parts [] = refl
bytes_parts (group ∷ groups) = ap (λ l. map string_bytes group.now ∷ l) (bytes_parts groups)

-- ---- one group more

bad_some : (bad : Option BadWord) (rest : Option BadWord) (e : ReadError) → bad_word bad ≡ Some e → bad_word (first_of bad rest) ≡ Some e
bad_some None rest e is = absurd (cc)
bad_some (Some bad) rest e is = is

module _ {A : Type 0} (text : A → List (List ℕ)) (groups : List A) (i n : ℕ) (group : A) (within : i < length groups) (is : group ≡ get_or groups i group) where
  next_group : drop i groups ≡ group ∷ drop (i + 1) groups
  next_group = drop-cons groups i group within ∙ ap (λ g. g ∷ drop (suc i) groups) (sym is) ∙ ap (λ k. group ∷ drop k groups) (sym (add-one i))

  next_bad : groups_bad n (map text (drop i groups)) ≡ first_of (group_bad n (text group)) (groups_bad (n + length (text group) + 1) (map text (drop (i + 1) groups)))
  next_bad = ap (λ l. groups_bad n (map text l)) next_group

  -- something is wrong with it, and with none before it
  pub group_wrong : (all : Option BadWord) (e : ReadError) → groups_bad n (map text (drop i groups)) ≡ all → bad_word (group_bad n (text group)) ≡ Some e → bad_word all ≡ Some e
  group_wrong all e rest wrong = ap bad_word (sym rest ∙ next_bad) ∙ bad_some (group_bad n (text group)) (groups_bad (n + length (text group) + 1) (map text (drop (i + 1) groups))) e wrong

  -- the cause of a refused group is one of all groups
  pub group_refused : (all : Option BadWord) (e : ReadError) → groups_bad n (map text (drop i groups)) ≡ all → (e ≡ WantsMemory) ⊎ (bad_word (group_bad n (text group)) ≡ Some e) → (e ≡ WantsMemory) ⊎ (bad_word all ≡ Some e)
  group_refused all e rest (inl memory) = inl memory
  group_refused all e rest (inr wrong) = inr (group_wrong all e rest wrong)

  -- nothing is wrong with it
  pub group_fine : (all : Option BadWord) (m : ℕ) → groups_bad n (map text (drop i groups)) ≡ all → group_bad n (text group) ≡ None → m ≡ n + length (text group) + 1 → groups_bad m (map text (drop (i + 1) groups)) ≡ all
  group_fine all m rest fine at =
      ap (λ k. groups_bad k (map text (drop (i + 1) groups))) at
      ∙ sym (ap (λ b. first_of b (groups_bad (n + length (text group) + 1) (map text (drop (i + 1) groups)))) fine) ∙ sym next_bad ∙ rest

  pub group_span : (total m : ℕ) → n + span (map text (drop i groups)) ≡ total → m ≡ n + length (text group) + 1 → m + span (map text (drop (i + 1) groups)) ≡ total
  group_span total m before at =
      let s : span (map text (drop i groups)) ≡ length (text group) + 1 + span (map text (drop (i + 1) groups)) = ap (λ l. span (map text l)) next_group in
      omega (arith, s, before, at)

  -- it fits, and the place behind it
  pub group_fits : (total : ℕ) → n + span (map text (drop i groups)) ≡ total → n + length (text group) + 1 + span (map text (drop (i + 1) groups)) ≡ total
  group_fits total before =
      let s : span (map text (drop i groups)) ≡ length (text group) + 1 + span (map text (drop (i + 1) groups)) = ap (λ l. span (map text l)) next_group in
      omega (arith, s, before)

  pub group_seen : (old : List MemberSeen) (member : MemberSeen) → old ≡ map member_of (map text (take i groups)) → member ≡ member_of (text group) → old ++ member ∷ [] ≡ map member_of (map text (take (i + 1) groups))
  group_seen old member before made =
      let more : take (i + 1) groups ≡ take i groups ++ group ∷ [] = (take_at_read groups i group within).1 ∙ ap (λ g. take i groups ++ g ∷ []) (sym is) in
      ap₂ (λ l m. l ++ m ∷ []) before made
      ∙ sym (ap (λ l. map member_of (map text l)) more ∙ ap (map member_of) (map-append text (take i groups) (group ∷ [])) ∙ map-append member_of (map text (take i groups)) (text group ∷ []))

-- ---- all groups

-- none of them is bad, and these are the members
pub fleet_so : (groups : List (List (List ℕ))) (group : List (List ℕ)) (more : List (List (List ℕ))) (members : List MemberSeen) → groups ≡ [] ∷ group ∷ more → AreMembers 2 (group ∷ more) members → read_groups groups ≡ Ok (Fleets members)
fleet_so groups group more members are good = ap read_groups are ∙ ap (fleet_unless (group ∷ more)) good.0 ∙ ap (λ m. Ok (Fleets m)) (sym good.1)

unless_bad : (groups : List (List (List ℕ))) (bad : Option BadWord) (e : ReadError) → bad_word bad ≡ Some e → refusal_of (fleet_unless groups bad) ≡ Some e
unless_bad groups None e is = absurd (cc)
unless_bad groups (Some bad) e is = is

pub fleet_bad : (groups : List (List (List ℕ))) (group : List (List ℕ)) (more : List (List (List ℕ))) (e : ReadError) → groups ≡ [] ∷ group ∷ more → bad_word (groups_bad 2 (group ∷ more)) ≡ Some e → refusal_of (read_groups groups) ≡ Some e
fleet_bad groups group more e are bad = ap (λ g. refusal_of (read_groups g)) are ∙ unless_bad (group ∷ more) (groups_bad 2 (group ∷ more)) e bad
