-- Members of a list, one after another.
use Rattle.std.proofs.Common.{◌≡◌, ◌<◌, ◌+◌, ℕ, List, [], ◌∷◌, ◌++◌, length, map, get_or, take, drop, sym, ◌∙◌, ap, arith}
use Rattle.std.proofs.lemmas.List.{length-map, length-take, map-append, get_or-map, take-append-drop, take_more, drop_more}
use Rattle.cc_fleet.specs.Fleet.{MemberSeen, member_seen, members_seen, files_of}
use Rattle.cc_fleet.specs.declared.members.Member.{Member}

module _ {W : Type 0} (members : List (Member W)) (i : ℕ) (m : Member W) (within : i < length members) (is : m ≡ get_or members i m) where
  -- the members are the first ones, this one, and those behind it
  pub parted : members_seen members ≡ members_seen (take i members) ++ (member_seen m ∷ members_seen (drop (i + 1) members))
  parted =
      ap members_seen (sym (take-append-drop i members) ∙ ap (λ rest. take i members ++ rest) (drop_more members i m within ∙ ap (λ x. x ∷ drop (i + 1) members) (sym is)))
      ∙ map-append member_seen (take i members) (m ∷ drop (i + 1) members)

  -- the first ones and this one
  pub longer : members_seen (take (i + 1) members) ≡ members_seen (take i members) ++ member_seen m ∷ []
  longer = ap members_seen (take_more members i m within ∙ ap (λ x. take i members ++ x ∷ []) (sym is)) ∙ map-append member_seen (take i members) (m ∷ [])

  -- so many come before it
  pub before_it : length (members_seen (take i members)) ≡ i
  before_it = length-map (take i members) member_seen ∙ (let e : length (take i members) ≡ i = omega (arith, length-take i members, within) in e)

  -- what stands at its place in a list of one for each member is its own
  pub at_its_place : {X : Type 0} (f : MemberSeen → X) (xs : List X) (x : X) → xs ≡ map f (members_seen members) → x ≡ get_or xs i x → x ≡ f (member_seen m)
  at_its_place f xs x all here =
      here ∙ ap (λ l. get_or l i x) all
      ∙ get_or-map f (members_seen members) i (member_seen m) x (let n = length-map members member_seen in omega (arith, n, within))
      ∙ ap f (get_or-map member_seen members i m (member_seen m) within ∙ ap member_seen (sym is))

  -- the files of one member more
  pub files_next : (files new : List (List (List ℕ))) (own : List (List ℕ)) → files ≡ map files_of (members_seen (take i members)) → own ≡ files_of (member_seen m) → new ≡ files ++ own ∷ [] → new ≡ map files_of (members_seen (take (i + 1) members))
  files_next files new own before its pushed =
      pushed ∙ ap (λ f. f ++ own ∷ []) before ∙ ap (λ o. map files_of (members_seen (take i members)) ++ o ∷ []) its
      ∙ sym (ap (map files_of) longer ∙ map-append files_of (members_seen (take i members)) (member_seen m ∷ []))

-- a list of one for each member is as long
pub as_many : {W X : Type 0} (members : List (Member W)) (f : MemberSeen → X) (xs : List X) → xs ≡ map f (members_seen members) → length xs ≡ length members
as_many members f xs all = ap length all ∙ length-map (members_seen members) f ∙ length-map members member_seen
