-- The words of a fleet: `fleet -- NAME key=value ... -- NAME key=value ...`.
use Rattle.std.specs.Prelude.{◌≡◌, ℕ, ◌+◌, List, [], ◌∷◌, length, map, Bool, false, Option, None, Some, Result, Ok, Err, String, string_bytes, if◌then◌else◌}
use Rattle.std.specs.Borrow.{Bor}
use Rattle.std.specs.List.{slice_split}
use Rattle.cc_fleet.specs.Fleet.{MemberSeen}
use Rattle.cc_command.specs.Read.{Wish, bad_at, first_bad, is, read, settings_of}
use Rattle.cc_command.specs.declared.words.BadWord.{BadWord}
use Rattle.cc_command.specs.declared.words.WordCause.TheVariants.{NoName, UnknownKey}

-- a word that parts groups
abbrev pub is_gap : List ℕ → Bool
is_gap word = is word "--"

-- the words in front of the first of these, and those behind each
abbrev pub groups_of : List (List ℕ) → List (List (List ℕ))
groups_of = slice_split is_gap

-- the first bad word of a group, whose first word counts as n: it has a name, and then the words of `compile` without
-- `database`
abbrev pub group_bad : ℕ → List (List ℕ) → Option BadWord
group_bad n [] = Some (bad_at n NoName)
group_bad n (name ∷ words) = first_bad false (n + 1) words

abbrev pub first_of : Option BadWord → Option BadWord → Option BadWord
first_of (Some bad) rest = Some bad
first_of None rest = rest

-- the first bad word of these groups, where the first word of the first counts as n
abbrev pub groups_bad : ℕ → List (List (List ℕ)) → Option BadWord
groups_bad n [] = None
groups_bad n (group ∷ groups) = first_of (group_bad n group) (groups_bad (n + length group + 1) groups)

-- how many words these groups are, with the one in front of each
abbrev pub span : List (List (List ℕ)) → ℕ
span [] = 0
span (group ∷ groups) = length group + 1 + span groups

-- the member of a group: its name, and its settings
abbrev pub member_of : List (List ℕ) → MemberSeen
member_of [] = record { output = []; build = settings_of [] }
member_of (name ∷ words) = record { output = name; build = settings_of words }

-- nothing is bad in the group, and this is its member
abbrev pub IsMember : ℕ → List (List ℕ) → MemberSeen → Type 0
IsMember n group member = (group_bad n group ≡ None) × (member ≡ member_of group)

-- nothing is bad in these groups, and these are their members
abbrev pub AreMembers : ℕ → List (List (List ℕ)) → List MemberSeen → Type 0
AreMembers n groups members = (groups_bad n groups ≡ None) × (members ≡ map member_of groups)

abbrev pub fleet_unless : List (List (List ℕ)) → Option BadWord → Result Wish BadWord
fleet_unless groups (Some bad) = Err bad
fleet_unless groups None = Ok (Wish.Fleets (map member_of groups))

-- words in front of the first group are none of a fleet's, and there is a group
abbrev pub read_groups : List (List (List ℕ)) → Result Wish BadWord
read_groups [] = Err (bad_at 1 NoName)
read_groups ((word ∷ words) ∷ groups) = Err (bad_at 1 UnknownKey)
read_groups ([] ∷ []) = Err (bad_at 1 NoName)
read_groups ([] ∷ group ∷ groups) = fleet_unless (group ∷ groups) (groups_bad 2 (group ∷ groups))

-- groups of words that are lent
abbrev pub bytes_of : {Z : Type 0} → List (Bor (List (String Z))) → List (List (List ℕ))
bytes_of = map (λ group. map string_bytes group.now)

-- what is wished by the words behind `fleet`, or the first bad word
abbrev pub read_fleet : List (List ℕ) → Result Wish BadWord
read_fleet words = read_groups (groups_of words)

-- the words behind `fleet`, where that is the first
abbrev pub behind_fleet : List (List ℕ) → Option (List (List ℕ))
behind_fleet [] = None
behind_fleet (first ∷ words) = if is first "fleet" then Some words else None

abbrev pub asked_by : List (List ℕ) → Option (List (List ℕ)) → Result Wish BadWord
asked_by words (Some behind) = read_fleet behind
asked_by words None = read words

-- what is wished by any words, or the first bad one
abbrev pub asked : List (List ℕ) → Result Wish BadWord
asked words = asked_by words (behind_fleet words)
