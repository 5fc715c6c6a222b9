-- What batches are, by induction over the paths.
use Rattle.std.proofs.Common.{◌≡◌, ℕ, ◌+◌, ◌-◌, ◌<◌, ◌≤◌, List, [], ◌∷◌, ◌++◌, length, true, false, nat_le, if◌then◌else◌, refl, sym, subst, ◌∙◌, ap, append_assoc, append-nil, arith}
use Rattle.std.specs.List.{flat_map, sum_by}
use Rattle.std.proofs.lemmas.Bool.{leb-true, leb-false, le-leb, lt-leb}
use Rattle.std.proofs.lemmas.List.Sums.{sum_by-append}
use Rattle.cc_text.specs.Batches.{room, cut_from, batches_of, filled, IsFull, AreBatches, AreBatchesOf}

-- ---- joined they are the paths

joined_from : (batch : List (List ℕ)) (left : ℕ) (paths : List (List ℕ)) → flat_map (λ b. b) (cut_from batch left paths) ≡ batch ++ paths
joined_from batch left [] = refl
joined_from batch left (path ∷ paths) =
    elim (nat_le (length path) left) as (λ b. flat_map (λ x. x) (if b then cut_from (batch ++ path ∷ []) (left - length path) paths else batch ∷ cut_from (path ∷ []) (room - length path) paths) ≡ batch ++ path ∷ paths) [
      | true ↦ joined_from (batch ++ path ∷ []) (left - length path) paths ∙ append_assoc batch (path ∷ []) paths
      | false ↦ ap (λ l. batch ++ l) (joined_from (path ∷ []) (room - length path) paths)
    ]

pub joined : (paths : List (List ℕ)) → flat_map (λ b. b) (batches_of paths) ≡ paths
joined [] = refl
joined (path ∷ paths) = joined_from (path ∷ []) (room - length path) paths

-- ---- there are no more than paths

few_from : (batch : List (List ℕ)) (left : ℕ) (paths : List (List ℕ)) → length (cut_from batch left paths) ≤ 1 + length paths
few_from batch left [] = omega arith
few_from batch left (path ∷ paths) =
    elim (nat_le (length path) left) as (λ b. length (if b then cut_from (batch ++ path ∷ []) (left - length path) paths else batch ∷ cut_from (path ∷ []) (room - length path) paths) ≤ 1 + length (path ∷ paths)) [
      | true ↦ let h = few_from (batch ++ path ∷ []) (left - length path) paths in omega (arith, h)
      | false ↦ let h = few_from (path ∷ []) (room - length path) paths in omega (arith, h)
    ]

pub few : (paths : List (List ℕ)) → length (batches_of paths) ≤ length paths
few [] = omega arith
few (path ∷ paths) = let h = few_from (path ∷ []) (room - length path) paths in omega (arith, h)

-- ---- each takes what fits

filled_more : (first : List ℕ) (batch : List (List ℕ)) (path : List ℕ) → filled (first ∷ (batch ++ path ∷ [])) ≡ filled (first ∷ batch) + length path
filled_more first batch path = let h : sum_by length (batch ++ path ∷ []) ≡ sum_by length batch + sum_by length (path ∷ []) = sum_by-append length batch (path ∷ []) in omega (arith, h)

-- with its first path alone
begun_room : (path : List ℕ) → filled (path ∷ []) + (room - length path) ≡ room
begun_room path = omega arith

-- the next batch begins with the path that was too long
full_from : (before : List (List ℕ)) (first : List ℕ) (batch : List (List ℕ)) (left : ℕ) (paths : List (List ℕ)) → room < filled (before ++ first ∷ []) → IsFull before (cut_from (first ∷ batch) left paths)
full_from before first batch left [] full = full
full_from before first batch left (path ∷ paths) full =
    elim (nat_le (length path) left) as (λ b. IsFull before (if b then cut_from (first ∷ (batch ++ path ∷ [])) (left - length path) paths else (first ∷ batch) ∷ cut_from (path ∷ []) (room - length path) paths)) [
      | true ↦ full_from before first (batch ++ path ∷ []) (left - length path) paths full
      | false ↦ full
    ]

fit_from : (first : List ℕ) (batch : List (List ℕ)) (left : ℕ) (paths : List (List ℕ)) → filled (first ∷ batch) + left ≡ room → AreBatches (cut_from (first ∷ batch) left paths)
fit_from first batch left [] sum = ((λ e. cc), (omega arith, (tt, tt)))
fit_from first batch left (path ∷ paths) sum =
    let more : filled (first ∷ (batch ++ path ∷ [])) ≡ filled (first ∷ batch) + length path = filled_more first batch path in
    elim (nat_le (length path) left) as (λ b. nat_le (length path) left ≡ b → AreBatches (if b then cut_from (first ∷ (batch ++ path ∷ [])) (left - length path) paths else (first ∷ batch) ∷ cut_from (path ∷ []) (room - length path) paths)) [
      | true ↦ λ e. let fits : length path ≤ left = leb-true (length path) left e in fit_from first (batch ++ path ∷ []) (left - length path) paths (omega (arith, more, fits, sum))
      | false ↦ λ e.
          let long : left < length path = leb-false (length path) left e in
          ((λ k. cc), (omega (arith, sum), (full_from (first ∷ batch) path [] (room - length path) paths (omega (arith, more, long, sum)), fit_from path [] (room - length path) paths (begun_room path))))
    ] refl

pub fit : (paths : List (List ℕ)) → AreBatches (batches_of paths)
fit [] = tt
fit (path ∷ paths) = fit_from path [] (room - length path) paths (begun_room path)

-- ---- and no other batches of the paths do

-- the batches behind one that is full, as they are cut
Follow : List (List (List ℕ)) → Type 0
Follow batches = (first : List ℕ) (batch : List (List ℕ)) (left : ℕ) → filled (first ∷ batch) + left ≡ room → AreBatches ((first ∷ batch) ∷ batches) → cut_from (first ∷ batch) left (flat_map (λ b. b) batches) ≡ (first ∷ batch) ∷ batches

-- the first paths of a batch, and then those that are left of it
goes_on : (batches : List (List (List ℕ))) → Follow batches → (first : List ℕ) (batch : List (List ℕ)) (left : ℕ) (more : List (List ℕ)) → filled (first ∷ batch) + left ≡ room → AreBatches ((first ∷ (batch ++ more)) ∷ batches) → cut_from (first ∷ batch) left (more ++ flat_map (λ b. b) batches) ≡ (first ∷ (batch ++ more)) ∷ batches
unfolding Follow
goes_on batches follow first batch left [] sum are =
    let same : batch ++ [] ≡ batch = append-nil batch in
    follow first batch left sum (subst (λ (l : List (List ℕ)). AreBatches ((first ∷ l) ∷ batches)) same are) ∙ ap (λ l. (first ∷ l) ∷ batches) (sym same)
goes_on batches follow first batch left (path ∷ more) sum are =
    let all : sum_by length (batch ++ path ∷ more) ≡ sum_by length batch + sum_by length (path ∷ more) = sum_by-append length batch (path ∷ more) in
    let one : sum_by length (path ∷ more) ≡ sum_by length (path ∷ []) + sum_by length more = sum_by-append length (path ∷ []) more in
    let within : filled (first ∷ (batch ++ path ∷ more)) ≤ room = are.1.0 in
    let fits : length path ≤ left = omega (arith, all, one, within, sum) in
    let next : filled (first ∷ (batch ++ path ∷ [])) ≡ filled (first ∷ batch) + length path = filled_more first batch path in
    let same : (batch ++ path ∷ []) ++ more ≡ batch ++ path ∷ more = append_assoc batch (path ∷ []) more in
    let rest = goes_on batches follow first (batch ++ path ∷ []) (left - length path) more (omega (arith, next, fits, sum)) (subst (λ (l : List (List ℕ)). AreBatches ((first ∷ l) ∷ batches)) (sym same) are) in
    rw (le-leb (length path) left fits) (rest ∙ ap (λ l. (first ∷ l) ∷ batches) same)

follow : (batches : List (List (List ℕ))) → Follow batches
unfolding Follow
follow [] first batch left sum are = refl
follow ([] ∷ batches) first batch left sum are = absurd (are.1.1.1.0 refl)
follow ((path ∷ more) ∷ batches) first batch left sum are =
    let full : room < filled (first ∷ (batch ++ path ∷ [])) = are.1.1.0 in
    let next : filled (first ∷ (batch ++ path ∷ [])) ≡ filled (first ∷ batch) + length path = filled_more first batch path in
    let long : left < length path = omega (arith, full, next, sum) in
    rw (lt-leb (length path) left long) (ap (λ l. (first ∷ batch) ∷ l) (goes_on batches (follow batches) path [] (room - length path) more (begun_room path) are.1.1.1))

alone_in : (batches : List (List (List ℕ))) → AreBatches batches → batches_of (flat_map (λ b. b) batches) ≡ batches
alone_in [] are = refl
alone_in ([] ∷ batches) are = absurd (are.0 refl)
alone_in ((path ∷ more) ∷ batches) are = goes_on batches (follow batches) path [] (room - length path) more (begun_room path) are

pub alone : (paths : List (List ℕ)) (batches : List (List (List ℕ))) → flat_map (λ b. b) batches ≡ paths → AreBatches batches → batches ≡ batches_of paths
alone paths batches is are = sym (alone_in batches are) ∙ ap batches_of is

pub batches_are : (paths : List (List ℕ)) (batches : List (List (List ℕ))) → batches ≡ batches_of paths → AreBatchesOf paths batches
batches_are paths batches is = subst (AreBatchesOf paths) (sym is) (record { joined = joined paths; fit = fit paths; few = few paths; alone = alone paths })
