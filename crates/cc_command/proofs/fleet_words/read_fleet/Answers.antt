use Rattle.std.proofs.Common.{◌≡◌, ◌⊎◌, inl, inr, ◌<◌, ◌+◌, sym, ◌∙◌, ap, subst, Ok, Some, length, map, arith, string_bytes, IfOk, IfErr}
use Rattle.std.proofs.lemmas.List.{length-map}
use Rattle.cc_fleet.specs.Fleet.{members_seen}
use Rattle.cc_command.specs.FleetWords.{bytes_of, span, read_groups, groups_of}
use Rattle.cc_command.specs.Read.{refusal_of}
use Rattle.cc_command.specs.Read.Wish.{Fleets}
use Rattle.cc_command.specs.declared.words.ReadError.TheVariants.{NoMemory as WantsMemory}
use Rattle.cc_command.proofs.FleetWordLaws.{span_split}
use Rattle.cc_command.proofs.fleet_words.read_fleet.Goals as goal

pub read_groups-requires-clause-fits : goal.read_groups-requires-clause-fits
read_groups-requires-clause-fits g c κs within =
    let are : bytes_of c.as_slice.result.now ≡ groups_of (map string_bytes c.args.words.now) = ap bytes_of c.as_slice.ensures.value ∙ c.in_ok-groups.ensures in
    let s : span (bytes_of c.as_slice.result.now) ≡ length (map string_bytes c.args.words.now) + 1 = ap span are ∙ span_split (map string_bytes c.args.words.now) in
    let l : length (map string_bytes c.args.words.now) ≡ length c.args.words.now = length-map c.args.words.now string_bytes in
    omega (arith, s, l)

pub returns-in-Ok-clause-ok : goal.returns-in-Ok-clause-ok
returns-in-Ok-clause-ok g c =
    let are : bytes_of c.as_slice.result.now ≡ groups_of (map string_bytes c.args.words.now) = ap bytes_of c.as_slice.ensures.value ∙ c.in_ok-groups.ensures in
    subst (λ gs. IfOk c.read_groups.result (λ members. read_groups gs ≡ Ok (Fleets (members_seen members.items)))) are c.read_groups.ensures.ok

pub returns-in-Ok-clause-refused : goal.returns-in-Ok-clause-refused
returns-in-Ok-clause-refused g c =
    let are : bytes_of c.as_slice.result.now ≡ groups_of (map string_bytes c.args.words.now) = ap bytes_of c.as_slice.ensures.value ∙ c.in_ok-groups.ensures in
    subst (λ gs. IfErr c.read_groups.result (λ e. (e ≡ WantsMemory) ⊎ (refusal_of (read_groups gs) ≡ Some e))) are c.read_groups.ensures.refused
