use Rattle.std.proofs.Common.{◌≡◌, ◌<◌, ◌∙◌, ◌∷◌, ◌++◌, [], ℕ, List, length, ap, arith}
use Rattle.cc_fleet.specs.Fleet.{member_seen, objects_at, library_at, files_of}
use Rattle.cc_fleet.proofs.MemberLemmas.{at_its_place, files_next}
use Rattle.cc_fleet.proofs.paths.written_files.Goals as goal

pub loop-place-preserved : goal.loop-place-preserved
loop-place-preserved g c =
    let members = c.args.members.now in
    let m = c.index-members-place.result in
    let within : c.loop-place.place < length members = omega arith in
    let its = at_its_place members c.loop-place.place m within c.index-members-place.is objects_at c.args.objects.now c.index-objects-place.result c.requires.objects c.index-objects-place.is in
    let its_files : c.in_ok-files_of.field-0 ≡ files_of (member_seen m) = c.in_ok-files_of.ensures ∙ ap (λ (o : List (List ℕ)). o ++ library_at (member_seen m) ∷ []) its in
    files_next members c.loop-place.place m within c.index-members-place.is c.loop-place.files.items c.push.new.self.items c.in_ok-files_of.field-0 c.loop-place.invariant
    its_files c.in_ok-push.ensures.items
