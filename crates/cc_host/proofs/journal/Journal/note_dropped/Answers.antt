use Rattle.std.proofs.Common.{◌≡◌, ◌<◌, ◌∷◌, [], refl, ◌∙◌, arith, ap, subst, sym, flat_map, length, List, ℕ}
use Rattle.std.specs.List.{slice_index_or}
use Rattle.std.proofs.lemmas.List.{get_or_default}
use Rattle.std.proofs.lemmas.Grind.{common_steps}
use Rattle.cc_host.specs.Event.{apart}
use Rattle.cc_host.specs.Journal.{JournalSeen}
use Rattle.cc_host.specs.Probe.{IsOpen, times}
use Rattle.cc_host.specs.declared.event.Event.TheVariants.{Dropped}
use Rattle.cc_host.proofs.JournalLemmas.{joined_note, kept_dropped, kept_has}
use Rattle.cc_host.proofs.journal.Journal.note_dropped.Goals as goal

pub invariant_of-self : goal.invariant_of-self
invariant_of-self c =
    let found = c.in-Some.ensures in
    let lt : c.in-Some.place < length c.self.inside.probes.items = subst (λ (l : List (List ℕ)). c.in-Some.place < length l) c.deref.ensures.value found.0 in
    let is : slice_index_or c.self.inside.probes.items c.in-Some.place c.args.path.now ≡ c.args.path.now = subst (λ (l : List (List ℕ)). slice_index_or l c.in-Some.place c.args.path.now ≡ c.args.path.now) c.deref.ensures.value found.1 in
    record {
      kept = kept_dropped c.self.inside.events.items _ c.self.inside.probes.items _ c.args.path.now c.remove-path.result c.in-Some.place c.push_reserved.ensures.items c.remove-path.ensures.items (c.remove-path.ensures.value ∙ get_or_default c.self.inside.probes.items c.in-Some.place c.remove-path.result c.args.path.now lt ∙ is) lt is c.self.invariant.kept;
      joined = joined_note c.self.inside.events.items _ (Dropped c.remove-path.result ∷ []) c.push_reserved.ensures.items refl c.self.invariant.joined;
      room = grind (arith, common_steps);
    }

pub unreachable-requires : goal.unreachable-requires
unreachable-requires c =
    kept_has (flat_map apart c.self.inside.events.items) c.self.inside.probes.items c.args.path.now c.self.invariant.kept
    (subst (IsOpen c.args.path.now) (sym (ap (λ (j : JournalSeen). j.log) c.self.view_is)) c.requires)
    (ap (times c.args.path.now) (sym c.deref.ensures.value) ∙ c.in-None.ensures)
