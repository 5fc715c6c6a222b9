use Rattle.std.proofs.Common.{arith, ◌∷◌, [], refl}
use Rattle.std.proofs.lemmas.Grind.{common_steps}
use Rattle.cc_host.specs.declared.event.Event.TheVariants.{Opened}
use Rattle.cc_host.proofs.JournalLemmas.{joined_note, kept_opened}
use Rattle.cc_host.proofs.journal.Journal.note_opened.Goals as goal

pub invariant_of-self : goal.invariant_of-self
invariant_of-self c = record {
  kept = kept_opened c.self.inside.events.items _ c.self.inside.probes.items _ c.args.path c.args.kept c.args.bytes c.push_reserved.ensures.items c.push_reserved-2.ensures.items c.requires.same_path c.self.invariant.kept;
  joined = joined_note c.self.inside.events.items _ (Opened c.args.path c.args.bytes ∷ []) c.push_reserved.ensures.items refl c.self.invariant.joined;
  room = grind (arith, common_steps);
}
