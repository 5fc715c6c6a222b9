use Rattle.std.proofs.Common.{◌≡◌, ◌∷◌, [], ℕ, List, OnOk, length, ◌∙◌, sym, ap, subst}
use Rattle.cc_db.specs.Database.{database}
use Rattle.cc_host.specs.Command.{CommandSeen}
use Rattle.cc_host.specs.Part.{since}
use Rattle.cc_host.specs.declared.event.Event.TheVariants.{Wrote}
use Rattle.cc_plan.specs.Plan.{objects_of}
use Rattle.cc_command.specs.Database.{compile_starts, entries_by, last_of, logged_entries}
use Rattle.cc_command.proofs.EntryLaws.{starts_apart}
use Rattle.cc_command.proofs.database.write_database.Goals as goal

pub returns-clause-wrote : goal.returns-clause-wrote
returns-clause-wrote g c =
    let objects = objects_of c.args.build.now.config c.args.build.now.env in
    let text : c.as_bytes.result.now ≡ database (logged_entries c.args.here.now objects (g.H.Host.log c.args.host.now)) =
    c.as_bytes.ensures.value ∙ c.as_str.ensures.value ∙ c.in_ok-text.ensures
    ∙ ap (λ (cmds : List CommandSeen). database (entries_by c.args.here.now objects (last_of (length objects) cmds))) (sym (starts_apart c.log.result.now) ∙ ap compile_starts c.log.ensures.events) in
    subst (λ (bytes : List ℕ). OnOk c.write_bytes.result (since (g.H.Host.log c.args.host.now) (g.H.Host.log c.write_bytes.new.host) ≡ Wrote c.args.path.now bytes ∷ [])) text c.write_bytes.ensures.wrote
