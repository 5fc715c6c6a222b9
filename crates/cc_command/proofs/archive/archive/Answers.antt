use Rattle.std.proofs.Common.{◌≡◌, ◌∙◌, ℕ, Bool, List, [], Ok, Err, sym, ap, subst, refl}
use Rattle.std.proofs.lemmas.Result.{err_from_is_err_and}
use Rattle.cc_host.specs.Part.{since}
use Rattle.cc_host.specs.Question.{answers, Holds}
use Rattle.cc_host.proofs.Parts.{since_since}
use Rattle.cc_plan.specs.Plan.{library_of}
use Rattle.cc_plan.specs.Questions.{RunAsks}
use Rattle.cc_tool.proofs.Asides.{asked_none}
use Rattle.cc_build.specs.Archiving.{with_objects, Creates}
use Rattle.cc_build.specs.Build.{AsksByRun, probes}
use Rattle.cc_build.specs.Linking.{DirectivesEnd}
use Rattle.cc_command.specs.Archived.{alone, library_at, Archiving}
use Rattle.cc_command.specs.Read.{name_of}
use Rattle.cc_command.proofs.ArchivingLaws.{archive_ended, directives_ended}
use Rattle.cc_command.proofs.archive.archive.Goals as goal

pub returns-in_err-library-clause-archiving : goal.returns-in_err-library-clause-archiving
returns-in_err-library-clause-archiving g c =
    let part = since (g.H.Host.log c.args.host.now) (g.H.Host.log c.try_create_archive.new.host) in
    let patience = g.H.Host.patience c.args.host.now in
    let b = c.args.request.now.build in
    let name = name_of c.args.request.now.job in
    let e = c.in_err-library.field-0.0 in
    let p = err_from_is_err_and c.from_residual.result c.from_residual.ensures.1 in
    let named : Holds (answers part) (λ look. Creates {T = List ℕ} (with_objects b c.new-objects.result) (g.H.Host.listens c.args.host.now) patience c.args.turns name (Err e) look part) =
    subst (λ (n : List ℕ). Holds (answers part) (λ look. Creates {T = List ℕ} (with_objects b c.new-objects.result) (g.H.Host.listens c.args.host.now) patience c.args.turns n (Err e) look part)) c.name-name.ensures c.in_err-library.ensures.outcome in
    let none : c.new-objects.result ≡ [] = c.new-objects.ensures in
    rw (p.1, p.2)
    (archive_ended (g.H.Host.listens c.args.host.now) g.W.World.steady g.W.World.answer b patience c.args.turns name part e c.requires.repeats
    (subst (λ (o : List (List ℕ)). AsksByRun g.W.World.steady g.W.World.answer (with_objects b o) part) none c.try_create_archive.ensures.asked)
    (asked_none g.W.World.steady g.W.World.answer (probes b) (RunAsks b.config b.env) [] refl)
    (subst (λ (o : List (List ℕ)). Holds (answers part) (λ look. Creates {T = List ℕ} (with_objects b o) (g.H.Host.listens c.args.host.now) patience c.args.turns name (Err e) look part)) none named))

pub returns-clause-archiving : goal.returns-clause-archiving
returns-clause-archiving g c =
    let old = g.H.Host.log c.args.host.now in
    let mid = g.H.Host.log c.try_create_archive.new.host in
    let new = g.H.Host.log c.emit_link_directives.new.host in
    let patience = g.H.Host.patience c.args.host.now in
    let b = c.args.request.now.build in
    let name = name_of c.args.request.now.job in
    let path = c.in_ok-library.library in
    let r = c.emit_link_directives.result in
    let none : c.new-objects.result ≡ [] = c.new-objects.ensures in
    let named : Holds (answers (since old mid)) (λ look. Creates (with_objects b c.new-objects.result) (g.H.Host.listens c.args.host.now) patience c.args.turns name (Ok path) look (since old mid)) =
    subst (λ (n : List ℕ). Holds (answers (since old mid)) (λ look. Creates (with_objects b c.new-objects.result) (g.H.Host.listens c.args.host.now) patience c.args.turns n (Ok path) look (since old mid))) c.name-name.ensures c.in_ok-library.ensures.outcome in
    let made : Holds (answers (since old mid)) (λ look. Creates (alone b) (g.H.Host.listens c.args.host.now) patience c.args.turns name (Ok path) look (since old mid)) =
    subst (λ (o : List (List ℕ)). Holds (answers (since old mid)) (λ look. Creates (with_objects b o) (g.H.Host.listens c.args.host.now) patience c.args.turns name (Ok path) look (since old mid))) none named in
    let at : c.as_str.result.now ≡ library_at b name =
    c.as_str.ensures ∙ c.in_ok-library.ensures.library ∙ ap (λ (o : List (List ℕ)). library_of (with_objects b o).config b.env c.name-name.result.now) none ∙ ap (library_of (alone b).config b.env) c.name-name.ensures in
    let linked : Holds (answers (since mid new)) (λ links. DirectivesEnd b (g.H.Host.listens c.args.host.now) (library_at b name) r links (since mid new)) =
    subst (λ (l : List ℕ). Holds (answers (since mid new)) (λ links. DirectivesEnd b (g.H.Host.listens c.args.host.now) l r links (since mid new))) at
    (subst (λ (heard : Bool). Holds (answers (since mid new)) (λ links. DirectivesEnd b heard c.as_str.result.now r links (since mid new))) c.listens-listens.ensures c.emit_link_directives.ensures.outcome) in
    subst (λ l. Archiving (g.H.Host.listens c.args.host.now) g.W.World.steady g.W.World.answer b patience c.args.turns name l r) (sym (since_since old mid new c.try_create_archive.ensures.extends c.emit_link_directives.ensures.extends))
    (directives_ended (g.H.Host.listens c.args.host.now) g.W.World.steady g.W.World.answer b patience c.args.turns name path (since old mid) (since mid new) r c.requires.repeats
    (subst (λ (o : List (List ℕ)). AsksByRun g.W.World.steady g.W.World.answer (with_objects b o) (since old mid)) none c.try_create_archive.ensures.asked)
    c.emit_link_directives.ensures.asked made linked)
