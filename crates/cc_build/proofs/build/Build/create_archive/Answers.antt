use Rattle.std.proofs.Common.{◌≡◌, ◌⊎◌, ◌∙◌, inl, ℕ, Some, List, Ok, Err, refl, ap, subst, sym}
use Rattle.std.proofs.lemmas.Result.{err_from_is_err_and}
use Rattle.cc_host.specs.Part.{since}
use Rattle.cc_host.specs.Question.{answers, Holds}
use Rattle.cc_flags.specs.declared.settings.BuildConfig.{BuildConfig}
use Rattle.cc_flags.specs.Settings.{archive_settings}
use Rattle.cc_plan.proofs.LineLemmas.{since_none}
use Rattle.cc_build.specs.Archiving.{with_objects, unarchived_error, ArchivesFirst, Creates}
use Rattle.cc_build.specs.Build.{BuildSeen}
use Rattle.cc_build.specs.Error.{no_memory}
use Rattle.cc_build.proofs.ArchivingLaws.{uncreated, agreed, created_by, turns_left, no_faults, no_turns, creates_settled, creates_faults}
use Rattle.cc_build.proofs.PrefixLaws.{archives_first, archives_none}
use Rattle.cc_build.specs.Shows.{shows_of}
use Rattle.cc_build.specs.Stage.{IsRun}
use Rattle.cc_build.proofs.ToldLaws.{archive_is}
use Rattle.cc_build.proofs.build.Build.create_archive.Goals as goal

pub archive_and_tell-made-requires-clause-plain : goal.archive_and_tell-made-requires-clause-plain
archive_and_tell-made-requires-clause-plain g c = λ κs lives. subst (IsRun c.in_ok-set.set) (sym c.archive_reads.ensures) (archive_is c.in_ok-set.set)

pub returns-in_err-set-clause-outcome : goal.returns-in_err-set-clause-outcome
returns-in_err-set-clause-outcome g c =
    let old = g.H.Host.log c.args.host.now in
    let p = err_from_is_err_and c.from_residual.result c.from_residual.ensures.1 in
    rw (p.1, p.2)
    (subst (λ (b : BuildSeen). Holds (answers (since old old)) (λ look. Creates {T = List ℕ} (with_objects b c.args.objects.now) (g.H.Host.listens c.args.host.now) (g.H.Host.patience c.args.host.now) c.args.left.now c.args.output.now (Err _) look (since old old))) c.self.view_is
    (record {
      under = λ look agree. uncreated (archive_settings c.self.inside.config c.args.objects.now) c.self.inside.env (g.H.Host.listens c.args.host.now) (g.H.Host.patience c.args.host.now) c.args.left.now c.args.output.now (since old old) (List ℕ) look _ (since_none old) (inl refl);
    }))

pub returns-in_err-set-clause-faults_last : goal.returns-in_err-set-clause-faults_last
returns-in_err-set-clause-faults_last g c = no_faults (since (g.H.Host.log c.args.host.now) (g.H.Host.log c.args.host.now)) (since_none (g.H.Host.log c.args.host.now))

pub returns-in_err-sources-clause-outcome : goal.returns-in_err-sources-clause-outcome
returns-in_err-sources-clause-outcome g c =
    let old = g.H.Host.log c.args.host.now in
    let p = err_from_is_err_and c.from_residual-in_err-sources.result c.from_residual-in_err-sources.ensures.1 in
    rw (p.1, p.2)
    (subst (λ (b : BuildSeen). Holds (answers (since old old)) (λ look. Creates {T = List ℕ} (with_objects b c.args.objects.now) (g.H.Host.listens c.args.host.now) (g.H.Host.patience c.args.host.now) c.args.left.now c.args.output.now (Err c.in_err-sources.field-0.0) look (since old old))) c.self.view_is
    (record {
      under = λ look agree.
          uncreated (archive_settings c.self.inside.config c.args.objects.now) c.self.inside.env (g.H.Host.listens c.args.host.now) (g.H.Host.patience c.args.host.now) c.args.left.now c.args.output.now (since old old) (List ℕ) look c.in_err-sources.field-0.0 (since_none old)
          (subst (λ (s : BuildConfig). (c.in_err-sources.field-0.0 ≡ no_memory) ⊎ (unarchived_error s c.self.inside.env c.args.output.now ≡ Some c.in_err-sources.field-0.0)) c.in_ok-set.ensures c.in_err-sources.ensures.refused);
    }))

pub returns-in_err-sources-clause-faults_last : goal.returns-in_err-sources-clause-faults_last
returns-in_err-sources-clause-faults_last g c = no_faults (since (g.H.Host.log c.args.host.now) (g.H.Host.log c.args.host.now)) (since_none (g.H.Host.log c.args.host.now))

pub returns-in_err-path-clause-outcome : goal.returns-in_err-path-clause-outcome
returns-in_err-path-clause-outcome g c =
    let old = g.H.Host.log c.args.host.now in
    let p = err_from_is_err_and c.from_residual-in_err-path.result c.from_residual-in_err-path.ensures.1 in
    rw (p.1, p.2)
    (subst (λ (b : BuildSeen). Holds (answers (since old old)) (λ look. Creates {T = List ℕ} (with_objects b c.args.objects.now) (g.H.Host.listens c.args.host.now) (g.H.Host.patience c.args.host.now) c.args.left.now c.args.output.now (Err _) look (since old old))) c.self.view_is
    (record {
      under = λ look agree. uncreated (archive_settings c.self.inside.config c.args.objects.now) c.self.inside.env (g.H.Host.listens c.args.host.now) (g.H.Host.patience c.args.host.now) c.args.left.now c.args.output.now (since old old) (List ℕ) look _ (since_none old) (inl refl);
    }))

pub returns-in_err-path-clause-faults_last : goal.returns-in_err-path-clause-faults_last
returns-in_err-path-clause-faults_last g c = no_faults (since (g.H.Host.log c.args.host.now) (g.H.Host.log c.args.host.now)) (since_none (g.H.Host.log c.args.host.now))

pub returns-in-Ok-clause-outcome : goal.returns-in-Ok-clause-outcome
returns-in-Ok-clause-outcome g c =
    let part = since (g.H.Host.log c.args.host.now) (g.H.Host.log c.archive_and_tell-made.new.host) in
    let patience = g.H.Host.patience c.args.host.now in
    let set = c.in_ok-set.set in
    let env = c.self.inside.env in
    let inside : BuildSeen = record { config = set; env = env } in
    let ran : Holds (answers part) (λ look. Creates {T = List ℕ} inside (g.H.Host.listens c.args.host.now) patience c.args.left.now c.args.output.now (Ok c.in_ok-path.path) look part) =
    created_by set env (g.H.Host.listens c.args.host.now) patience c.args.left.now c.args.output.now part c.shows_of-shows.result _ c.archive_reads.result (c.shows_of-shows.ensures ∙ ap (shows_of set env) c.listens.ensures) refl refl c.archive_reads.ensures c.in_ok-sources.ensures.allowed g.W.World.steady g.W.World.answer _ _ c.new-answers.ensures c.archive_and_tell-made.ensures.asks.asks {T = List ℕ} (Ok c.in_ok-path.path) c.in-Ok.ensures.outcome in
    let same : inside ≡ with_objects c.args.self.now c.args.objects.now = ap (λ (s : BuildConfig). record { config = s; env = env }) c.in_ok-set.ensures ∙ ap (λ (b : BuildSeen). with_objects b c.args.objects.now) c.self.view_is in
    subst (λ (b : BuildSeen). Holds (answers part) (λ look. Creates {T = List ℕ} b (g.H.Host.listens c.args.host.now) patience c.args.left.now c.args.output.now (Ok c.in_ok-path.path) look part)) same ran

pub returns-in-Ok-clause-settled : goal.returns-in-Ok-clause-settled
returns-in-Ok-clause-settled g c =
    let part = since (g.H.Host.log c.args.host.now) (g.H.Host.log c.archive_and_tell-made.new.host) in
    let patience = g.H.Host.patience c.args.host.now in
    let set = c.in_ok-set.set in
    let env = c.self.inside.env in
    let inside : BuildSeen = record { config = set; env = env } in
    let ran : Holds (answers part) (λ look. Creates {T = List ℕ} inside (g.H.Host.listens c.args.host.now) patience c.args.left.now c.args.output.now (Ok c.in_ok-path.path) look part) =
    created_by set env (g.H.Host.listens c.args.host.now) patience c.args.left.now c.args.output.now part c.shows_of-shows.result _ c.archive_reads.result (c.shows_of-shows.ensures ∙ ap (shows_of set env) c.listens.ensures) refl refl c.archive_reads.ensures c.in_ok-sources.ensures.allowed g.W.World.steady g.W.World.answer _ _ c.new-answers.ensures c.archive_and_tell-made.ensures.asks.asks {T = List ℕ} (Ok c.in_ok-path.path) c.in-Ok.ensures.outcome in
    let some = agreed set env part g.W.World.steady g.W.World.answer _ _ c.new-answers.ensures c.archive_and_tell-made.ensures.asks.asks in
    creates_settled {T = List ℕ} inside (g.H.Host.listens c.args.host.now) patience c.args.left.now c.args.output.now some.0 part (Ok c.in_ok-path.path) (ran.under some.0 some.1)

pub returns-in-Ok-clause-faults_last : goal.returns-in-Ok-clause-faults_last
returns-in-Ok-clause-faults_last g c =
    let part = since (g.H.Host.log c.args.host.now) (g.H.Host.log c.archive_and_tell-made.new.host) in
    let patience = g.H.Host.patience c.args.host.now in
    let set = c.in_ok-set.set in
    let env = c.self.inside.env in
    let inside : BuildSeen = record { config = set; env = env } in
    let ran : Holds (answers part) (λ look. Creates {T = List ℕ} inside (g.H.Host.listens c.args.host.now) patience c.args.left.now c.args.output.now (Ok c.in_ok-path.path) look part) =
    created_by set env (g.H.Host.listens c.args.host.now) patience c.args.left.now c.args.output.now part c.shows_of-shows.result _ c.archive_reads.result (c.shows_of-shows.ensures ∙ ap (shows_of set env) c.listens.ensures) refl refl c.archive_reads.ensures c.in_ok-sources.ensures.allowed g.W.World.steady g.W.World.answer _ _ c.new-answers.ensures c.archive_and_tell-made.ensures.asks.asks {T = List ℕ} (Ok c.in_ok-path.path) c.in-Ok.ensures.outcome in
    let some = agreed set env part g.W.World.steady g.W.World.answer _ _ c.new-answers.ensures c.archive_and_tell-made.ensures.asks.asks in
    creates_faults {T = List ℕ} inside (g.H.Host.listens c.args.host.now) patience c.args.left.now c.args.output.now some.0 part (Ok c.in_ok-path.path) (ran.under some.0 some.1)

pub returns-clause-outcome : goal.returns-clause-outcome
returns-clause-outcome g c =
    let part = since (g.H.Host.log c.args.host.now) (g.H.Host.log c.archive_and_tell-made.new.host) in
    let patience = g.H.Host.patience c.args.host.now in
    let set = c.in_ok-set.set in
    let env = c.self.inside.env in
    let inside : BuildSeen = record { config = set; env = env } in
    let ran : Holds (answers part) (λ look. Creates {T = List ℕ} inside (g.H.Host.listens c.args.host.now) patience c.args.left.now c.args.output.now (Err c.in-Err.error) look part) =
    created_by set env (g.H.Host.listens c.args.host.now) patience c.args.left.now c.args.output.now part c.shows_of-shows.result _ c.archive_reads.result (c.shows_of-shows.ensures ∙ ap (shows_of set env) c.listens.ensures) refl refl c.archive_reads.ensures c.in_ok-sources.ensures.allowed g.W.World.steady g.W.World.answer _ _ c.new-answers.ensures c.archive_and_tell-made.ensures.asks.asks {T = List ℕ} (Err c.in-Err.error) c.in-Err.ensures.outcome in
    let same : inside ≡ with_objects c.args.self.now c.args.objects.now = ap (λ (s : BuildConfig). record { config = s; env = env }) c.in_ok-set.ensures ∙ ap (λ (b : BuildSeen). with_objects b c.args.objects.now) c.self.view_is in
    subst (λ (b : BuildSeen). Holds (answers part) (λ look. Creates {T = List ℕ} b (g.H.Host.listens c.args.host.now) patience c.args.left.now c.args.output.now (Err c.in-Err.error) look part)) same ran

pub returns-clause-settled : goal.returns-clause-settled
returns-clause-settled g c =
    let part = since (g.H.Host.log c.args.host.now) (g.H.Host.log c.archive_and_tell-made.new.host) in
    let patience = g.H.Host.patience c.args.host.now in
    let set = c.in_ok-set.set in
    let env = c.self.inside.env in
    let inside : BuildSeen = record { config = set; env = env } in
    let ran : Holds (answers part) (λ look. Creates {T = List ℕ} inside (g.H.Host.listens c.args.host.now) patience c.args.left.now c.args.output.now (Err c.in-Err.error) look part) =
    created_by set env (g.H.Host.listens c.args.host.now) patience c.args.left.now c.args.output.now part c.shows_of-shows.result _ c.archive_reads.result (c.shows_of-shows.ensures ∙ ap (shows_of set env) c.listens.ensures) refl refl c.archive_reads.ensures c.in_ok-sources.ensures.allowed g.W.World.steady g.W.World.answer _ _ c.new-answers.ensures c.archive_and_tell-made.ensures.asks.asks {T = List ℕ} (Err c.in-Err.error) c.in-Err.ensures.outcome in
    let some = agreed set env part g.W.World.steady g.W.World.answer _ _ c.new-answers.ensures c.archive_and_tell-made.ensures.asks.asks in
    creates_settled {T = List ℕ} inside (g.H.Host.listens c.args.host.now) patience c.args.left.now c.args.output.now some.0 part (Err c.in-Err.error) (ran.under some.0 some.1)

pub returns-clause-faults_last : goal.returns-clause-faults_last
returns-clause-faults_last g c =
    let part = since (g.H.Host.log c.args.host.now) (g.H.Host.log c.archive_and_tell-made.new.host) in
    let patience = g.H.Host.patience c.args.host.now in
    let set = c.in_ok-set.set in
    let env = c.self.inside.env in
    let inside : BuildSeen = record { config = set; env = env } in
    let ran : Holds (answers part) (λ look. Creates {T = List ℕ} inside (g.H.Host.listens c.args.host.now) patience c.args.left.now c.args.output.now (Err c.in-Err.error) look part) =
    created_by set env (g.H.Host.listens c.args.host.now) patience c.args.left.now c.args.output.now part c.shows_of-shows.result _ c.archive_reads.result (c.shows_of-shows.ensures ∙ ap (shows_of set env) c.listens.ensures) refl refl c.archive_reads.ensures c.in_ok-sources.ensures.allowed g.W.World.steady g.W.World.answer _ _ c.new-answers.ensures c.archive_and_tell-made.ensures.asks.asks {T = List ℕ} (Err c.in-Err.error) c.in-Err.ensures.outcome in
    let some = agreed set env part g.W.World.steady g.W.World.answer _ _ c.new-answers.ensures c.archive_and_tell-made.ensures.asks.asks in
    creates_faults {T = List ℕ} inside (g.H.Host.listens c.args.host.now) patience c.args.left.now c.args.output.now some.0 part (Err c.in-Err.error) (ran.under some.0 some.1)

pub returns-in_err-set-clause-prefix : goal.returns-in_err-set-clause-prefix
returns-in_err-set-clause-prefix g c =
    let old = g.H.Host.log c.args.host.now in
    record { under = λ look agree. archives_none (with_objects c.args.self.now c.args.objects.now) c.args.output.now look (since old old) (since_none old) }

pub returns-in_err-sources-clause-prefix : goal.returns-in_err-sources-clause-prefix
returns-in_err-sources-clause-prefix g c =
    let old = g.H.Host.log c.args.host.now in
    record { under = λ look agree. archives_none (with_objects c.args.self.now c.args.objects.now) c.args.output.now look (since old old) (since_none old) }

pub returns-in_err-path-clause-prefix : goal.returns-in_err-path-clause-prefix
returns-in_err-path-clause-prefix g c =
    let old = g.H.Host.log c.args.host.now in
    record { under = λ look agree. archives_none (with_objects c.args.self.now c.args.objects.now) c.args.output.now look (since old old) (since_none old) }

pub returns-in-Ok-clause-prefix : goal.returns-in-Ok-clause-prefix
returns-in-Ok-clause-prefix g c =
    let part = since (g.H.Host.log c.args.host.now) (g.H.Host.log c.archive_and_tell-made.new.host) in
    let patience = g.H.Host.patience c.args.host.now in
    let set = c.in_ok-set.set in
    let env = c.self.inside.env in
    let inside : BuildSeen = record { config = set; env = env } in
    let ran : Holds (answers part) (λ look. Creates {T = List ℕ} inside (g.H.Host.listens c.args.host.now) patience c.args.left.now c.args.output.now (Ok c.in_ok-path.path) look part) =
    created_by set env (g.H.Host.listens c.args.host.now) patience c.args.left.now c.args.output.now part c.shows_of-shows.result _ c.archive_reads.result (c.shows_of-shows.ensures ∙ ap (shows_of set env) c.listens.ensures) refl refl c.archive_reads.ensures c.in_ok-sources.ensures.allowed g.W.World.steady g.W.World.answer _ _ c.new-answers.ensures c.archive_and_tell-made.ensures.asks.asks {T = List ℕ} (Ok c.in_ok-path.path) c.in-Ok.ensures.outcome in
    let same : inside ≡ with_objects c.args.self.now c.args.objects.now = ap (λ (s : BuildConfig). record { config = s; env = env }) c.in_ok-set.ensures ∙ ap (λ (b : BuildSeen). with_objects b c.args.objects.now) c.self.view_is in
    let first : Holds (answers part) (λ look. ArchivesFirst inside c.args.output.now look part) =
    record { under = λ look agree. archives_first {T = List ℕ} inside (g.H.Host.listens c.args.host.now) patience c.args.left.now c.args.output.now look part (Ok c.in_ok-path.path) (ran.under look agree) } in
    subst (λ (b : BuildSeen). Holds (answers part) (λ look. ArchivesFirst b c.args.output.now look part)) same first

pub returns-clause-prefix : goal.returns-clause-prefix
returns-clause-prefix g c =
    let part = since (g.H.Host.log c.args.host.now) (g.H.Host.log c.archive_and_tell-made.new.host) in
    let patience = g.H.Host.patience c.args.host.now in
    let set = c.in_ok-set.set in
    let env = c.self.inside.env in
    let inside : BuildSeen = record { config = set; env = env } in
    let ran : Holds (answers part) (λ look. Creates {T = List ℕ} inside (g.H.Host.listens c.args.host.now) patience c.args.left.now c.args.output.now (Err c.in-Err.error) look part) =
    created_by set env (g.H.Host.listens c.args.host.now) patience c.args.left.now c.args.output.now part c.shows_of-shows.result _ c.archive_reads.result (c.shows_of-shows.ensures ∙ ap (shows_of set env) c.listens.ensures) refl refl c.archive_reads.ensures c.in_ok-sources.ensures.allowed g.W.World.steady g.W.World.answer _ _ c.new-answers.ensures c.archive_and_tell-made.ensures.asks.asks {T = List ℕ} (Err c.in-Err.error) c.in-Err.ensures.outcome in
    let same : inside ≡ with_objects c.args.self.now c.args.objects.now = ap (λ (s : BuildConfig). record { config = s; env = env }) c.in_ok-set.ensures ∙ ap (λ (b : BuildSeen). with_objects b c.args.objects.now) c.self.view_is in
    let first : Holds (answers part) (λ look. ArchivesFirst inside c.args.output.now look part) =
    record { under = λ look agree. archives_first {T = List ℕ} inside (g.H.Host.listens c.args.host.now) patience c.args.left.now c.args.output.now look part (Err c.in-Err.error) (ran.under look agree) } in
    subst (λ (b : BuildSeen). Holds (answers part) (λ look. ArchivesFirst b c.args.output.now look part)) same first

pub returns-in_err-set-clause-sum : goal.returns-in_err-set-clause-sum
returns-in_err-set-clause-sum g c = no_turns (since (g.H.Host.log c.args.host.now) (g.H.Host.log c.args.host.now)) c.args.left.now (since_none (g.H.Host.log c.args.host.now))

pub returns-in_err-sources-clause-sum : goal.returns-in_err-sources-clause-sum
returns-in_err-sources-clause-sum g c = no_turns (since (g.H.Host.log c.args.host.now) (g.H.Host.log c.args.host.now)) c.args.left.now (since_none (g.H.Host.log c.args.host.now))

pub returns-in_err-path-clause-sum : goal.returns-in_err-path-clause-sum
returns-in_err-path-clause-sum g c = no_turns (since (g.H.Host.log c.args.host.now) (g.H.Host.log c.args.host.now)) c.args.left.now (since_none (g.H.Host.log c.args.host.now))

pub returns-in-Ok-clause-sum : goal.returns-in-Ok-clause-sum
returns-in-Ok-clause-sum g c =
    let part = since (g.H.Host.log c.args.host.now) (g.H.Host.log c.archive_and_tell-made.new.host) in
    let set = c.in_ok-set.set in
    let env = c.self.inside.env in
    turns_left set env (g.H.Host.listens c.args.host.now) (g.H.Host.patience c.args.host.now) c.args.left.now c.args.output.now part c.shows_of-shows.result _ c.archive_reads.result (c.shows_of-shows.ensures ∙ ap (shows_of set env) c.listens.ensures) refl refl c.archive_reads.ensures c.in_ok-sources.ensures.allowed g.W.World.steady g.W.World.answer _ _ c.new-answers.ensures c.archive_and_tell-made.ensures.asks.asks {T = List ℕ} (Ok c.in_ok-path.path) c.in-Ok.ensures.outcome

pub returns-clause-sum : goal.returns-clause-sum
returns-clause-sum g c =
    let part = since (g.H.Host.log c.args.host.now) (g.H.Host.log c.archive_and_tell-made.new.host) in
    let set = c.in_ok-set.set in
    let env = c.self.inside.env in
    turns_left set env (g.H.Host.listens c.args.host.now) (g.H.Host.patience c.args.host.now) c.args.left.now c.args.output.now part c.shows_of-shows.result _ c.archive_reads.result (c.shows_of-shows.ensures ∙ ap (shows_of set env) c.listens.ensures) refl refl c.archive_reads.ensures c.in_ok-sources.ensures.allowed g.W.World.steady g.W.World.answer _ _ c.new-answers.ensures c.archive_and_tell-made.ensures.asks.asks {T = List ℕ} (Err c.in-Err.error) c.in-Err.ensures.outcome
