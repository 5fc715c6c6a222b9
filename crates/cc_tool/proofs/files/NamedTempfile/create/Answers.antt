use Rattle.std.proofs.Common.{◌∙◌, ℕ, List, Option, Ok, subst, arith}
use Rattle.cc_tool.specs.Tempfile.{Attempted}
use Rattle.cc_tool.proofs.TriedLemmas.{taken_more, tried_file, tried_open}
use Rattle.cc_tool.proofs.files.NamedTempfile.create.Goals as goal

pub returns-in-Some-clause-open : goal.returns-in-Some-clause-open
returns-in-Some-clause-open g c =
    let tried = subst (λ (r : Option (List ℕ)). Attempted c.args.dir.now c.args.suffix.now c.args.contents.now (g.H.Host.log c.loop-tries.host) (g.H.Host.log c.attempt.new.host) (Ok r)) c.in-Some.is c.in_ok-path.ensures.tried in
    tried_open c.log-tidy.ensures.tidy (tried_file c.loop-tries.invariant.taken (omega arith) tried)

pub loop-tries-preserved : goal.loop-tries-preserved
loop-tries-preserved g c =
    let tried = subst (λ (r : Option (List ℕ)). Attempted c.args.dir.now c.args.suffix.now c.args.contents.now (g.H.Host.log c.loop-tries.host) (g.H.Host.log c.attempt.new.host) (Ok r)) c.in-None.is c.in_ok-path.ensures.tried in
    record { taken = taken_more c.loop-tries.invariant.taken tried; patient = c.attempt.ensures.patient ∙ c.loop-tries.invariant.patient }
