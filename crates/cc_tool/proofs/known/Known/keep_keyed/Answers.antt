use Rattle.std.proofs.Common.{refl}
use Rattle.std.specs.Result.{is_ok}
use Rattle.cc_tool.proofs.KnownLemmas.{as_told, steady_push, kept_push}
use Rattle.cc_tool.proofs.known.Known.keep_keyed.Goals as goal

pub invariant_of-self-2 : goal.invariant_of-self-2
invariant_of-self-2 g c =
    let told = as_told c.push.result _ _ _ c.push.ensures.ok c.push.ensures.err in
    let ok = is_ok c.push.result in
    record {
      all_steady = steady_push g.W.World.answer c.args.self.now.entries.items ok c.args.key.now.question.now _ c.args.v.now _ c.args.self.now.all_steady c.requires.steady told refl c.in_ok-try_clone.ensures;
      all_kept = kept_push c.args.self.now.entries.items ok c.args.key.now.question.now _ c.args.v.now _ c.args.self.now.all_kept c.requires.kept told refl c.in_ok-try_clone.ensures;
    }
