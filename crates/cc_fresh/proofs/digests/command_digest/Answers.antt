use Rattle.std.proofs.Common.{[], ap, ◌∙◌}
use Rattle.sha2.specs.Sha256.{sha256}
use Rattle.cc_fresh.specs.Digests.{hex, digest, command_digest}
use Rattle.cc_fresh.proofs.DigestLemmas.{all_taken}
use Rattle.cc_fresh.proofs.digests.command_digest.Goals as goal

pub returns : goal.returns
unfolding command_digest digest
returns c =
    let program = c.take_closed.ensures [] c.new-hasher.ensures in
    let words = c.take_texts.ensures _ program in
    let variables = c.take_pairs.ensures _ (c.update.ensures _ words) in
    let whole = c.take_text.ensures _ (c.update-2.ensures _ variables) in
    c.in_ok-text.ensures
    ∙ ap hex (c.finalize.ensures _ whole)
    ∙ ap (λ m. hex (sha256 m)) (all_taken c.args.cmd.now _ _ _ _ c.get_program.ensures (c.as_slice.ensures ∙ c.get_args.ensures) (c.as_slice-2.ensures ∙ c.get_envs.ensures) c.get_current_dir.ensures)
