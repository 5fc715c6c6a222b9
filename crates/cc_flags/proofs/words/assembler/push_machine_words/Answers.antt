use Rattle.std.proofs.Common.{List, [], ◌∷◌, ◌++◌, ℕ, ap, ◌∙◌, codes}
use Rattle.cc_flags.specs.Texts.{is}
use Rattle.cc_target.specs.Targets.{info_seen}
use Rattle.cc_text.specs.Words.{when, choose}
use Rattle.cc_flags.specs.AssemblerWords.{machine_words}
use Rattle.cc_flags.proofs.WordLemmas.{two_chosen}
use Rattle.cc_flags.proofs.words.assembler.push_machine_words.Goals as goal

pub returns : goal.returns
unfolding machine_words choose
returns c =
    let is_arm64ec = is (info_seen c.args.target.now).arch "arm64ec" in
    c.in_ok-push_machine.ensures ∙ ap (λ (ws : List (List ℕ)). ws ++ when is_arm64ec (codes "-machine" ∷ codes "ARM64EC" ∷ [])) c.in_ok-push_if.ensures
    ∙ two_chosen c.args.words.now c.args.debug is_arm64ec (codes "-g" ∷ []) (codes "-machine" ∷ codes "ARM64EC" ∷ [])
