use Rattle.std.proofs.Common.{[], ap, ◌∙◌}
use Rattle.std.specs.Path.{path_set_extension}
use Rattle.cc_text.proofs.PathLemmas.{named_extension, unnamed_extension}
use Rattle.cc_text.proofs.paths.with_extension.Goals as goal
use Rattle.cc_text.proofs.paths.with_extension.Goals.{then-is_named+in_ok-push_str+in_ok-push_str-2, else-is_named}

pub returns : goal.returns
returns c =
    let stem_is = c.in_ok-text.ensures ∙ c.as_str.ensures ∙ c.in_ok-is_named.ensures.ok ∙ ap (λ p. path_set_extension p []) c.in_ok-stem.ensures in
    let file_name_is = rw c.in_ok-stem.ensures at c.in_ok-is_named.ensures.has_file_name in
    elim c.if-is_named.branch [
      | then-is_named+in_ok-push_str+in_ok-push_str-2 w ↦ w.text-is ∙ named_extension _ c.args.path.now c.args.ext.now _ _ _ file_name_is w.if-is_named.true stem_is w.in_ok-push_str.ensures.ok w.in_ok-push_str-2.ensures.ok
      | else-is_named w ↦ w.text-is ∙ unnamed_extension _ c.args.path.now c.args.ext.now _ file_name_is w.if-is_named.false stem_is
    ]
