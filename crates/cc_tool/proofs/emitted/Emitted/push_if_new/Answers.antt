use Rattle.std.proofs.Common.{sym, ap, ◌∙◌}
use Rattle.cc_text.specs.Words.{is_among}
use Rattle.std.specs.Result.{is_ok}
use Rattle.cc_tool.proofs.EmittedLemmas.{distinct_push}
use Rattle.cc_tool.proofs.emitted.Emitted.push_if_new.Goals as goal

pub invariant_of-self : goal.invariant_of-self
invariant_of-self c = record { distinct = distinct_push c.args.self.now.list.items (is_ok c.push.result) c.args.value.now _ c.args.self.now.distinct (ap (λ l. is_among l c.args.value.now) (sym c.as_slice.ensures.value) ∙ sym c.if-is_among.ensures) c.push.ensures.items c.in_ok-text.ensures }
