use Rattle.std.proofs.Common.{◌≡◌, ℕ, List, [], ◌∷◌, ◌++◌, get_or, arith, subst, sym, ◌∙◌}
use Rattle.std.specs.Borrow.{Bor}
use Rattle.std.proofs.lemmas.Grind.{common_steps}
use Rattle.cc_run.specs.Lines.{IsUncut}
use Rattle.cc_run.proofs.LineLemmas.{take_many, take_one, take_none, rest_uncut, more_lines, first_line, pieces_again}
use Rattle.cc_run.proofs.forwarder.Forwarder.take.Goals as goal

nobody : Bor (List ℕ)
nobody = record { ref_ptr = (0, 0); now = [] }

pub returns-in-len2-up-clause-lines : goal.returns-in-len2-up-clause-lines
unfolding nobody
returns-in-len2-up-clause-lines c =
    let k = take_many c.args.self.now c.args.piece.now c.as_slice.result.now (subst IsUncut c.self.view_is c.self.invariant) (pieces_again c.as_slice.ensures.value c.in_ok-parts.ensures) c.in-len2-up.len_at_least in
    let a : c.push.new.self.items ≡ (c.args.self.now ++ (get_or c.as_slice.result.now 0 nobody).now) ∷ [] = first_line c.args.self.now (get_or c.as_slice.result.now 0 nobody).now c.in_ok-push-in-len2-up.ensures.items c.new-lines.ensures.items c.owning.ensures c.in_ok-extend_from_slice-in-len2-up.ensures.items (cc c.in_ok-first-in-len2-up.ensures.items) in
    more_lines a c.in_ok-push_each-in-len2-up.ensures (k.0 nobody)

pub returns-in-len2-up-clause-rest : goal.returns-in-len2-up-clause-rest
unfolding nobody
returns-in-len2-up-clause-rest c =
    let k = take_many c.args.self.now c.args.piece.now c.as_slice.result.now (subst IsUncut c.self.view_is c.self.invariant) (pieces_again c.as_slice.ensures.value c.in_ok-parts.ensures) c.in-len2-up.len_at_least in
    c.in_ok-self-inside-in-len2-up.ensures.items ∙ sym (k.1 nobody)

pub returns-in-len1-clause-lines : goal.returns-in-len1-clause-lines
returns-in-len1-clause-lines c =
    let k = take_one c.args.self.now c.args.piece.now c.as_slice.result.now (subst IsUncut c.self.view_is c.self.invariant) (pieces_again c.as_slice.ensures.value c.in_ok-parts.ensures) (omega arith) in
    c.new-lines.ensures.items ∙ sym k.0

pub returns-in-len1-clause-rest : goal.returns-in-len1-clause-rest
unfolding nobody
returns-in-len1-clause-rest c =
    let k = take_one c.args.self.now c.args.piece.now c.as_slice.result.now (subst IsUncut c.self.view_is c.self.invariant) (pieces_again c.as_slice.ensures.value c.in_ok-parts.ensures) (omega arith) in
    let a : c.extend_from_slice.new.self.items ≡ c.args.self.now ++ (get_or c.as_slice.result.now 0 nobody).now = grind (arith, common_steps) in
    a ∙ sym (k.1 nobody)

pub invariant_of-self-in-len2-up : goal.invariant_of-self-in-len2-up
unfolding nobody
invariant_of-self-in-len2-up c =
    let k = take_many c.args.self.now c.args.piece.now c.as_slice.result.now (subst IsUncut c.self.view_is c.self.invariant) (pieces_again c.as_slice.ensures.value c.in_ok-parts.ensures) c.in-len2-up.len_at_least in
    subst IsUncut (sym (c.in_ok-self-inside-in-len2-up.ensures.items ∙ sym (k.1 nobody))) (rest_uncut (c.args.self.now ++ c.args.piece.now))

pub invariant_of-self-in-len1 : goal.invariant_of-self-in-len1
unfolding nobody
invariant_of-self-in-len1 c =
    let k = take_one c.args.self.now c.args.piece.now c.as_slice.result.now (subst IsUncut c.self.view_is c.self.invariant) (pieces_again c.as_slice.ensures.value c.in_ok-parts.ensures) (omega arith) in
    let a : c.extend_from_slice.new.self.items ≡ c.args.self.now ++ (get_or c.as_slice.result.now 0 nobody).now = grind (arith, common_steps) in
    subst IsUncut (sym (a ∙ sym (k.1 nobody))) (rest_uncut (c.args.self.now ++ c.args.piece.now))

pub returns-clause-lines : goal.returns-clause-lines
returns-clause-lines c = absurd (take_none c.args.piece.now c.as_slice.result.now (pieces_again c.as_slice.ensures.value c.in_ok-parts.ensures) c.in-empty.len_below)

pub returns-clause-rest : goal.returns-clause-rest
returns-clause-rest c = absurd (take_none c.args.piece.now c.as_slice.result.now (pieces_again c.as_slice.ensures.value c.in_ok-parts.ensures) c.in-empty.len_below)
