use Rattle.std.proofs.Common.{◌≡◌, ◌<◌, ◌^◌, ◌∙◌, sym}
use Rattle.std.specs.Fmt.{decimal}
use Rattle.cc_command.proofs.NumberLaws.{decimal_is_number, refused_number, other_form, read_fits, tested_true, tested_false}
use Rattle.cc_command.proofs.reading.number_of.Goals as goal

pub returns-then-eq : goal.returns-then-eq
returns-then-eq c =
    let is : decimal c.in-Ok.n ≡ c.args.text.now = sym c.in_ok-digits-in-Ok.ensures.ok ∙ sym c.as_str.ensures.value ∙ tested_true c.as_str.result.now c.args.text.now c.if-eq.ensures in
    let small : c.in-Ok.n < 2 ^ 32 = read_fits c.args.text.now c.in-Ok.n c.parse.result c.parse.ensures.value.0 c.in-Ok.is in
    (decimal_is_number c.args.text.now c.in-Ok.n small is, is)

pub returns-in-Ok : goal.returns-in-Ok
returns-in-Ok c =
    let apart = tested_false c.as_str.result.now c.args.text.now c.if-eq.ensures in
    other_form c.args.text.now c.in-Ok.n c.parse.result c.parse.ensures.value.0 c.in-Ok.is (λ e. apart (c.as_str.ensures.value ∙ c.in_ok-digits-in-Ok.ensures.ok ∙ e))

pub returns : goal.returns
returns c = refused_number c.args.text.now _ c.parse.result c.parse.ensures.value.0 c.in-Err.is
