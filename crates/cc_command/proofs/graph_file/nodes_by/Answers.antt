use Rattle.std.proofs.Common.{refl, sym}
use Rattle.std.proofs.lemmas.Str.{is_utf8-from_IsUtf8}
use Rattle.cc_text.proofs.Utf8Lemmas.{not_text}
use Rattle.cc_command.proofs.graph_file.nodes_by.Goals as goal

pub returns-in-Ok : goal.returns-in-Ok
returns-in-Ok c = rw (is_utf8-from_IsUtf8 c.args.bytes.now c.in-Ok.ensures.cases.1, sym c.in-Ok.ensures.cases.0) c.nodes_in.ensures

pub returns-in-Err : goal.returns-in-Err
returns-in-Err c = rw (not_text c.args.bytes.now c.in-Err.ensures.cases.0) refl
