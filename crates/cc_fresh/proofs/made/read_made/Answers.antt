use Rattle.std.proofs.Common.{◌≡◌, ◌∙◌, ◌++◌, ◌∷◌, [], List, ℕ, Some, refl, sym, ap, append-nil}
use Rattle.std.proofs.lemmas.Result.{err_from_is_err_and}
use Rattle.cc_fresh.specs.Made.{deps_path, names_in, digested, ReadNames, ReadMade}
use Rattle.cc_fresh.specs.Reads.{Adds, AddsFirst}
use Rattle.cc_fresh.specs.declared.file.ReadError.TheVariants.{NoMemory}
use Rattle.cc_fresh.proofs.MadeLaws.{AreReadNames, AreReadMade, made_wanting, made_then, made_refused, made_unread, made_unbegun, if_ok, if_err}
use Rattle.cc_fresh.proofs.made.read_made.Goals as goal

pub returns-in_err-path-clause-refused : goal.returns-in_err-path-clause-refused
returns-in_err-path-clause-refused g c =
    let old = g.F.Files.reads c.args.files.now in
    let faults = g.F.Files.faults c.args.files.now in
    let p = err_from_is_err_and c.from_residual.result c.from_residual.ensures.1 in
    rw (p.1, p.2) (made_unbegun c.args.checks_object old old c.args.object.now NoMemory faults faults refl (sym (append-nil old)))

pub returns-in_err-held-clause-refused : goal.returns-in_err-held-clause-refused
returns-in_err-held-clause-refused g c =
    let old = g.F.Files.reads c.args.files.now in
    let mid = g.F.Files.reads c.read_file.new.files in
    let p = err_from_is_err_and c.from_residual-in_err-held.result c.from_residual-in_err-held.ensures.1 in
    rw (p.1, p.2)
    (made_unread c.args.checks_object old mid c.args.object.now c.as_str.result.now c.in_err-held.field-0.0 (g.F.Files.faults c.args.files.now) (g.F.Files.faults c.read_file.new.files) (c.as_str.ensures ∙ c.in_ok-path.ensures) c.in_err-held.ensures.refused)

pub returns-in_err-names-clause-refused : goal.returns-in_err-names-clause-refused
returns-in_err-names-clause-refused g c =
    let old = g.F.Files.reads c.args.files.now in
    let mid = g.F.Files.reads c.read_file.new.files in
    let one : mid ≡ old ++ (deps_path c.args.object.now, c.in_ok-held.held) ∷ [] = c.in_ok-held.ensures.read ∙ ap (λ (path : List ℕ). old ++ (path, c.in_ok-held.held) ∷ []) (c.as_str.ensures ∙ c.in_ok-path.ensures) in
    let p = err_from_is_err_and c.from_residual-in_err-names.result c.from_residual-in_err-names.ensures.1 in
    rw (p.1, p.2)
    (made_wanting c.args.checks_object old mid c.args.object.now c.in_ok-held.held one NoMemory (g.F.Files.faults c.args.files.now) (g.F.Files.faults c.read_file.new.files) refl)

pub returns-in_err-names-in-Some-clause-refused : goal.returns-in_err-names-in-Some-clause-refused
returns-in_err-names-in-Some-clause-refused g c =
    let old = g.F.Files.reads c.args.files.now in
    let mid = g.F.Files.reads c.read_file.new.files in
    let one : mid ≡ old ++ (deps_path c.args.object.now, c.in_ok-held.held) ∷ [] = c.in_ok-held.ensures.read ∙ ap (λ (path : List ℕ). old ++ (path, c.in_ok-held.held) ∷ []) (c.as_str.ensures ∙ c.in_ok-path.ensures) in
    let p = err_from_is_err_and c.from_residual-in_err-names-in-Some.result c.from_residual-in_err-names-in-Some.ensures.1 in
    rw (p.1, p.2)
    (made_wanting c.args.checks_object old mid c.args.object.now c.in_ok-held.held one NoMemory (g.F.Files.faults c.args.files.now) (g.F.Files.faults c.read_file.new.files) refl)

pub returns-in-Some-clause-read : goal.returns-in-Some-clause-read
returns-in-Some-clause-read g c =
    let old = g.F.Files.reads c.args.files.now in
    let mid = g.F.Files.reads c.read_file.new.files in
    let new = g.F.Files.reads c.read_names.new.files in
    let checks = c.args.checks_object in
    let object = c.args.object.now in
    let one : mid ≡ old ++ (deps_path object, c.in_ok-held.held) ∷ [] = c.in_ok-held.ensures.read ∙ ap (λ (path : List ℕ). old ++ (path, c.in_ok-held.held) ∷ []) (c.as_str.ensures ∙ c.in_ok-path.ensures) in
    let named : names_in c.in_ok-held.held ≡ Some c.in-Some.names = sym c.in_ok-names.ensures ∙ c.in-Some.is in
    let are : c.as_slice.result.now ≡ digested checks object c.in-Some.names = c.as_slice.ensures ∙ c.in_ok-names-in-Some.ensures in
    if_ok (λ deps. Adds mid new (λ told. ReadNames c.as_slice.result.now told deps)) (λ deps. Adds old new (λ told. ReadMade checks object told deps)) c.read_names.result
    (λ deps more. made_then checks old mid object c.in_ok-held.held one c.in-Some.names c.as_slice.result.now named are new deps more) c.read_names.ensures.read

pub returns-in-Some-clause-refused : goal.returns-in-Some-clause-refused
returns-in-Some-clause-refused g c =
    let old = g.F.Files.reads c.args.files.now in
    let mid = g.F.Files.reads c.read_file.new.files in
    let new = g.F.Files.reads c.read_names.new.files in
    let x = g.F.Files.faults c.args.files.now in
    let y = g.F.Files.faults c.read_file.new.files in
    let z = g.F.Files.faults c.read_names.new.files in
    let checks = c.args.checks_object in
    let object = c.args.object.now in
    let one : mid ≡ old ++ (deps_path object, c.in_ok-held.held) ∷ [] = c.in_ok-held.ensures.read ∙ ap (λ (path : List ℕ). old ++ (path, c.in_ok-held.held) ∷ []) (c.as_str.ensures ∙ c.in_ok-path.ensures) in
    let named : names_in c.in_ok-held.held ≡ Some c.in-Some.names = sym c.in_ok-names.ensures ∙ c.in-Some.is in
    let are : c.as_slice.result.now ≡ digested checks object c.in-Some.names = c.as_slice.ensures ∙ c.in_ok-names-in-Some.ensures in
    if_err (λ e. AddsFirst mid new (AreReadNames c.as_slice.result.now) e y z) (λ e. AddsFirst old new (AreReadMade checks object) e x z) c.read_names.result
    (λ e more. made_refused checks old mid object c.in_ok-held.held one c.in-Some.names c.as_slice.result.now named are new e x y z c.read_file.ensures.later more) c.read_names.ensures.refused
