use Rattle.std.proofs.Common.{◌≡◌, ◌⊎◌, inl, inr, ℕ, List, Option, Some, None, is_none, if◌then◌else◌, codes, sym, ap, ◌∙◌}
use Rattle.std.specs.Option.{option_and_then}
use Rattle.cc_env.specs.Snapshot.{last_value}
use Rattle.cc_flags.specs.Fields.{flags_of, refusal_of}
use Rattle.cc_flags.specs.Pairs.{pairs_of}
use Rattle.cc_flags.specs.declared.error.FlagError.{FlagError}
use Rattle.cc_flags.specs.declared.error.FlagError.TheVariants.{InvalidFlag, NoMemory as WantsMemory}
use Rattle.cc_flags.specs.declared.flags.RustcCodegenFlags.{RustcCodegenFlags}
use Rattle.cc_flags.specs.Inherited.{inherited_flags, sound_flags, rustflags}
use Rattle.cc_flags.specs.declared.inherited.Rustflags.{Rustflags}
use Rattle.cc_flags.proofs.inherited.read_rustflags.Goals as goal

abbrev read : Option RustcCodegenFlags → Option FlagError → Rustflags
read flags wrong = record { flags = flags; wrong = wrong }

-- what a text says, by what is wrong with it
of_text : (env : List (List ℕ × List ℕ)) (text : List ℕ) (wrong : Option FlagError) → Some text ≡ last_value env (codes "CARGO_ENCODED_RUSTFLAGS") → refusal_of text ≡ wrong → read (if is_none wrong then Some (flags_of (pairs_of text)) else None) wrong ≡ rustflags env
unfolding inherited_flags
of_text env text wrong is w =
    ap (λ (r : Option FlagError). read (if is_none r then Some (flags_of (pairs_of text)) else None) r) (sym w)
    ∙ ap (λ (t : Option (List ℕ)). read (option_and_then sound_flags t) (option_and_then refusal_of t)) is

pub returns-in-Ok : goal.returns-in-Ok
returns-in-Ok c = ap (λ (f : RustcCodegenFlags). read (Some f) None) c.in-Ok.ensures.flags ∙ of_text c.args.env.now c.in-Some.text.now None c.in-Some.ensures c.in-Ok.ensures.valid

-- a flag is wrong, where memory isn't wanted
named : (text flag : List ℕ) (e : FlagError) → e ≡ InvalidFlag flag → (e ≡ WantsMemory) ⊎ (refusal_of text ≡ Some e) → refusal_of text ≡ Some (InvalidFlag flag)
named text flag e is (inl wants) = absurd (cc)
named text flag e is (inr refused) = refused ∙ ap Some is

pub returns-in-Err-InvalidFlag : goal.returns-in-Err-InvalidFlag
returns-in-Err-InvalidFlag c =
    of_text c.args.env.now c.in-Some.text.now (Some (InvalidFlag c.in-Err-InvalidFlag.flag)) c.in-Some.ensures
    (named c.in-Some.text.now c.in-Err-InvalidFlag.flag c.in-Err-InvalidFlag.field-0 c.in-Err-InvalidFlag.field-0-is c.in-Err-InvalidFlag.ensures.refused)
