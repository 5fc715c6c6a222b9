use Rattle.std.proofs.Common.{sym}
use Rattle.cc_flags.specs.SettingWords.{is_link_flag}
use Rattle.cc_flags.proofs.BeforeLemmas.{before_place, before_none}
use Rattle.cc_flags.proofs.words.settings.flags_before_link.Goals as goal

pub returns-in-Some : goal.returns-in-Some
returns-in-Some c = sym (before_place is_link_flag c.args.flags.now c.in-Some.place c.in-Some.ensures.place)

pub returns-in-None : goal.returns-in-None
returns-in-None c = sym (before_none is_link_flag c.args.flags.now c.in-None.ensures.place)
