-- The planned compile commands: the tool, then the words of the object and the source.
use Rattle.std.specs.Prelude.{ℕ, List, ◌++◌, Option, unwrap_or, map, if◌then◌else◌}
use Rattle.cc_host.specs.Command.{CommandSeen}
use Rattle.cc_target.specs.Targets.{Info}
use Rattle.cc_text.specs.declared.family.ToolFamily.{ToolFamily}
use Rattle.cc_tool.specs.Tool.{ToolSeen, tool_command}
use Rattle.cc_flags.specs.CompileWords.{compile_words, expand_words, is_masm}
use Rattle.cc_flags.specs.declared.object.Object.{Object}
use Rattle.cc_flags.specs.declared.settings.BuildConfig.{BuildConfig}

-- the tool of a source: the assembler, where one is given, for a source in a language of the Visual Studio assemblers
abbrev pub tool_for : Info → ToolSeen → Option ToolSeen → Object → ToolSeen
tool_for info tool assembler object = if is_masm info object.src then unwrap_or assembler tool else tool

-- a command with the words of an object and its source behind its own, in the form of a family
abbrev pub with_object : BuildConfig → Info → ToolFamily → Object → CommandSeen → CommandSeen
with_object set info family object cmd =
    record cmd { args = cmd.args ++ compile_words set family info object }

abbrev pub compile_of : BuildConfig → Info → ToolSeen → Option ToolSeen → Object → CommandSeen
compile_of set info tool assembler object =
    with_object set info tool.family object (tool_command (tool_for info tool assembler object))

-- the command of an object that begins with one of two: for a source in such a language with the second
abbrev pub begun_with : BuildConfig → Info → ToolFamily → CommandSeen → CommandSeen → Object → CommandSeen
begun_with set info family start assembling object =
    with_object set info family object (if is_masm info object.src then assembling else start)

-- one command an object, in order
abbrev pub compiles_of : BuildConfig → Info → ToolSeen → Option ToolSeen → List Object → List CommandSeen
compiles_of set info tool assembler objects = map (compile_of set info tool assembler) objects

-- the command that expands a source
abbrev pub expand_of : BuildConfig → ToolSeen → List ℕ → CommandSeen
expand_of set tool source =
    record (tool_command tool) { args = (tool_command tool).args ++ expand_words tool.family set.cpp source }
