use Rattle.std.proofs.Common.{◌≡◌, drop}
use Rattle.clap.specs.Words.{app_of}
use Rattle.kb_commands.specs.Structures.{all_names, with_structures, with_commands}
use Rattle.kb_commands.proofs.structures.add_commands.Given as goal

-- the commands that are still to be added make the program whole
abbrev pub invariant-loop-name : goal.invariant-loop-name
invariant-loop-name l = with_commands (app_of l.program) (drop l.name-index all_names) ≡ with_structures (app_of l.fn.program)
