use Rattle.std.proofs.Common.{refl}
use Rattle.clap.specs.Words.{app_of}
use Rattle.kb_task.proofs.RunLemmas.{if_ok}
use Rattle.kb_commands.proofs.ArgumentLemmas.{added}
use Rattle.kb_commands.specs.Words.{wordreduce_app}
use Rattle.kb_commands.proofs.words.add_commands.Goals as goal

pub returns : goal.returns
returns c =
    if_ok c.subcommand.result c.subcommand.ensures
    (λ program adds. added c.args.program c.in_ok-definition.field-0 program (app_of c.args.program) wordreduce_app adds
    c.in_ok-definition.ensures.local c.in_ok-definition.ensures.app refl)
