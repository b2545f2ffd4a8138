use Rattle.kb_cli.proofs.HeadlineLemmas.{run_of_command}
use Rattle.kb_cli.proofs.program.run.Goals as goal

pub returns-in-Ok : goal.returns-in-Ok
returns-in-Ok g c = run_of_command _ c.in-Ok.command _ _ _ c.in-Ok.ensures.ok c.run-status.ensures
