use Rattle.std.proofs.Common.{refl, map, subst, string_bytes}
use Rattle.clap.specs.Words.{app_of, subcommand_rows_of}
use Rattle.clap.specs.declared.error.kind.ErrorKind.TheVariants.{ValueValidation}
use Rattle.kb_commands.specs.Arguments.{ReadsAs}
use Rattle.kb_cli.specs.CommandLine.{IsCommand, no_number}
use Rattle.kb_cli.specs.declared.command.Command.{Command}
use Rattle.kb_cli.proofs.LineLemmas.{refused, explained, faultless_line, entered_line}
use Rattle.kb_cli.proofs.arguments.read_arguments.Goals as goal

pub returns-in-Err-clause-err : goal.returns-in-Err-clause-err
returns-in-Err-clause-err c =
    let usage = c.in_ok-usage_error-in-Err.ensures.kind in
    refused (app_of c.in_ok-program_line.field-0) (map string_bytes c.args.arguments.now) c.in-Err.error c.in_ok-usage_error-in-Err.field-0 c.in_ok-program_line.ensures c.in-Err.ensures.kinds usage.0 usage.1

pub returns-in-Some-clause-ok : goal.returns-in-Some-clause-ok
returns-in-Some-clause-ok c =
    let words = map string_bytes c.args.arguments.now in
    let is = c.in_ok-program_line.ensures in
    record {
      faultless = faultless_line (app_of c.in_ok-program_line.field-0) words is c.in-Ok.ensures.kinds;
      is = subst (λ entered. IsCommand entered c.in-Some.command) (entered_line (app_of c.in_ok-program_line.field-0) words c.in-Ok.matches is c.in-Ok.ensures.matches)
          (subst (ReadsAs IsCommand (subcommand_rows_of c.in-Ok.matches)) c.in-Some.is c.in_ok-command.ensures);
    }

pub returns-clause-err : goal.returns-clause-err
returns-clause-err c =
    let words = map string_bytes c.args.arguments.now in
    let is = c.in_ok-program_line.ensures in
    let app = app_of c.in_ok-program_line.field-0 in
    let unsaid = subst (λ entered. (command : Command) → ¬ IsCommand entered command) (entered_line app words c.in-Ok.matches is c.in-Ok.ensures.matches)
    (subst (ReadsAs IsCommand (subcommand_rows_of c.in-Ok.matches)) c.in-None.is c.in_ok-command.ensures) in
    explained words ValueValidation c.in_ok-number_error-in-None.field-0 c.in_ok-number_error-in-None.ensures.kind
    (no_number (faultless_line app words is c.in-Ok.ensures.kinds) unsaid refl)
