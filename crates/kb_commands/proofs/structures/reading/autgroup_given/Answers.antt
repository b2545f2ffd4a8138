use Rattle.std.proofs.Common.{rules, ◌≡◌, None}
use Rattle.clap.specs.Words.{found_of, rows_of}
use Rattle.kb_commands.specs.declared.structures.name.Name.TheVariants as names
use Rattle.kb_commands.proofs.StructuresLemmas.{no_workers, no_bounds, no_batch}
use Rattle.kb_commands.proofs.structures.reading.autgroup_given.Goals as goal

pub returns-in_default-option_given : goal.returns-in_default-option_given
returns-in_default-option_given c =
    let none : c.option_given.result ≡ None = search rules in
    no_workers (rows_of (found_of c.args.matches.now)) (c.option_given.ensures.none none) names.Autgroup

pub returns-in_default-all_limits_given : goal.returns-in_default-all_limits_given
returns-in_default-all_limits_given c =
    let none : c.all_limits_given.result ≡ None = search rules in
    no_bounds (rows_of (found_of c.args.matches.now)) (c.all_limits_given.ensures.none none)

pub returns-in_default-option_given-2 : goal.returns-in_default-option_given-2
returns-in_default-option_given-2 c =
    let none : c.option_given-2.result ≡ None = search rules in
    no_batch (rows_of (found_of c.args.matches.now)) (c.option_given-2.ensures.none none)
