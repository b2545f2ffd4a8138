use Rattle.std.proofs.Common.{ap}
use Rattle.std.proofs.lemmas.Result.{err_from_is_err_and}
use Rattle.kb_fsa.specs.declared.alphabet.Alphabet.TheVariants.{Plain}
use Rattle.kb_fields.specs.Fields.{fields_view}
use Rattle.kb_fsafile.specs.Standing.{of_words}
use Rattle.kb_fsafile.proofs.NoFault.{no_base_passed, names_passed, names_size_passed, no_pairs_size_passed}
use Rattle.kb_fsafile.specs.Holds.{plain}
use Rattle.kb_fsafile.proofs.alphabet.read_words.Goals as goal

pub returns-in_err-names-clause-fault : goal.returns-in_err-names-clause-fault
returns-in_err-names-clause-fault c =
    let p = err_from_is_err_and c.from_residual.result c.from_residual.ensures.1 in
    rw (p.1, p.2) (λ given is free. c.in_err-names.ensures.fault given (of_words is) (no_base_passed given (fields_view c.args.letters.now) is free))

pub returns-in_err-check_size-clause-fault : goal.returns-in_err-check_size-clause-fault
returns-in_err-check_size-clause-fault c =
    let p = err_from_is_err_and c.from_residual-in_err-check_size.result c.from_residual-in_err-check_size.ensures.1 in
    rw (p.1, p.2) (λ given is free.
    let letters = fields_view c.args.letters.now in
    c.in_err-check_size.ensures.fault given (of_words is)
    (names_passed given letters c.in_ok-names.names (of_words is) c.in_ok-names.ensures.listed c.in_ok-names.ensures.free (no_base_passed given letters is free)))

pub returns-in_err-check_format-clause-fault : goal.returns-in_err-check_format-clause-fault
returns-in_err-check_format-clause-fault c =
    let p = err_from_is_err_and c.from_residual-in_err-check_format.result c.from_residual-in_err-check_format.ensures.1 in
    rw (p.1, p.2) (λ given is free.
    let letters = fields_view c.args.letters.now in
    let before = names_passed given letters c.in_ok-names.names (of_words is) c.in_ok-names.ensures.listed c.in_ok-names.ensures.free (no_base_passed given letters is free) in
    c.in_err-check_format.ensures.fault given (of_words is)
    (no_pairs_size_passed given letters is (names_size_passed given letters c.in_ok-names.names (of_words is) c.in_ok-names.ensures.listed c.in_ok-check_size.ensures.ok before)))

pub returns-clause-read : goal.returns-clause-read
returns-clause-read c = plain (ap Plain c.len-count.ensures.count) c.len-count.ensures.count
    (record {
      type = c.requires;
      listed = c.in_ok-names.ensures.listed;
      free = c.in_ok-names.ensures.free;
      counted = c.in_ok-check_size.ensures.ok;
      format = c.in_ok-check_format.ensures.ok;
    })
