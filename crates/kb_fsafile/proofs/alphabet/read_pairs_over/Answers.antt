use Rattle.std.proofs.Common.{ap}
use Rattle.std.specs.Prelude.{codes}
use Rattle.std.proofs.lemmas.Result.{err_from_is_err_and}
use Rattle.kb_fields.specs.Fields.{fields_view}
use Rattle.kb_fsa.specs.declared.alphabet.Alphabet.TheVariants.{Pair}
use Rattle.kb_record.specs.Tree.{Fields}
use Rattle.kb_fsafile.specs.Holds.{HoldsRecord, HoldsString, pairs}
use Rattle.kb_fsafile.specs.Standing.{of_pairs, IsAlphabetOf, HasNamesOf}
use Rattle.kb_fsafile.specs.Reading.{IsFreeBefore}
use Rattle.kb_fsafile.proofs.FieldFaults.{base_of}
use Rattle.kb_fsafile.proofs.NoFault.{base_type_passed, names_passed, names_size_passed, pairs_size_passed}
use Rattle.kb_fsafile.proofs.alphabet.read_pairs_over.Goals as goal

-- the base has the names of letters, and its type is read before them
module _ (given letters base : Fields) (is : IsAlphabetOf given letters (codes "product")) (holds : HoldsRecord letters (codes "base") base) (typed : HoldsString base (codes "type") (codes "identifiers")) where
  has_names : HasNamesOf given base
  has_names = of_pairs (base_of given letters base is holds) typed

  until_names : IsFreeBefore given 6 → IsFreeBefore given 7
  until_names free = base_type_passed given base (base_of given letters base is holds) typed free

pub returns-in_err-check_base-clause-fault : goal.returns-in_err-check_base-clause-fault
returns-in_err-check_base-clause-fault c =
    let p = err_from_is_err_and c.from_residual.result c.from_residual.ensures.1 in
    rw (p.1, p.2) (λ given is free.
    c.in_err-check_base.ensures.fault given (base_of given (fields_view c.args.letters.now) (fields_view c.args.base.now) is c.requires.based) free)

pub returns-in_err-names-clause-fault : goal.returns-in_err-names-clause-fault
returns-in_err-names-clause-fault c =
    let p = err_from_is_err_and c.from_residual-in_err-names.result c.from_residual-in_err-names.ensures.1 in
    rw (p.1, p.2) (λ given is free.
    let letters = fields_view c.args.letters.now in
    let base = fields_view c.args.base.now in
    let typed = c.in_ok-check_base.ensures.ok in
    c.in_err-names.ensures.fault given (has_names given letters base is c.requires.based typed) (until_names given letters base is c.requires.based typed free))

pub returns-in_err-check_size-clause-fault : goal.returns-in_err-check_size-clause-fault
returns-in_err-check_size-clause-fault c =
    let p = err_from_is_err_and c.from_residual-in_err-check_size.result c.from_residual-in_err-check_size.ensures.1 in
    rw (p.1, p.2) (λ given is free.
    let letters = fields_view c.args.letters.now in
    let base = fields_view c.args.base.now in
    let typed = c.in_ok-check_base.ensures.ok in
    let has = has_names given letters base is c.requires.based typed in
    c.in_err-check_size.ensures.fault given has
    (names_passed given base c.in_ok-names.names has c.in_ok-names.ensures.listed c.in_ok-names.ensures.free (until_names given letters base is c.requires.based typed free)))

pub returns-in_err-size-clause-fault : goal.returns-in_err-size-clause-fault
returns-in_err-size-clause-fault c =
    let p = err_from_is_err_and c.from_residual-in_err-size.result c.from_residual-in_err-size.ensures.1 in
    rw (p.1, p.2) (λ given is free.
    let letters = fields_view c.args.letters.now in
    let base = fields_view c.args.base.now in
    let typed = c.in_ok-check_base.ensures.ok in
    let has = has_names given letters base is c.requires.based typed in
    c.in_err-size.ensures.fault given is (record { letters = fields_view c.args.base.now; has_names = has; listed = c.in_ok-names.ensures.listed })
    (names_size_passed given base c.in_ok-names.names has c.in_ok-names.ensures.listed c.in_ok-check_size.ensures.ok
    (names_passed given base c.in_ok-names.names has c.in_ok-names.ensures.listed c.in_ok-names.ensures.free (until_names given letters base is c.requires.based typed free))))

pub returns-in_err-check_format-clause-fault : goal.returns-in_err-check_format-clause-fault
returns-in_err-check_format-clause-fault c =
    let p = err_from_is_err_and c.from_residual-in_err-check_format.result c.from_residual-in_err-check_format.ensures.1 in
    rw (p.1, p.2) (λ given is free.
    let letters = fields_view c.args.letters.now in
    let base = fields_view c.args.base.now in
    let typed = c.in_ok-check_base.ensures.ok in
    let has = has_names given letters base is c.requires.based typed in
    let before = names_size_passed given base c.in_ok-names.names has c.in_ok-names.ensures.listed c.in_ok-check_size.ensures.ok
    (names_passed given base c.in_ok-names.names has c.in_ok-names.ensures.listed c.in_ok-names.ensures.free (until_names given letters base is c.requires.based typed free)) in
    c.in_err-check_format.ensures.fault given has
    (pairs_size_passed given letters c.in_ok-names.names c.in_ok-size.size is
    (record { letters = fields_view c.args.base.now; has_names = has; listed = c.in_ok-names.ensures.listed })
    c.in_ok-size.ensures.sized c.in_ok-size.ensures.right before))

pub returns-clause-read : goal.returns-clause-read
returns-clause-read c =
    pairs (ap Pair c.len-count.ensures.count)
    (record {
      type = c.requires.typed;
      arity = c.requires.arity;
      base = fields_view c.args.base.now;
      is_base = c.requires.based;
      named = record {
        type = c.in_ok-check_base.ensures.ok;
        listed = c.in_ok-names.ensures.listed;
        free = c.in_ok-names.ensures.free;
        counted = c.in_ok-check_size.ensures.ok;
        format = c.in_ok-check_format.ensures.ok;
      };
      sized = c.in_ok-size.ensures.sized;
      right_size = c.in_ok-size.ensures.right;
    })
