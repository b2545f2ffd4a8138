use Rattle.std.proofs.Common.{◌≡◌, length, sym, subst, arith}
use Rattle.std.proofs.lemmas.Result.{err_from_is_err_and}
use Rattle.kb_fsa.specs.Table.{Table}
use Rattle.kb_fsafile.proofs.NoFault.{states_passed, initial_passed, accepting_passed}
use Rattle.kb_fields.specs.Fields.{fields_view}
use Rattle.kb_fsafile.specs.RowsRead.{HasTable}
use Rattle.kb_fsafile.proofs.NumberLemmas.{among_within}
use Rattle.kb_fsafile.proofs.TextLemmas.{initial_within, table_of_rows, table_held}
use Rattle.kb_fsafile.proofs.reader.read_table.Goals as goal

pub overflow_cast-initial : goal.overflow_cast-initial
overflow_cast-initial c =
    let small = initial_within (fields_view c.args.fields.now) c.in_ok-count.count c.in_ok-initial.initial c.in_ok-initial.ensures.read in
    omega (arith, small, c.in_ok-rows.ensures.read.few)

pub new-requires : goal.new-requires
new-requires c =
    table_of_rows (fields_view c.args.fields.now) c.args.size c.in_ok-count.count c.in_ok-initial.initial c.in_ok-rows.rows c.in_ok-answers.answers.items
    c.in_ok-rows.ensures.read (initial_within (fields_view c.args.fields.now) c.in_ok-count.count c.in_ok-initial.initial c.in_ok-initial.ensures.read)
    (omega (arith, c.in_ok-answers.ensures.one_each, c.len.ensures))

pub answers-requires : goal.answers-requires
answers-requires c = λ state among.
    let has = c.in_ok-accepting.ensures.read in
    let bounds = among_within c.in_ok-count.count has.value c.in_ok-accepting.accepting has.stands state among in
    (bounds.0, omega (arith, bounds.1, c.in_ok-rows.ensures.read.one_each, c.len.ensures))

pub returns-in_err-initial-clause-fault : goal.returns-in_err-initial-clause-fault
returns-in_err-initial-clause-fault c =
    let p = err_from_is_err_and c.from_residual-in_err-initial.result c.from_residual-in_err-initial.ensures.1 in
    rw (p.1, p.2) (λ free. let given = fields_view c.args.fields.now in c.in_err-initial.ensures.fault (states_passed given c.in_ok-count.count c.in_ok-count.ensures.read free))

pub returns-in_err-accepting-clause-fault : goal.returns-in_err-accepting-clause-fault
returns-in_err-accepting-clause-fault c =
    let p = err_from_is_err_and c.from_residual-in_err-accepting.result c.from_residual-in_err-accepting.ensures.1 in
    rw (p.1, p.2) (λ free.
    let given = fields_view c.args.fields.now in
    c.in_err-accepting.ensures.fault (initial_passed given c.in_ok-count.count c.in_ok-count.ensures.read c.in_ok-initial.initial c.in_ok-initial.ensures.read (states_passed given c.in_ok-count.count c.in_ok-count.ensures.read free)))

pub returns-in_err-rows-clause-fault : goal.returns-in_err-rows-clause-fault
returns-in_err-rows-clause-fault c =
    let p = err_from_is_err_and c.from_residual-in_err-rows.result c.from_residual-in_err-rows.ensures.1 in
    rw (p.1, p.2) (λ free.
    let given = fields_view c.args.fields.now in
    let has = c.in_ok-accepting.ensures.read in
    c.in_err-rows.ensures.fault
    (accepting_passed given c.in_ok-count.count c.in_ok-count.ensures.read has.value has.holds has.stands.kind has.stands.within
    (initial_passed given c.in_ok-count.count c.in_ok-count.ensures.read c.in_ok-initial.initial c.in_ok-initial.ensures.read (states_passed given c.in_ok-count.count c.in_ok-count.ensures.read free))))

pub returns-clause-read : goal.returns-clause-read
returns-clause-read c =
    let P : Table → Type 0 = λ table. HasTable (fields_view c.args.fields.now) c.args.size table in
    let all : length c.in_ok-answers.answers.items ≡ length c.in_ok-rows.rows =
    omega (arith, c.in_ok-answers.ensures.one_each, c.len.ensures) in
    subst P (sym c.new.ensures)
    (table_held (fields_view c.args.fields.now) c.args.size c.in_ok-count.count c.in_ok-initial.initial c.in_ok-rows.rows c.in_ok-accepting.accepting
    c.in_ok-answers.answers.items c.in_ok-count.ensures.read c.in_ok-initial.ensures.read c.in_ok-accepting.ensures.read c.in_ok-rows.ensures.read all c.in_ok-answers.ensures.each)
