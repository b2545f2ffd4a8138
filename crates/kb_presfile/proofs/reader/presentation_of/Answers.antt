use Rattle.std.proofs.Common.{sym, ◌∙◌}
use Rattle.std.proofs.lemmas.Result.{err_from_is_err_and}
use Rattle.kb_fields.specs.Fields.{fields_view}
use Rattle.kb_presfile.proofs.FreeLemmas.{after_once, after_is_rws, after_ordering, after_names, after_order, after_inverses}
use Rattle.kb_presfile.proofs.OverLemmas.{equations_over}
use Rattle.kb_presfile.proofs.reader.presentation_of.Goals as goal

pub new-requires-2 : goal.new-requires-2
new-requires-2 c =
    let given = c.new-generators.result.is_presentation in
    let are = c.in_ok-equations.ensures.read.read in
    equations_over c.new-generators.result.names c.new-generators.result.inv given.mutual_inverses (given.one_inverse_each ∙ sym given.one_name_each)
    c.new-generators.result.n c.new-generators.result.order c.in_ok-equations.ensures.read.places c.in_ok-equations.equations
    (sym given.one_name_each) given.one_weight_each are

pub returns-in_err-check_is_rws-clause-fault : goal.returns-in_err-check_is_rws-clause-fault
returns-in_err-check_is_rws-clause-fault c =
    let given = fields_view c.args.fields.now in
    let once = after_once given c.in_ok-check_once.ensures.once in
    let p = err_from_is_err_and c.from_residual-in_err-check_is_rws.result c.from_residual-in_err-check_is_rws.ensures.1 in
    rw (p.1, p.2) (c.in_err-check_is_rws.ensures.fault once)

pub returns-in_err-ordering-clause-fault : goal.returns-in_err-ordering-clause-fault
returns-in_err-ordering-clause-fault c =
    let given = fields_view c.args.fields.now in
    let once = after_once given c.in_ok-check_once.ensures.once in
    let is_rws = after_is_rws given c.in_ok-check_is_rws.ensures.ok once in
    let p = err_from_is_err_and c.from_residual-in_err-ordering.result c.from_residual-in_err-ordering.ensures.1 in
    rw (p.1, p.2) (c.in_err-ordering.ensures.fault is_rws)

pub returns-in_err-names-clause-fault : goal.returns-in_err-names-clause-fault
returns-in_err-names-clause-fault c =
    let given = fields_view c.args.fields.now in
    let once = after_once given c.in_ok-check_once.ensures.once in
    let is_rws = after_is_rws given c.in_ok-check_is_rws.ensures.ok once in
    let ordering = after_ordering given c.in_ok-ordering.ordering c.in_ok-ordering.ensures.read is_rws in
    let p = err_from_is_err_and c.from_residual-in_err-names.result c.from_residual-in_err-names.ensures.1 in
    rw (p.1, p.2) (c.in_err-names.ensures.fault ordering)

pub returns-in_err-order-clause-fault : goal.returns-in_err-order-clause-fault
returns-in_err-order-clause-fault c =
    let given = fields_view c.args.fields.now in
    let once = after_once given c.in_ok-check_once.ensures.once in
    let is_rws = after_is_rws given c.in_ok-check_is_rws.ensures.ok once in
    let ordering = after_ordering given c.in_ok-ordering.ordering c.in_ok-ordering.ensures.read is_rws in
    let names = after_names given c.in_ok-names.names c.in_ok-names.ensures.named c.in_ok-names.ensures.names ordering in
    let p = err_from_is_err_and c.from_residual-in_err-order.result c.from_residual-in_err-order.ensures.1 in
    rw (p.1, p.2) (c.in_err-order.ensures.fault names)

pub returns-in_err-inverses-clause-fault : goal.returns-in_err-inverses-clause-fault
returns-in_err-inverses-clause-fault c =
    let given = fields_view c.args.fields.now in
    let once = after_once given c.in_ok-check_once.ensures.once in
    let is_rws = after_is_rws given c.in_ok-check_is_rws.ensures.ok once in
    let ordering = after_ordering given c.in_ok-ordering.ordering c.in_ok-ordering.ensures.read is_rws in
    let names = after_names given c.in_ok-names.names c.in_ok-names.ensures.named c.in_ok-names.ensures.names ordering in
    let order = after_order given c.in_ok-names.names c.in_ok-names.ensures.named c.in_ok-order.order c.in_ok-order.ensures.read names in
    let p = err_from_is_err_and c.from_residual-in_err-inverses.result c.from_residual-in_err-inverses.ensures.1 in
    rw (p.1, p.2) (c.in_err-inverses.ensures.fault order)

pub returns-in_err-equations-clause-fault : goal.returns-in_err-equations-clause-fault
returns-in_err-equations-clause-fault c =
    let given = fields_view c.args.fields.now in
    let once = after_once given c.in_ok-check_once.ensures.once in
    let is_rws = after_is_rws given c.in_ok-check_is_rws.ensures.ok once in
    let ordering = after_ordering given c.in_ok-ordering.ordering c.in_ok-ordering.ensures.read is_rws in
    let names = after_names given c.in_ok-names.names c.in_ok-names.ensures.named c.in_ok-names.ensures.names ordering in
    let order = after_order given c.in_ok-names.names c.in_ok-names.ensures.named c.in_ok-order.order c.in_ok-order.ensures.read names in
    let inverses = after_inverses given c.in_ok-names.names c.in_ok-names.ensures.named c.in_ok-inverses.inverses c.in_ok-inverses.ensures.read order in
    let p = err_from_is_err_and c.from_residual-in_err-equations.result c.from_residual-in_err-equations.ensures.1 in
    rw (p.1, p.2) (c.in_err-equations.ensures.fault inverses)
