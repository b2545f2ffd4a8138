use Rattle.std.proofs.Common.{ℕ, Err, refl, sym, ap, subst}
use Rattle.kb_fsa.specs.Language.{Automaton, SameLanguage}
use Rattle.kb_fsa.specs.Canonical.{IsCanonical}
use Rattle.kb_explore.specs.Machine.{HasMoreStates}
use Rattle.kb_fsamin.specs.Quotient.{quotient_of}
use Rattle.kb_fsamin.proofs.Represented.{no_more_classes}
use Rattle.kb_fsamin.proofs.Reduced.{reduction_from, represented_from, is_automaton, is_canonical, language_kept, nothing_accepted, rows_none, rows_some}
use Rattle.kb_fsamin.proofs.Unlabelled.{AreZeros, alike_from_equivalent, zeros_listed}
use Rattle.kb_fsamin.proofs.EmptyCanonical.{answer_canonical, answer_language}
use Rattle.kb_fsamin.proofs.canonical_form.canonical.Goals as goal

pub returns-then-is_empty-clause-canonical : goal.returns-then-is_empty-clause-canonical
returns-then-is_empty-clause-canonical c = answer_canonical c.empty.result c.alphabet.result c.empty.ensures

pub returns-then-is_empty-clause-language : goal.returns-then-is_empty-clause-language
returns-then-is_empty-clause-language c =
    let r = reduction_from c.table-2.ensures.automaton.table c.table-2.ensures.table refl c.as_slice.ensures.value c.in_ok-listed.ensures
    c.in-Ok.ensures.explored in
    let none = rows_none c.is_empty.result c.in-Ok.exploration.table.rows c.is_empty.ensures c.if-is_empty.true in
    answer_language c.args.fsa.now c.empty.result c.alphabet.result (nothing_accepted r none) c.empty.ensures

pub new-requires : goal.new-requires
new-requires c =
    let r = reduction_from c.table-2.ensures.automaton.table c.table-2.ensures.table refl c.as_slice.ensures.value c.in_ok-listed.ensures
    c.in-Ok.ensures.explored in
    is_automaton r c.args.fsa.now.alphabet c.alphabet-else-is_empty.result c.alphabet-else-is_empty.ensures.alphabet
    c.table-2.ensures.automaton c.in-Ok.ensures.symbols

pub returns-in-Ok-clause-canonical : goal.returns-in-Ok-clause-canonical
returns-in-Ok-clause-canonical c =
    let r = reduction_from c.table-2.ensures.automaton.table c.table-2.ensures.table refl c.as_slice.ensures.value c.in_ok-listed.ensures
    c.in-Ok.ensures.explored in
    let some = rows_some c.is_empty.result c.in-Ok.exploration.table.rows c.is_empty.ensures c.if-is_empty.false in
    let P : Automaton → Type 0 = λ a. IsCanonical a.table in
    let zeros : AreZeros c.one-labels.result = subst AreZeros (sym c.one-labels.ensures) (zeros_listed _) in
    subst P (sym c.new.ensures) (is_canonical r (alike_from_equivalent c.args.fsa.now.table c.one-labels.result zeros) some)

pub returns-in-Ok-clause-language : goal.returns-in-Ok-clause-language
returns-in-Ok-clause-language c =
    let r = reduction_from c.table-2.ensures.automaton.table c.table-2.ensures.table refl c.as_slice.ensures.value c.in_ok-listed.ensures
    c.in-Ok.ensures.explored in
    let P : Automaton → Type 0 = λ a. SameLanguage c.args.fsa.now a in
    subst P (sym c.new.ensures) (language_kept r)

pub unreachable-requires : goal.unreachable-requires
unreachable-requires c =
    let given = c.args.fsa.now.table in
    let listed = c.as_slice.result.now in
    let more = c.in-Err-TooManyStates.ensures.many c.in-Err-TooManyStates.field-0-0 (ap Err c.in-Err-TooManyStates.field-0-is) in
    let P : ℕ → Type 0 = λ m. HasMoreStates (quotient_of given listed) m in
    no_more_classes given c.one-labels.result listed c.table-2.ensures.automaton.table
    (represented_from c.table-2.ensures.table refl c.as_slice.ensures.value c.in_ok-listed.ensures) (subst P c.len-2.ensures more.1)
