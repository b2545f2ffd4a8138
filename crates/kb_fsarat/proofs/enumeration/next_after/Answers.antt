use Rattle.std.proofs.Common.{◌+◌, ℕ, List, length, Option, Some, None, ap, sym, ◌∙◌, subst}
use Rattle.std.specs.Result.{IfOk}
use Rattle.std.specs.Option.{IfSome, IfNone, option_copied}
use Rattle.kb_fsa.specs.Table.{Table}
use Rattle.kb_fsarat.specs.Successors.{NoneLater, NoneOfLength, IsFirstOfLength}
use Rattle.kb_fsarat.specs.Enumerating.{IsGiven, IsNextOf}
use Rattle.kb_fsarat.proofs.EnumerationLemmas.{from_start, from_longer, next_by_length}
use Rattle.kb_fsarat.proofs.enumeration.next_after.Goals as goal

pub returns-in-None-clause-next : goal.returns-in-None-clause-next
returns-in-None-clause-next c =
    let automaton = c.args.fsa.now in
    let r = c.first_of_length.result in
    let P : Option (List ℕ) → Type 0 = λ given.
    IfOk r (IsNextOf (record { automaton = automaton; min = c.args.min; max = c.args.max; given = given })) in
    let Some' : Table → ℕ → ℕ → Type 0 = λ table low high. IfOk r (λ found. IfSome found (IsFirstOfLength table low high)) in
    let None' : Table → ℕ → ℕ → Type 0 = λ table low high. IfOk r (λ found. IfNone found (NoneOfLength table low (high + 1))) in
    subst P (sym (ap option_copied c.in-None.is))
    (next_by_length automaton c.args.min c.args.max None c.args.min r (from_start automaton c.args.min c.args.max)
    (subst (λ (high : ℕ). Some' automaton.table c.args.min high) c.from-in-None.ensures
    (subst (λ (low : ℕ). Some' automaton.table low c.from-in-None.result) c.from.ensures
    (subst (λ (table : Table). Some' table c.from.result c.from-in-None.result) c.requires.table c.first_of_length.ensures.some)))
    (subst (λ (high : ℕ). None' automaton.table c.args.min high) c.from-in-None.ensures
    (subst (λ (low : ℕ). None' automaton.table low c.from-in-None.result) c.from.ensures
    (subst (λ (table : Table). None' table c.from.result c.from-in-None.result) c.requires.table c.first_of_length.ensures.none))))

pub returns-in-None-2-clause-next : goal.returns-in-None-2-clause-next
returns-in-None-2-clause-next c =
    let automaton = c.args.fsa.now in
    let word = c.in-Some.word.now in
    let r = c.first_of_length-in-None-2.result in
    let own = c.in_ok-next-in-Some.ensures.table ∙ c.requires.table in
    let P : Option (List ℕ) → Type 0 = λ given.
    IfOk r (IsNextOf (record { automaton = automaton; min = c.args.min; max = c.args.max; given = given })) in
    let Some' : Table → ℕ → ℕ → Type 0 = λ table low high. IfOk r (λ found. IfSome found (IsFirstOfLength table low high)) in
    let None' : Table → ℕ → ℕ → Type 0 = λ table low high. IfOk r (λ found. IfNone found (NoneOfLength table low (high + 1))) in
    let Given : Option (List ℕ) → Type 0 = λ given. IfSome given (IsGiven automaton c.args.min c.args.max) in
    let Later : Option (List ℕ) → Type 0 = λ found. IfNone found (NoneLater c.args.layers.now.table c.args.layers.now.table.initial word) in
    let Left : Table → Type 0 = λ table. NoneLater table table.initial word in
    let long = ap (λ n. n + 1) c.len.ensures in
    subst P (sym (ap option_copied c.in-Some.is))
    (next_by_length automaton c.args.min c.args.max (Some word) (length word + 1) r
    (from_longer automaton c.args.min c.args.max word (subst Given (ap option_copied c.in-Some.is) c.requires.given)
    (subst Left c.requires.table (subst Later c.in-None-2.is c.in_ok-next-in-Some.ensures.none)))
    (subst (λ (high : ℕ). Some' automaton.table (length word + 1) high) c.from-in-None-2.ensures
    (subst (λ (low : ℕ). Some' automaton.table low c.from-in-None-2.result) long
    (subst (λ (table : Table). Some' table (c.len.result + 1) c.from-in-None-2.result) own c.first_of_length-in-None-2.ensures.some)))
    (subst (λ (high : ℕ). None' automaton.table (length word + 1) high) c.from-in-None-2.ensures
    (subst (λ (low : ℕ). None' automaton.table low c.from-in-None-2.result) long
    (subst (λ (table : Table). None' table (c.len.result + 1) c.from-in-None-2.result) own c.first_of_length-in-None-2.ensures.none))))
