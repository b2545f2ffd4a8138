use Rattle.std.proofs.Common.{◌≡◌, ℕ, List, [], Err, sym, ap, subst, ◌∙◌}
use Rattle.std.proofs.lemmas.Result.{err_from_is_err_and}
use Rattle.kb_explore.specs.declared.det.Det.TheVariants.{TooManyStates}
use Rattle.kb_explore.specs.Progress.{Numbers, IsOneTooMany}
use Rattle.kb_explore.proofs.Starting.{Progress-none, Progress-started, too_many_at_start, too_many_before}
use Rattle.kb_explore.proofs.seen.start.Goals as goal

pub returns-in_default-clause-progress : goal.returns-in_default-clause-progress
returns-in_default-clause-progress g c =
    rw (c.new.ensures.empty, c.new-2.ensures.items)
    (Progress-none (g.M.Machine.machine c.args.machine.now) (g.M.Machine.symbols c.args.machine.now) (sym c.in_ok-state.ensures ∙ c.in_default.is))

pub returns-in_err-number-clause-many : goal.returns-in_err-number-clause-many
returns-in_err-number-clause-many g c most e =
    let exit = err_from_is_err_and c.from_residual-in_err-number.result c.from_residual-in_err-number.ensures.1 in
    let same : c.in_err-number.field-0.0 ≡ TooManyStates most = cc (exit.1, exit.2, e) in
    let answer = c.in_err-number.ensures.many most (ap (λ det. Err det) same) in
    let P : List g.row.M-State.Denot → Type 0 = λ xs. IsOneTooMany c.args.limit xs c.in-Some.state in (
      answer.0,
      too_many_at_start (g.M.Machine.machine c.args.machine.now) (g.M.Machine.symbols c.args.machine.now) c.in-Some.state
          (sym c.in_ok-state.ensures ∙ c.in-Some.is) c.args.limit (subst P c.new.ensures.empty answer.1),
    )

pub returns-in_err-number-clause-before : goal.returns-in_err-number-clause-before
returns-in_err-number-clause-before g c most e =
    let exit = err_from_is_err_and c.from_residual-in_err-number.result c.from_residual-in_err-number.ensures.1 in
    let same : c.in_err-number.field-0.0 ≡ TooManyStates most = cc (exit.1, exit.2, e) in
    let answer = c.in_err-number.ensures.many most (ap (λ det. Err det) same) in
    let P : List g.row.M-State.Denot → Type 0 = λ xs. IsOneTooMany c.args.limit xs c.in-Some.state in
    too_many_before (g.M.Machine.machine c.args.machine.now) (g.M.Machine.symbols c.args.machine.now) c.in-Some.state
    (sym c.in_ok-state.ensures ∙ c.in-Some.is) c.args.limit (subst P c.new.ensures.empty answer.1)

pub returns-clause-progress : goal.returns-clause-progress
returns-clause-progress g c =
    let P : List g.row.M-State.Denot → Type 0 = λ xs. Numbers xs c.new-2.result.items c.in-Some.state (0, 0)
    c.number.new.seen.states.keys c.number.new.seen.origins.items c.in_ok-number.field-0 in
    let Q : List (ℕ × ℕ) → Type 0 = λ os. Numbers [] os c.in-Some.state (0, 0)
    c.number.new.seen.states.keys c.number.new.seen.origins.items c.in_ok-number.field-0 in
    Progress-started (g.M.Machine.machine c.args.machine.now) (g.M.Machine.symbols c.args.machine.now) c.in-Some.state
    (sym c.in_ok-state.ensures ∙ c.in-Some.is) c.number.new.seen.states.keys c.number.new.seen.origins.items c.in_ok-number.field-0
    (subst Q c.new-2.ensures.items (subst P c.new.ensures.empty c.in_ok-number.ensures.numbers))
