-- The completion halts at a limit: the first pending pair waits.
use Rattle.std.proofs.Common.{◌≡◌, List, [], ◌∷◌, ◌++◌, length, Some, refl, sym, subst}
use Rattle.kb_machine.specs.declared.line.Line.{Line}
use Rattle.kb_machine.specs.declared.origin.Origin.{Origin}
use Rattle.kb_machine.proofs.Numbers.{slice_get_last}
use Rattle.kb_machine.proofs.Logs.{justified_congruent}
use Rattle.kb_machine.proofs.Appending.{justified_push}
use Rattle.kb_machine.specs.Justified.{IsJustified}
use Rattle.kb_machine.specs.States.{Problem, State, below}
use Rattle.kb_machine.specs.Machine.{LeadsApart, IsAtLimit, Halts}
use Rattle.kb_machine.specs.Course.{Waits, AreApart as WordsApart, HaltSays, waiting_line}
use Rattle.kb_machine.specs.declared.halt.Halt.{Halt}
use Rattle.kb_machine.specs.declared.halt.Halt.TheVariants.{Rules, Length}
use Rattle.kb_machine.proofs.Invariant.{Invariant}
use Rattle.kb_machine.proofs.NewLines.{all_irreducible, pending_may_come}

module _ {problem : Problem} {state : State} (inv : Invariant problem state) (origin : Origin) (rest : List Origin)
    (pending : state.pending ≡ origin ∷ rest) where
  -- the line of the pair that waits would be justified
  waiting_justified : (line : Line) → line.origin ≡ origin
      → LeadsApart problem state origin line.left line.right line.first_steps.items line.second_steps.items
      → IsJustified (below problem) problem.relations (state.lines ++ line ∷ [])
  waiting_justified line of_origin apart =
      justified_push inv.justified (pending_may_come inv origin rest pending line of_origin apart)

  waits : (halt : Halt) (line : Line) → line ≡ waiting_line origin halt → line.origin ≡ origin
      → LeadsApart problem state origin line.left line.right line.first_steps.items line.second_steps.items
      → Waits problem (record state { halt = Some halt }) halt
  waits halt line is of_origin apart =
      let justified = waiting_justified line of_origin apart in
      let P : Line → Type 0 = λ one. IsJustified (below problem) problem.relations (state.lines ++ one ∷ []) in
      let Q : Line → Type 0 = λ one. WordsApart problem (record state { halt = Some halt }) one.left one.right in
      let words : Q line = record {
        less = apart.less;
        congruent = justified_congruent justified (length state.lines) line (slice_get_last state.lines line);
        u_is_irreducible = all_irreducible inv line.left apart.u_is_irreducible;
        v_is_irreducible = all_irreducible inv line.right apart.v_is_irreducible;
      } in
      record {
        origin = origin;
        rest = rest;
        pending = pending;
        justified = subst P is justified;
        apart = subst Q is words;
      }

  halt_says : (halt : Halt) → IsAtLimit problem state origin halt
      → HaltSays problem (record state { halt = Some halt }) halt
  halt_says (Rules u v first second) limit =
      (limit.0, waits (Rules u v first second) (waiting_line origin (Rules u v first second)) refl refl limit.1)
  halt_says (Length u v first second) limit = (
    limit.0,
    limit.1,
    waits (Length u v first second)
        (waiting_line origin (Length u v first second)) refl refl limit.2,
  )

halted_kept : {problem : Problem} {before after : State} (inv : Invariant problem before)
    (step : Halts problem before after)
    → Invariant problem (record before { halt = Some step.halt })
halted_kept inv step = record {
  kept = inv.kept;
  justified = inv.justified;
  factors = inv.factors;
  few = inv.few;
  ascending = inv.ascending;
  numbers = inv.numbers;
  waiting = inv.waiting;
  apart = inv.apart;
  gone = inv.gone;
  halted = halt_says inv step.origin step.rest step.pending.is step.halt step.limit;
}

-- what is kept stays where the completion halts
pub halts_kept : {problem : Problem} {before after : State} → Invariant problem before → Halts problem before after
    → Invariant problem after
halts_kept {problem = problem} inv step = subst (Invariant problem) (sym step.is) (halted_kept inv step)
