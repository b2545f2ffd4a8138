use Rattle.std.proofs.Common.{rules, ◌≢◌, ◌∷◌, [], List, ℕ, Some}
use Rattle.std.specs.Prelude.{None, IfNone, Option, IfOk, Result, Ok, Err, All}
use Rattle.kb_machine.specs.declared.line.LogStep.{LogStep}
use Rattle.kb_proof.specs.Printable.{FitsStep}
use Rattle.kb_proof.specs.Printed.{text_of_step, text_of_steps}
use Rattle.kb_proof.specs.Reading.{ReadsJoined}
use Rattle.kb_proof.proofs.TextLemmas.{no_steps_read}
use Rattle.kb_proof.proofs.steps.read_steps.Goals as goal

-- where no steps are read the bytes are no text of steps
none_read : {T E : Type 0} (bytes : List ℕ) (answer : Result (Option T) E) → bytes ≢ 45 ∷ []
    → IfOk answer (λ found. IfNone found (ReadsJoined 44 text_of_step FitsStep bytes None))
    → IfOk answer (λ found. IfNone found ((steps : List LogStep) → All FitsStep steps → bytes ≢ text_of_steps steps))
none_read bytes (Ok None) other none = λ steps all. no_steps_read bytes steps other none all
none_read bytes (Ok (Some x)) other none = tt
none_read bytes (Err e) other none = tt

pub returns-clause-none : goal.returns-clause-none
returns-clause-none c =
    let other : c.args.bytes.now ≢ 45 ∷ [] = search rules in
    none_read c.args.bytes.now c.read_some_steps.result other c.read_some_steps.ensures.none
