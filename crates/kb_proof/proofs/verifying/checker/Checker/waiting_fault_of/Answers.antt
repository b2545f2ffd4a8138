use Rattle.std.proofs.Common.{Option, None, Some, inl, sym, subst}
use Rattle.kb_word.specs.Relations.{relations_of}
use Rattle.kb_word.specs.WordOrders.{Below}
use Rattle.kb_proof.specs.Checking.{FaultSays}
use Rattle.kb_proof.specs.Printable.{IsShortening}
use Rattle.kb_proof.specs.declared.verified.Why.{Why}
use Rattle.kb_proof.proofs.FirstReasons.{earlier_first, shortened_again, waiting_first}
use Rattle.kb_proof.proofs.verifying.checker.Checker.waiting_fault_of.Goals as goal

pub returns-in-Some : goal.returns-in-Some
returns-in-Some c =
    let presentation = c.args.presentation.now in
    let P : Option Why → Type 0 = λ found. FaultSays presentation c.args.earlier.now c.args.line.now found in
    let first : P (Some c.in-Some.why) = subst P c.in-Some.is c.in_ok-why.ensures.says in
    waiting_first (Below presentation.order) (relations_of presentation.inv presentation.eqs) c.args.earlier.now c.args.line.now c.in-Some.why first

pub returns-in-Shortened : goal.returns-in-Shortened
returns-in-Shortened c =
    let presentation = c.args.presentation.now in
    let line = c.args.line.now in
    let P : Option Why → Type 0 = λ found. FaultSays presentation c.args.earlier.now line found in
    let may : P None = subst P c.in_default.is c.in_ok-why.ensures.says in
    let shortened : IsShortening line.origin = subst IsShortening (sym c.in-Shortened.is) tt in
    earlier_first (Below presentation.order) (relations_of presentation.inv presentation.eqs) c.args.earlier.now line may
    (inl (shortened_again may shortened))
