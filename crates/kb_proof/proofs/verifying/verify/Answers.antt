use Rattle.std.proofs.Common.{◌≡◌, List, length, take, ◌++◌, ◌∷◌, [], Option, Some, None, sym, subst, refl, arith}
use Rattle.std.proofs.lemmas.Option.{slice_get_read}
use Rattle.kb_machine.specs.declared.line.Line.{Line}
use Rattle.kb_proof.specs.Checking.{FaultSays, Knows, WaitingSays}
use Rattle.kb_proof.specs.declared.verified.Why.{Why}
use Rattle.kb_proof.proofs.FirstFaults.{justified_next, line_found, waiting_found, waiting_verified}
use Rattle.kb_proof.proofs.Listed.{take_with}
use Rattle.kb_proof.proofs.verifying.verify.Goals as goal

pub returns-in-Some : goal.returns-in-Some
returns-in-Some c =
    let lines = c.as_slice-lines.result.now in
    let line = c.index-lines-index.result in
    let index = c.loop-index.index in
    let P : Option Why → Type 0 = λ found. FaultSays c.args.presentation.now (take index lines) line found in
    let first : P (Some c.in-Some.why) = subst P c.in-Some.is c.in_ok-why.ensures.says in
    line_found c.args.log.now lines index line c.in-Some.why c.as_slice-lines.ensures.value c.loop-index-test.true
    c.index-lines-index.is c.loop-index.invariant.justified first

pub loop-index-preserved : goal.loop-index-preserved
loop-index-preserved c =
    let lines = c.as_slice-lines.result.now in
    let line = c.index-lines-index.result in
    let index = c.loop-index.index in
    let front = take index lines in
    let P : Option Why → Type 0 = λ found. FaultSays c.args.presentation.now front line found in
    let may : P None = subst P c.in_default.is c.in_ok-why.ensures.says in
    let Q : List Line → Type 0 = λ all. Knows c.args.presentation.now all c.add.new.self in
    let there = slice_get_read lines (length lines) index line refl c.loop-index-test.true c.index-lines-index.is in
    let knows : Q (front ++ line ∷ []) = c.in_ok-add.ensures c.args.presentation.now front c.in_ok-why.ensures.knows in
    record {
      knows = subst Q (sym (take_with lines index line c.loop-index-test.true there)) knows;
      justified = justified_next lines index line c.loop-index-test.true c.index-lines-index.is c.loop-index.invariant.justified may;
    }

pub returns-in-Some-2 : goal.returns-in-Some-2
returns-in-Some-2 c =
    let lines = c.as_slice-lines.result.now in
    let line = c.in-Some-waiting.waiting in
    let index = c.loop-index.index in
    let some = c.loop-index-test.false in
    let most = c.loop-index.auto.index-end in
    let end : index ≡ length lines = omega arith in
    let P : Option Why → Type 0 = λ found. WaitingSays c.args.presentation.now lines line found in
    let first : P (Some c.in-Some-2.why) = subst P c.in-Some-2.is c.in_ok-why-2.ensures in
    waiting_found c.args.log.now lines index line c.in-Some-2.why c.as_slice-lines.ensures.value end c.in-Some-waiting.is
    c.loop-index.invariant.justified first

pub returns : goal.returns
returns c =
    let lines = c.as_slice-lines.result.now in
    let line = c.in-Some-waiting.waiting in
    let index = c.loop-index.index in
    let some = c.loop-index-test.false in
    let most = c.loop-index.auto.index-end in
    let end : index ≡ length lines = omega arith in
    let P : Option Why → Type 0 = λ found. WaitingSays c.args.presentation.now lines line found in
    let may : P None = subst P c.in-None.is c.in_ok-why-2.ensures in
    waiting_verified c.args.log.now lines index line c.as_slice-lines.ensures.value end c.in-Some-waiting.is
    c.loop-index.invariant.justified may
