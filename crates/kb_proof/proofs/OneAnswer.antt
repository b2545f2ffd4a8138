-- A log has one answer: a verified log has no fault, and any other has one first fault.
use Rattle.std.proofs.Common.{◌≡◌, ℕ, zero, suc, List, ◌++◌, length, take, Option, Some, refl, sym, ap, ◌∙◌, subst, inl, inr, arith}
use Rattle.std.specs.Prelude.{slice_get, option_to_list}
use Rattle.std.proofs.lemmas.Bool.{cases_order}
use Rattle.std.proofs.lemmas.List.{take-append-le, take_at}
use Rattle.std.proofs.lemmas.Option.{slice_get_within}
use Rattle.kb_word.specs.Words.{Pair}
use Rattle.kb_machine.specs.declared.line.Line.{Line}
use Rattle.kb_machine.proofs.Numbers.{slice_get_front, slice_get_last}
use Rattle.kb_proof.specs.Completions.{all_lines}
use Rattle.kb_proof.specs.Checking.{MayStand, MayWait}
use Rattle.kb_proof.specs.Verifying.{HasFaultAt, IsFirst, IsVerified, VerifiedSays, rank}
use Rattle.kb_proof.specs.Verifying.HasFaultAt.{of_line, of_waiting}
use Rattle.kb_proof.specs.declared.log.Log.{Log}
use Rattle.kb_proof.specs.declared.verified.Why.{Why}
use Rattle.kb_proof.specs.declared.verified.Why.TheVariants as reasons
use Rattle.kb_proof.specs.declared.verified.Verified.{Verified}
use Rattle.kb_proof.specs.declared.verified.Verified.TheVariants.{Yes, No}
use Rattle.kb_proof.proofs.Standing.{no_fault, no_waiting_fault, stands_at_index}

reason_of : ℕ → Why
reason_of zero = reasons.Origin
reason_of (suc zero) = reasons.Step
reason_of (suc (suc zero)) = reasons.Result
reason_of (suc (suc (suc zero))) = reasons.Order
reason_of (suc (suc (suc (suc k)))) = reasons.Earlier

of_rank : (why : Why) → reason_of (rank why) ≡ why
unfolding reason_of
of_rank reasons.Origin = refl
of_rank reasons.Step = refl
of_rank reasons.Result = refl
of_rank reasons.Order = refl
of_rank reasons.Earlier = refl

-- one reason is the first
first_same : {holds : Why → Type 0} {one other : Why} → IsFirst holds one → IsFirst holds other → one ≡ other
first_same {one = one} {other = other} first second = elim (cases_order (rank one) (rank other)) [
  | inl same ↦ sym (of_rank one) ∙ ap reason_of same ∙ of_rank other
  | inr apart ↦ elim apart [
    | inl less ↦ absurd (second.none_before one less first.it_holds)
    | inr more ↦ absurd (first.none_before other more second.it_holds)
  ]
]

-- a verified log has no fault
pub no_fault_at : {below : List ℕ → List ℕ → Type 0} {relations : List Pair} {log : Log} → IsVerified below relations log
    → (index : ℕ) (why : Why) → HasFaultAt below relations log index why
    → ⊥
no_fault_at {below = below} {relations = relations} {log = log} verified index why (of_line line at fault) =
    let lines = log.lines.items in
    let rest = option_to_list log.waiting in
    let stands = stands_at_index verified.justified index line (slice_get_front lines rest index line at) in
    let within = slice_get_within lines index line at in
    let same : take index (lines ++ rest) ≡ take index lines = take-append-le index lines rest (omega arith) in
    let P : List Line → Type 0 = λ earlier. MayStand below relations earlier line in
    no_fault (subst P same stands) why fault
no_fault_at {below = below} {relations = relations} {log = log} verified index why (of_waiting line end waits fault) =
    let lines = log.lines.items in
    let Q : Option Line → Type 0 = λ waiting. slice_get (lines ++ option_to_list waiting) (length lines) ≡ Some line in
    let there : Q log.waiting = subst Q (sym waits) (slice_get_last lines line) in
    let stands = stands_at_index verified.justified (length lines) line there in
    let same : take (length lines) (all_lines log) ≡ lines = take_at lines (option_to_list log.waiting) (length lines) refl in
    let P : List Line → Type 0 = λ earlier. MayStand below relations earlier line in
    let may : MayWait below relations lines line = record {
      stands = subst P same stands;
      not_shortened = verified.not_shortened line waits;
      irreducible = verified.irreducible line waits;
    } in
    no_waiting_fault may why fault

pub one_answer : (below : List ℕ → List ℕ → Type 0) (relations : List Pair) (log : Log) (one other : Verified)
    → VerifiedSays below relations log one → VerifiedSays below relations log other
    → one ≡ other
one_answer below relations log Yes Yes first second = refl
one_answer below relations log Yes (No number why) first second =
    absurd (no_fault_at first second.index why second.first.it_holds)
one_answer below relations log (No number why) Yes first second =
    absurd (no_fault_at second first.index why first.first.it_holds)
one_answer below relations log (No number why) (No other reason) first second =
    elim (cases_order first.index second.index) [
      | inl same ↦
          let numbers : number ≡ other = first.is_number ∙ ap suc same ∙ sym second.is_number in
          let P : ℕ → Type 0 = λ index. IsFirst (HasFaultAt below relations log index) reason in
          let reasons_same : why ≡ reason = first_same first.first (subst P (sym same) second.first) in
          cc (numbers, reasons_same)
      | inr apart ↦ elim apart [
        | inl less ↦ absurd (second.least first.index why less first.first.it_holds)
        | inr more ↦ absurd (first.least second.index reason more second.first.it_holds)
      ]
    ]
